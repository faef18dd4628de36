-- What a tower answers when it is asked for the place of a bottom cell.
use Rattle.std.specs.Prelude.{ℕ, ◌%◌, cond, Ok, Err, Result, ◌==◌, nat_le}
use Rattle.rules.specs.declared.fault.RuleFault.TheVariants.{EmptyRing, OutOfRange}
use Rattle.towers.specs.declared.Place.{Place}
use Rattle.towers.specs.declared.fault.TowerFault.{TowerFault}
use Rattle.towers.specs.declared.fault.TowerFault.TheVariants.{Rule, Ragged}
use Rattle.towers.specs.Towers.{Tower}

-- The place of the cell j of a bottom ring of n cells. Refused for no cell, then for a number of cells that is not a multiple of the
-- block, then for a cell that is not in the ring.
abbrev pub place_answer : Tower → ℕ → ℕ → Result Place TowerFault
place_answer t n j =
    cond (n == 0) (Err (Rule EmptyRing))
    (cond (n % t.block == 0) (cond (nat_le n j) (Err (Rule OutOfRange)) (Ok (record { cell = (t.place n j).0; digit = (t.place n j).1 }))) (Err Ragged))
