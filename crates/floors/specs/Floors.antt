-- What a floor does with the places of the tower below it, and why one is refused.
use Rattle.std.specs.Prelude.{ℕ, ◌+◌, ◌-◌, ◌*◌, ◌/◌, ◌%◌, cond, Some, None, Option}
use Rattle.rules.specs.declared.fault.RuleFault.TheVariants.{OutOfRange}
use Rattle.towers.specs.declared.Place.{Place}
use Rattle.floors.specs.declared.action.Action.{Action}
use Rattle.floors.specs.declared.action.Action.TheVariants.{Unchanged, Pack, Iterate, Shift, Mirror, Reduce}
use Rattle.towers.specs.declared.fault.TowerFault.{TowerFault}
use Rattle.towers.specs.declared.fault.TowerFault.TheVariants.{Rule, Unfit}
use Rattle.towers.specs.declared.numbers.Numbers.{Numbers}
use Rattle.floors.specs.Actions.{reduced_block, in_range, fits}

-- The place after m cells of `block` digits each are packed into one.
abbrev pub packed_place : ℕ → ℕ → Place → Place
packed_place m block p = record { cell = p.cell / m; digit = p.cell % m * block + p.digit }

-- The place in the mirror, in a ring of so many cells.
abbrev pub mirrored_place : ℕ → Place → Place
mirrored_place cells p = record { cell = cells - 1 - p.cell; digit = p.digit }

-- The place after an action on a tower with the numbers x, for a bottom ring of n cells.
abbrev pub moved_place : Action → Numbers → ℕ → Place → Place
moved_place Unchanged x n p = p
moved_place (Pack m) x n p = packed_place m x.block p
moved_place (Iterate u) x n p = p
moved_place (Shift s) x n p = p
moved_place Mirror x n p = mirrored_place (n / x.block) p
moved_place Reduce x n p = packed_place (reduced_block x) x.block p

-- Why the floor with this number is refused over a tower with the numbers x, if it is: an argument out of range, then an action that does
-- not fit.
abbrev pub floor_fault : Action → Numbers → ℕ → Option TowerFault
floor_fault act x floor = cond (in_range act) (cond (fits act x) None (Some (Unfit floor))) (Some (Rule OutOfRange))
