-- The worked rings, by computation.
use Rattle.std.proofs.Common.{refl}
use Rattle.rings.specs.Integers.{floor_mod}
use Rattle.rings.specs.Line.{tabulate, power}
use Rattle.rings.specs.Local.{ring_map}
use Rattle.rules.specs.Tables.{entry_index}
use Rattle.combinators.specs.Lifts.{lift_value}
use Rattle.machines.specs.Worked.{WorkedRings}

pub worked_rings : WorkedRings
unfolding ring_map tabulate floor_mod power entry_index lift_value
worked_rings = record {
  first_step = refl;
  second_step = refl;
  one_cell = refl;
  lift = refl;
  lift_back = refl;
  machine = refl;
  machine_one_cell = refl;
}
