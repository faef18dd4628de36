use Rattle.std.proofs.Common.{◌≡◌, drop}
use Rattle.rings.specs.Ring.{stray_from, first_stray}
use Rattle.rings.proofs.first_stray.Given as goal

abbrev pub invariant-loop-i : goal.invariant-loop-i
invariant-loop-i l = stray_from l.i l.states (drop l.i l.cells) ≡ first_stray l.states l.cells
