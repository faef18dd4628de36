use Rattle.std.proofs.Common.{◌≡◌, ℕ, ◌<◌, length, get_or, pos, ◌+ℤ◌}
use Rattle.rings.specs.Integers.{floor_mod}
use Rattle.rings.specs.Ring.{at}
use Rattle.rules.proofs.map.unroll.Given as goal

abbrev pub invariant-loop-cell : goal.invariant-loop-cell
invariant-loop-cell l =
    (l.place < length l.ring) × (l.place ≡ floor_mod (pos l.start +ℤ pos l.cell-index) (length l.ring))
    × ((k : ℕ) → k < l.cell-index → get_or l.cells k 0 ≡ at l.ring (pos l.start +ℤ pos k))
