use Rattle.std.proofs.Common.{◌≡◌, ◌*◌, length, take}
use Rattle.rings.specs.Packing.{unblocks}
use Rattle.floors.proofs.directed.unpack.Given as goal

abbrev pub invariant-loop-i : goal.invariant-loop-i
invariant-loop-i l = (take (l.i * l.size) l.cells ≡ take (l.i * l.size) (unblocks l.states l.size l.window)) × (length l.cells ≡ length l.initial.cells)
