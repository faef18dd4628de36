use Rattle.std.proofs.Common.{length}
use Rattle.towers.proofs.Encodings.{Written}
use Rattle.towers.proofs.encoding.write_encoded.Given as goal

abbrev pub invariant-loop-j : goal.invariant-loop-j
invariant-loop-j g l = Written (g.T.Tower.tower l.tower) (length l.fn.cells) l.ring l.cells l.j
