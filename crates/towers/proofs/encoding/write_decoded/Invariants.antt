use Rattle.std.proofs.Common.{◌≡◌, ℕ, ◌<◌, get_or}
use Rattle.towers.proofs.encoding.write_decoded.Given as goal

abbrev pub invariant-loop-j : goal.invariant-loop-j
invariant-loop-j g l = (k : ℕ) → k < l.j → get_or l.cells k 0 ≡ get_or ((g.T.Tower.tower l.tower).decode l.ring) k 0
