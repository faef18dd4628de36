use Rattle.std.proofs.Common.{◌≡◌, ℕ, ◌/◌, ◌^◌, ◌<◌, get_or}
use Rattle.rings.specs.Packing.{digit}
use Rattle.floors.proofs.directed.write_digits.Given as goal

abbrev pub invariant-loop-cell : goal.invariant-loop-cell
invariant-loop-cell l = (l.rest ≡ l.code / l.states ^ l.cell-index) × ((k : ℕ) → k < l.cell-index → get_or l.cells k 0 ≡ digit l.states l.code k)
