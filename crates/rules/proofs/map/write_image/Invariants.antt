use Rattle.std.proofs.Common.{◌≡◌, ℕ, ◌<◌, length, get_or}
use Rattle.rings.specs.Automaton.{toward}
use Rattle.rules.specs.Steps.{value_of, part}
use Rattle.rules.proofs.Maps.{Windows}
use Rattle.rules.proofs.map.write_image.Given as goal

abbrev pub invariant-loop-i : goal.invariant-loop-i
invariant-loop-i g l =
    Windows (g.R.Rule.meaning l.rule).states (toward l.direction (g.R.Rule.meaning l.rule)) l.ring l.unrolled l.width
    × (length l.cell-items ≡ length l.initial.cell-items)
    × ((k : ℕ) → k < l.i → get_or l.cell-items k 0 ≡ value_of (toward l.direction (g.R.Rule.meaning l.rule)) (part l.unrolled k l.width))
