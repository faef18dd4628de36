use Rattle.std.proofs.Common.{◌≡◌, ℕ, ◌<◌, length, get_or, drop}
use Rattle.rings.specs.Automaton.{toward}
use Rattle.rules.specs.Steps.{value_of, part}
use Rattle.floors.proofs.directed.DirectedRule.advance.Given as goal

abbrev pub invariant-loop-i : goal.invariant-loop-i
invariant-loop-i g l =
    ((k : ℕ) → k < l.i → get_or l.row k 0 ≡ value_of (toward l.self.direction (g.R.Rule.meaning l.self.rule.now)) (part l.initial.row k l.self.width))
    × (drop l.i l.row ≡ drop l.i l.initial.row) × (length l.row ≡ length l.initial.row)
