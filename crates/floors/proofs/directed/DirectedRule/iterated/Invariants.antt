use Rattle.std.proofs.Common.{◌≡◌, ◌+◌, ◌-◌, ◌*◌, take}
use Rattle.rings.specs.Automaton.{toward}
use Rattle.rings.specs.Line.{power}
use Rattle.rings.specs.Transformations.{map_list_windows}
use Rattle.rules.specs.Steps.{value_of}
use Rattle.floors.proofs.directed.DirectedRule.iterated.Given as goal

abbrev pub invariant-loop-left : goal.invariant-loop-left
invariant-loop-left g l =
    take (l.left * (l.self.width - 1) + 1) l.row ≡ power (map_list_windows (value_of (toward l.self.direction (g.R.Rule.meaning l.self.rule.now))) l.self.width) (l.times - l.left) l.window
