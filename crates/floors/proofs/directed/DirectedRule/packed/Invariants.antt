use Rattle.std.proofs.Common.{◌≡◌, length, drop}
use Rattle.std.specs.Slice.Iter.{windows_rest, windows_size}
use Rattle.rings.specs.Automaton.{toward}
use Rattle.floors.proofs.Asking.{Digits}
use Rattle.floors.proofs.directed.DirectedRule.packed.Given as goal

abbrev pub invariant-loop-window : goal.invariant-loop-window
invariant-loop-window g l =
    (goal.iterator-loop-window g).can_next l.window-iterator
    × (windows_size l.window-iterator ≡ l.self.width)
    × (windows_rest l.window-iterator ≡ drop (length l.yielded) (windows_rest l.initial.window-iterator))
    × Digits l.self.states (toward l.self.direction (g.R.Rule.meaning l.self.rule.now)) l.self.width l.fn.block.cells (windows_rest l.initial.window-iterator) (length l.yielded) l.code l.weight
