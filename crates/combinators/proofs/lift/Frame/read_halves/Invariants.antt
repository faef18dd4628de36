use Rattle.std.proofs.Common.{◌≡◌, ℕ, ◌+◌, ◌<◌, get_or}
use Rattle.combinators.specs.Lifts.{half}
use Rattle.combinators.proofs.lift.Frame.read_halves.Given as goal

abbrev pub invariant-loop-i : goal.invariant-loop-i
invariant-loop-i l = (k : ℕ) → k < l.i → get_or l.halves k 0 ≡ half l.direction l.self.states (get_or l.window (l.self.first + k) 0)
