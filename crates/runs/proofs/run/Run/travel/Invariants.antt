use Rattle.runs.specs.States.{moved}
use Rattle.runs.specs.Views.{state_of, InState}
use Rattle.runs.proofs.run.Run.travel.Given as goal

abbrev pub invariant-loop : goal.invariant-loop
invariant-loop g l =
    InState l.self l.a l.b l.initial.self.tower (moved l.steps.direction (g.T.Tower.tower l.initial.self.tower).top l.counter (state_of l.initial.self l.initial.a l.initial.b))
