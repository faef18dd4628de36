use Rattle.std.proofs.Common.{◌≡◌, length, drop}
use Rattle.std.specs.Option.{option_or}
use Rattle.runs.specs.Calls.{performed, performed_third, first_refused}
use Rattle.runs.specs.Views.{state_of}
use Rattle.runs.proofs.run.Run.perform.Given as goal

abbrev pub invariant-loop-index : goal.invariant-loop-index
invariant-loop-index g l =
    (l.self.tower ≡ l.initial.self.tower)
    × (length l.third ≡ length l.initial.third)
    × (performed (g.T.Tower.tower l.initial.self.tower) (drop l.index l.calls) (state_of l.self l.a l.b)
    ≡ performed (g.T.Tower.tower l.initial.self.tower) l.calls (state_of l.initial.self l.initial.a l.initial.b))
    × (performed_third (g.T.Tower.tower l.initial.self.tower) (drop l.index l.calls) (state_of l.self l.a l.b) l.third
    ≡ performed_third (g.T.Tower.tower l.initial.self.tower) l.calls (state_of l.initial.self l.initial.a l.initial.b) l.initial.third)
    × (option_or l.refused (first_refused (g.T.Tower.tower l.initial.self.tower) l.index (drop l.index l.calls) (state_of l.self l.a l.b) (length l.initial.third))
    ≡ first_refused (g.T.Tower.tower l.initial.self.tower) 0 l.calls (state_of l.initial.self l.initial.a l.initial.b) (length l.initial.third))
