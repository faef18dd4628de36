use Rattle.std.proofs.Common.{◌≡◌, ◌*◌, ◌≤◌, true, rules}
use Rattle.combinators.specs.Lifts.{hull_span, liftable}
use Rattle.combinators.proofs.lift.Frame.of.Goals as goal

pub returns : goal.returns
returns c =
    let s = c.args.shape in
    let few : s.states * s.states ≤ 16777216 = search rules in
    let narrow : hull_span s.lo s.hi ≤ 64 = search rules in
    let can : liftable s ≡ true = search rules in
    rw can (search rules)
