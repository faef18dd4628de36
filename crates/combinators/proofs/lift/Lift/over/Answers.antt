use Rattle.combinators.specs.LiftsLemmas.{lift-laws}
use Rattle.combinators.proofs.lift.Lift.over.Goals as goal

pub returns-clause-law : goal.returns-clause-law
returns-clause-law g c = lift-laws _ (g.met.R.Rule.lawful c.args.rule).sound
