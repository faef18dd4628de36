use Rattle.combinators.specs.LiftsLemmas.{lift-laws}
use Rattle.combinators.proofs.lift.Lift.build.Goals as goal

pub returns-then-is_none-clause-law : goal.returns-then-is_none-clause-law
returns-then-is_none-clause-law g c = lift-laws _ (g.met.R.Rule.lawful c.args.rule).sound

pub returns-clause-law : goal.returns-clause-law
returns-clause-law g c = lift-laws _ (g.met.R.Rule.lawful c.args.rule).sound
