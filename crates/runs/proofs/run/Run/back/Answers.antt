use Rattle.rings.specs.declared.Direction.TheVariants.{Backward}
use Rattle.runs.specs.Views.{state_of}
use Rattle.runs.proofs.Shown.{move_law}
use Rattle.runs.proofs.run.Run.back.Goals as goal

pub returns-clause-law : goal.returns-clause-law
returns-clause-law g c =
    let x = c.args.self.now.tower in
    move_law (g.T.Tower.tower x) (g.met.T.Tower.stands x).laws Backward c.args.count (state_of c.args.self.now c.args.a.now c.args.b.now) _ _ c.travel.ensures.answer c.travel.ensures.state.1
