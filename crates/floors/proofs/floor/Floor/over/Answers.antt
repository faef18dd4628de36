use Rattle.floors.proofs.Laws.{floor_law}
use Rattle.floors.proofs.floor.Floor.over.Goals as goal

pub returns-clause-law : goal.returns-clause-law
returns-clause-law g c = floor_law c.args.action _ (g.met.T.Tower.stands c.args.below)
