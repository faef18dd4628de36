use Rattle.worked.proofs.Worked.{worked_rings}
use Rattle.worked.proofs.examples.worked_rings.Goals as goal

pub returns : goal.returns
returns c = record { law = worked_rings }
