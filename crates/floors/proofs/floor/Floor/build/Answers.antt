use Rattle.std.proofs.Common.{sym, refl, ap, ◌∙◌}
use Rattle.rings.specs.Refusals.{outcome}
use Rattle.rings.proofs.Refusals.{refused}
use Rattle.floors.specs.Floors.{floor_fault}
use Rattle.floors.proofs.Laws.{floor_law}
use Rattle.floors.proofs.floor.Floor.build.Goals as goal

pub returns-in-Ok-clause-law : goal.returns-in-Ok-clause-law
returns-in-Ok-clause-law g c = floor_law c.args.action _ (g.met.T.Tower.stands c.args.below)

pub returns-in-Err-clause-law : goal.returns-in-Err-clause-law
returns-in-Err-clause-law g c = floor_law c.args.action _ (g.met.T.Tower.stands c.args.below)

pub returns-in-Err-clause-answer : goal.returns-in-Err-clause-answer
returns-in-Err-clause-answer g c = (sym (refused _ _ (c.in-Err.ensures ∙ ap (λ x. outcome (floor_fault c.args.action x c.args.floor)) c.of.ensures)), refl)
