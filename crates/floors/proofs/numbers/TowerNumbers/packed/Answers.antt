use Rattle.std.proofs.Common.{◌∙◌}
use Rattle.floors.specs.ActingLemmas.{packed_not}
use Rattle.floors.proofs.numbers.TowerNumbers.packed.Goals as goal

pub returns-in_err-states : goal.returns-in_err-states
returns-in_err-states c = c.from_residual.ensures ∙ packed_not c.args.block.cells c.args.self.numbers c.in_err-states.ensures
