use Rattle.std.proofs.Common.{rules}
use Rattle.floors.specs.Actions.{within_limits}
use Rattle.floors.proofs.numbers.within_limits.Goals as goal

pub returns-then-numbers-le-MAX_STEPS : goal.returns-then-numbers-le-MAX_STEPS
unfolding within_limits
returns-then-numbers-le-MAX_STEPS c = search rules

pub returns-else-numbers-le-MAX_STEPS : goal.returns-else-numbers-le-MAX_STEPS
unfolding within_limits
returns-else-numbers-le-MAX_STEPS c = search rules
