use Rattle.std.proofs.Common.{rules}
use Rattle.machines.specs.Transitions.{new_transition, new_list, blank}
use Rattle.machines.proofs.Arrays.{from_fn_map}
use Rattle.machines.proofs.transition.Transitions.idle.Goals as goal

pub returns : goal.returns
unfolding new_list
returns c = from_fn_map _ (new_transition c.args.sizes.symbols c.args.sizes.heads) _ 512 (λ i y q l r. search rules) c.from_fn.result blank c.from_fn.ensures.items
