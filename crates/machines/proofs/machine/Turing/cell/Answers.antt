use Rattle.std.proofs.Common.{rules}
use Rattle.machines.specs.ViewsLemmas.{machine_sized}
use Rattle.machines.specs.TransitionsLemmas.{acts_at}
use Rattle.machines.proofs.machine.Turing.cell.Goals as goal

pub returns-clause-transition : goal.returns-clause-transition
returns-clause-transition c =
    let t = c.args.self.now in
    let index = c.checked_sub-index in
    acts_at t.sizes.symbols t.sizes.heads t.transitions.list c.args.code index.result c.map.result (machine_sized t).some_symbol index.ensures (search rules)
