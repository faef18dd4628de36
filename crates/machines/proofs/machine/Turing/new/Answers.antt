use Rattle.machines.specs.TransitionsLemmas.{new_list-fits, idles_new}
use Rattle.machines.proofs.Worked.{worked_rings}
use Rattle.machines.proofs.machine.Turing.new.Goals as goal

pub returns-in_err-sizes-clause-worked : goal.returns-in_err-sizes-clause-worked
returns-in_err-sizes-clause-worked c = worked_rings

pub invariant_of-result-clause-proper : goal.invariant_of-result-clause-proper
invariant_of-result-clause-proper c =
    let s = c.in_ok-sizes.sizes in
    rw c.idle.ensures (new_list-fits s.symbols s.heads s.fits)

pub returns-clause-law : goal.returns-clause-law
returns-clause-law c = idles_new c.args.symbols c.args.heads

pub returns-clause-worked : goal.returns-clause-worked
returns-clause-worked c = worked_rings
