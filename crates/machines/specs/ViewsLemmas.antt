-- Lemmas on the machines of the program.
use Rattle.std.proofs.Common.{arith}
use Rattle.rings.specs.Automaton.{Lawful}
use Rattle.machines.specs.declared.machine.Turing.{Turing}
use Rattle.machines.specs.Turing.{ProperMachine, turing, StepsAsItsMachine}
use Rattle.machines.specs.Machines.{turing_lawful, turing_steps}
use Rattle.machines.specs.TransitionsLemmas.{Sized, sized, proper-listed, states_le}
use Rattle.machines.specs.Views.{machine_of}

-- what its sizes say
pub machine_sized : (t : Turing) → Sized t.sizes.symbols t.sizes.heads
machine_sized t = sized t.sizes.symbols t.sizes.heads t.sizes.fits

pub machine_proper : (t : Turing) → ProperMachine (machine_of t)
machine_proper t = proper-listed t.sizes.symbols t.sizes.heads t.transitions.list t.sizes.fits t.proper

pub machine_lawful : (t : Turing) → Lawful (turing (machine_of t))
machine_lawful t = turing_lawful (machine_of t) (machine_proper t) (omega (arith, states_le t.sizes.symbols t.sizes.heads t.sizes.fits))

pub machine_steps : (t : Turing) → StepsAsItsMachine (machine_of t)
machine_steps t = turing_steps (machine_of t) (machine_proper t)
