-- What the values of the program stand for: machines, configurations and codes.
use Rattle.std.specs.Prelude.{ℕ, ◌+◌, ◌*◌, ◌<◌}
use Rattle.machines.specs.declared.configuration.Configuration.{Configuration as Drawn}
use Rattle.machines.specs.declared.machine.Turing.{Turing}
use Rattle.machines.specs.Turing.{Machine, Configuration}
use Rattle.machines.specs.Transitions.{listed}

-- The machine that a value stands for.
abbrev pub machine_of : Turing → Machine
machine_of t = listed t.sizes.symbols t.sizes.heads t.transitions.list

-- The configuration that a value stands for.
abbrev pub configuration_of : Drawn → Configuration
configuration_of c = record { tape = c.tape.now; position = c.position; state = c.state }

-- The number is the code of a cell.
abbrev pub IsCode : Turing → ℕ → Type 0
IsCode t x = x < t.sizes.symbols * (t.sizes.heads + 1)
