-- The number and the place of every refusal of a run, which holds that of a tower whole.
use Rattle.std.specs.Prelude.{ℕ}
use Rattle.towers.specs.Faults.{tower_fault_number, tower_fault_place}
use Rattle.runs.specs.declared.fault.RunFault.{RunFault}
use Rattle.runs.specs.declared.fault.RunFault.TheVariants.{Tower, TooFar}

-- The number of a refusal.
abbrev pub run_fault_number : RunFault → ℕ
run_fault_number (Tower f) = tower_fault_number f
run_fault_number TooFar = 6

-- The index that a refusal points at, or 0.
abbrev pub run_fault_place : RunFault → ℕ
run_fault_place (Tower f) = tower_fault_place f
run_fault_place TooFar = 0
