-- The number and the place of every refusal of a tower, which holds that of a rule whole.
use Rattle.std.specs.Prelude.{ℕ}
use Rattle.rules.specs.Faults.{fault_number, fault_place}
use Rattle.towers.specs.declared.fault.TowerFault.{TowerFault}
use Rattle.towers.specs.declared.fault.TowerFault.TheVariants.{Rule, Ragged, Unfit}

abbrev pub tower_fault_number : TowerFault → ℕ
tower_fault_number (Rule f) = fault_number f
tower_fault_number Ragged = 3
tower_fault_number (Unfit floor) = 11

abbrev pub tower_fault_place : TowerFault → ℕ
tower_fault_place (Rule f) = fault_place f
tower_fault_place Ragged = 0
tower_fault_place (Unfit floor) = floor
