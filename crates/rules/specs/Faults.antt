-- The number and the place of every refusal of a rule. A place that is not named is 0.
use Rattle.std.specs.Prelude.{ℕ}
use Rattle.rules.specs.declared.fault.RuleFault.{RuleFault}
use Rattle.rules.specs.declared.fault.RuleFault.TheVariants.{EmptyRing, LongRing, StrayCode, ShortBuffer, NoInverse, WrongLength, OutOfRange, BadEntry, Unliftable}

abbrev pub fault_number : RuleFault → ℕ
fault_number EmptyRing = 1
fault_number LongRing = 2
fault_number (StrayCode i) = 4
fault_number ShortBuffer = 5
fault_number NoInverse = 7
fault_number WrongLength = 8
fault_number OutOfRange = 9
fault_number (BadEntry i) = 10
fault_number Unliftable = 11

abbrev pub fault_place : RuleFault → ℕ
fault_place EmptyRing = 0
fault_place LongRing = 0
fault_place (StrayCode i) = i
fault_place ShortBuffer = 0
fault_place NoInverse = 0
fault_place WrongLength = 0
fault_place OutOfRange = 0
fault_place (BadEntry i) = i
fault_place Unliftable = 0
