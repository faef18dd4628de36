-- The numbers on which an action acts, and what it answers.
use Rattle.std.specs.Prelude.{ℕ, ◌≤◌, cond, ◌&&◌, ℤ, ◌≤ℤ◌, IfSome, Some, None, Option, Result, unsigned_abs}
use Rattle.std.specs.Option.{ok_or}
use Rattle.rings.specs.Limits.{max_states, min_end, max_end, max_width}
use Rattle.rings.specs.Local.{span}
use Rattle.rules.specs.declared.fault.RuleFault.TheVariants.{OutOfRange}
use Rattle.floors.specs.declared.action.Action.{Action}
use Rattle.towers.specs.declared.fault.TowerFault.{TowerFault}
use Rattle.towers.specs.declared.fault.TowerFault.TheVariants.{Rule}
use Rattle.towers.specs.declared.numbers.Numbers.{Numbers}
use Rattle.towers.specs.Limits.{max_block, max_steps, max_drift}
use Rattle.floors.specs.Actions.{act_numbers, in_range, fits, within_limits, numbered_action}

-- the numbers of a tower

-- The ends of an interval as a rule has them.
pub record LawfulEnds (lo hi : ℤ) : Type 0 where
  pub low : min_end ≤ℤ lo
  pub ordered : lo ≤ℤ hi
  pub high : hi ≤ℤ max_end
  pub narrow : span lo hi ≤ max_width

-- The ends of the interval of an inverse, if there is one, as a rule has them.
abbrev pub LawfulInverse : Option (ℤ × ℤ) → Type 0
LawfulInverse o = IfSome o (λ e. LawfulEnds e.0 e.1)

-- Numbers that can be packed: those of a tower, whatever its steps and its drift.
pub record Packable (x : Numbers) : Type 0 where
  pub ends : LawfulEnds x.lo x.hi
  pub inverse : LawfulInverse x.inverse
  pub some : 1 ≤ x.states
  pub few : x.states ≤ max_states
  pub block : x.block ≤ max_block

-- The numbers of a tower within the limits.
pub record Workable (x : Numbers) : Type 0 where
  pub packable : Packable x
  pub steps : x.steps ≤ max_steps
  pub drift : unsigned_abs x.drift ≤ max_drift

-- what an action answers

-- The numbers, if they are within the limits.
abbrev pub limited : Numbers → Option Numbers
limited x = cond (within_limits x) (Some x) None

-- The numbers after an action, if its argument is in range and its outcome fits.
abbrev pub acted : Action → Numbers → Option Numbers
acted act x = cond (in_range act && fits act x) (Some (act_numbers act x)) None

-- The action with a number and an argument; refused where there is none.
abbrev pub action_answer : ℕ → ℤ → Result Action TowerFault
action_answer n a = ok_or (numbered_action n a) (Rule OutOfRange)
