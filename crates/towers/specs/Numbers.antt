-- The numbers of a tower, and its laws with their bounds.
use Rattle.std.specs.Prelude.{◌≤◌, unsigned_abs}
use Rattle.rings.specs.Automaton.{Bounded}
use Rattle.rules.specs.Answers.{ends}
use Rattle.towers.specs.declared.numbers.Numbers.{Numbers}
use Rattle.towers.specs.Limits.{max_block, max_steps, max_drift}
use Rattle.towers.specs.Towers.{Tower, Stands}

-- All the numbers that a tower tells.
abbrev pub numbers_of : Tower → Numbers
numbers_of t = record {
  states = t.top.states;
  lo = t.top.forward.lo;
  hi = t.top.forward.hi;
  inverse = ends t.top.inverse;
  block = t.block;
  steps = t.steps;
  drift = t.drift;
  mirrored = t.mirrored;
  bottom = t.bottom.states;
}

-- The laws of a tower, and the bounds of its numbers.
pub record Standing (t : Tower) : Type 0 where
  pub laws : Stands t
  pub top : Bounded t.top
  pub bottom : Bounded t.bottom
  pub block : t.block ≤ max_block
  pub steps : t.steps ≤ max_steps
  pub drift : unsigned_abs t.drift ≤ max_drift
