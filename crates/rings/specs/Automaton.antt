-- What a rule means: a cellular automaton, its laws, and its steps forward and back.
use Rattle.std.specs.Prelude.{◌≡◌, ℕ, suc, ◌≤◌, List, ℤ, pos, negsuc, neg_ℤ, ◌+ℤ◌, ◌≤ℤ◌, IfSome, IfNone, Some, None, Option}
use Rattle.rings.specs.declared.Direction.{Direction}
use Rattle.rings.specs.declared.Direction.TheVariants.{Forward, Backward}
use Rattle.rings.specs.Line.{power}
use Rattle.rings.specs.Ring.{Ring}
use Rattle.rings.specs.Limits.{max_states, min_end, max_end, max_width}
use Rattle.rings.specs.Local.{Local, width, ring_map, Closed, Undoes}

-- The number of states, the local function, and the local function of the inverse if there is one.
pub record Automaton : Type 0 where
  pub states : ℕ
  pub forward : Local
  pub inverse : Option Local

-- The bounds of an interval.
pub record Narrow (l : Local) : Type 0 where
  pub low : min_end ≤ℤ l.lo
  pub high : l.hi ≤ℤ max_end
  pub narrow : width l ≤ max_width

-- The bounds of an automaton's numbers.
pub record Bounded (a : Automaton) : Type 0 where
  pub few : a.states ≤ max_states
  pub forward : Narrow a.forward
  pub inverse : IfSome a.inverse Narrow

-- An interval with its ends in order, and a local function that gives codes below q.
pub record Proper (q : ℕ) (l : Local) : Type 0 where
  pub ordered : l.lo ≤ℤ l.hi
  pub closed : Closed q l

-- g is an exact inverse of f: each undoes the other, on every ring.
pub record Inverse (q : ℕ) (f g : Local) : Type 0 where
  pub proper : Proper q g
  pub after : Undoes q g f
  pub before : Undoes q f g

-- The laws of an automaton apart from its bounds.
pub record Sound (a : Automaton) : Type 0 where
  pub some : 1 ≤ a.states
  pub forward : Proper a.states a.forward
  pub inverse : IfSome a.inverse (Inverse a.states a.forward)

-- The laws of a rule.
pub record Lawful (a : Automaton) : Type 0 where
  pub bounded : Bounded a
  pub sound : Sound a

-- The local function of a direction: backward there may be none.
abbrev pub toward : Direction → Automaton → Option Local
toward Forward a = Some a.forward
toward Backward a = a.inverse

-- n steps of a direction, as a number of steps.
abbrev pub toward_steps : Direction → ℕ → ℤ
toward_steps Forward n = pos n
toward_steps Backward n = neg_ℤ (pos n)

-- n steps of the inverse; without one, nothing happens.
abbrev pub undone : Option Local → ℕ → List ℕ → List ℕ
undone None n c = c
undone (Some g) n c = power (ring_map g) n c

-- The ring that the automaton reaches from c in k steps, backward where k is negative.
abbrev pub after : Automaton → ℤ → List ℕ → List ℕ
after a (pos n) c = power (ring_map a.forward) n c
after a (negsuc n) c = undone a.inverse (suc n) c

-- The automaton can go k steps: forward always, backward if it has an inverse.
abbrev pub Goes : Automaton → ℤ → Type 0
Goes a (pos n) = Unit {0}
Goes a (negsuc n) = IfNone a.inverse ⊥

-- Steps add up: j steps after k steps are j + k steps.
abbrev pub StepsAdd : Automaton → Type 0
StepsAdd a = (j k : ℤ) (c : List ℕ) → Ring a.states c → Goes a j → Goes a k → after a j (after a k c) ≡ after a (j +ℤ k) c
