-- What the call that maps a whole ring answers and writes, and the laws of one step.
use Rattle.std.specs.Prelude.{◌≡◌, ℕ, cond, List, ◌++◌, length, drop, ℤ, pos, negsuc, IfSome, Some, None, Option, Result, ◌==◌, nat_lt}
use Rattle.std.specs.Option.{option_map}
use Rattle.rings.specs.declared.Direction.{Direction}
use Rattle.rings.specs.declared.Direction.TheVariants.{Forward, Backward}
use Rattle.rings.specs.Ring.{first_stray}
use Rattle.rings.specs.Limits.{max_cells}
use Rattle.rings.specs.Local.{Local, ring_map, CommutesWithRotation}
use Rattle.rings.specs.Automaton.{Automaton, toward, after}
use Rattle.rings.specs.Refusals.{outcome, unless_refused}
use Rattle.rules.specs.declared.fault.RuleFault.{RuleFault}
use Rattle.rules.specs.declared.fault.RuleFault.TheVariants.{EmptyRing, LongRing, StrayCode, ShortBuffer, NoInverse}

-- Why a ring is not mapped into a buffer of so many cells, if it is not: no cell, too many cells, a short buffer, a stray code.
abbrev pub ring_fault : ℕ → List ℕ → ℕ → Option RuleFault
ring_fault q ring room =
    cond (length ring == 0) (Some EmptyRing)
    (cond (nat_lt max_cells (length ring)) (Some LongRing)
    (cond (nat_lt room (length ring)) (Some ShortBuffer) (option_map StrayCode (first_stray q ring))))

-- The same for a local function, if there is one; that there is none comes first.
abbrev pub map_fault : ℕ → Option Local → List ℕ → ℕ → Option RuleFault
map_fault q None ring room = Some NoInverse
map_fault q (Some l) ring room = ring_fault q ring room

abbrev pub map_answer : Direction → Automaton → List ℕ → List ℕ → Result (Unit {0}) RuleFault
map_answer d a ring buffer = outcome (map_fault a.states (toward d a) ring (length buffer))

-- The image of a ring under the ring map of a local function, if there is one.
abbrev pub image : Option Local → List ℕ → List ℕ
image None ring = ring
image (Some l) ring = ring_map l ring

-- A list written over the first cells of a buffer; the cells after it stay.
abbrev pub written_over : List ℕ → List ℕ → List ℕ
written_over cells buffer = cells ++ drop (length cells) buffer

-- What the buffer holds afterwards: the image and the cells behind it, or all as before where the call is refused.
abbrev pub map_buffer : Direction → Automaton → List ℕ → List ℕ → List ℕ
map_buffer d a ring buffer = unless_refused (map_fault a.states (toward d a) ring (length buffer)) (written_over (image (toward d a) ring) buffer) buffer

-- One step of a direction, as a number of steps.
abbrev pub one_step : Direction → ℤ
one_step Forward = pos 1
one_step Backward = negsuc 0

-- The laws of the ring map l of a direction: it commutes with every rotation, and it is one step of the automaton.
pub record StepLaw (d : Direction) (a : Automaton) (l : Local) : Type 0 where
  pub rotation : CommutesWithRotation l
  pub one : (c : List ℕ) → after a (one_step d) c ≡ ring_map l c

abbrev pub StepLaws : Direction → Automaton → Type 0
StepLaws d a = IfSome (toward d a) (StepLaw d a)
