-- What a rule answers to each question.
use Rattle.std.specs.Prelude.{ℕ, cond, List, length, ℤ, Some, None, Ok, Err, Option, Result, ◌==◌, nat_lt}
use Rattle.rings.specs.declared.Direction.TheVariants.{Forward, Backward}
use Rattle.rings.specs.Ring.{first_stray}
use Rattle.rings.specs.Local.{Local, width}
use Rattle.rings.specs.Automaton.{Automaton, toward}
use Rattle.rules.specs.declared.Shape.{Shape}
use Rattle.rules.specs.declared.fault.RuleFault.{RuleFault}
use Rattle.rules.specs.declared.fault.RuleFault.TheVariants.{EmptyRing, LongRing, StrayCode, NoInverse, WrongLength}

-- The number of states and the ends of the interval.
abbrev pub shape_of : Automaton → Shape
shape_of a = record { states = a.states; lo = a.forward.lo; hi = a.forward.hi }

-- The ends of the interval of a local function, if there is one.
abbrev pub ends : Option Local → Option (ℤ × ℤ)
ends None = None
ends (Some l) = Some (l.lo, l.hi)

-- Why a ring of n cells is refused where `most` cells are allowed, if it is: no cell, too many cells.
abbrev pub length_fault : ℕ → ℕ → Option RuleFault
length_fault most n = cond (n == 0) (Some EmptyRing) (cond (nat_lt most n) (Some LongRing) None)

abbrev pub unless_stray : {X : Type 0} → Option ℕ → X → Result X RuleFault
unless_stray None r = Ok r
unless_stray (Some i) r = Err (StrayCode i)

-- r, if the window has w codes below q. Else it is refused for its length, and then for its first stray code.
abbrev pub checked : {X : Type 0} → ℕ → ℕ → List ℕ → X → Result X RuleFault
checked q w ws r = cond (length ws == w) (unless_stray (first_stray q ws) r) (Err WrongLength)

-- The value of a local function at a window; refused first of all where there is no such function.
abbrev pub answer : ℕ → Option Local → List ℕ → Result ℕ RuleFault
answer q None ws = Err NoInverse
answer q (Some l) ws = checked q (width l) ws (l.value ws)

abbrev pub next_answer : Automaton → List ℕ → Result ℕ RuleFault
next_answer a ws = answer a.states (toward Forward a) ws

abbrev pub previous_answer : Automaton → List ℕ → Result ℕ RuleFault
previous_answer a ws = answer a.states (toward Backward a) ws
