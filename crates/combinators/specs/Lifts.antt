-- The second-order lift of an automaton: a cell has a code now and the code that it had before, so that every step can be undone.
use Rattle.std.specs.Prelude.{◌≡◌, ℕ, ◌+◌, ◌-◌, ◌*◌, ◌/◌, ◌%◌, Bool, true, false, cond, ◌&&◌, ◌||◌, List, map, ℤ, pos, ◌-ℤ◌, is_some, Some, MatchOption, nat_le, slice_index, unsigned_abs}
use Rattle.std.specs.Int.{int_min, int_max}
use Rattle.rings.specs.declared.Direction.{Direction}
use Rattle.rings.specs.declared.Direction.TheVariants.{Forward, Backward}
use Rattle.rings.specs.Line.{tabulate}
use Rattle.rings.specs.Ring.{at, Ring}
use Rattle.rings.specs.Limits.{max_states, max_width}
use Rattle.rings.specs.Local.{Local, span, width, ring_map}
use Rattle.rings.specs.Automaton.{Automaton, Inverse, toward}
use Rattle.rules.specs.declared.Shape.{Shape}
use Rattle.rules.specs.Answers.{shape_of}

-- The hull of an interval from lo to hi: the smallest interval that holds it and 0. This is its lower end.
abbrev pub hull_lo : ℤ → ℤ
hull_lo lo = int_min lo (pos 0)

-- The upper end of the hull.
abbrev pub hull_hi : ℤ → ℤ
hull_hi hi = int_max hi (pos 0)

-- How many cells the hull has.
abbrev pub hull_span : ℤ → ℤ → ℕ
hull_span lo hi = span (hull_lo lo) (hull_hi hi)

-- The index of the cell lo in a window of the hull.
abbrev pub first_index : ℤ → ℕ
first_index lo = unsigned_abs (lo -ℤ hull_lo lo)

-- The index of the cell itself in a window of the hull.
abbrev pub own_index : ℤ → ℕ
own_index lo = unsigned_abs (hull_lo lo)

-- The code now in a code of the lift, which is now + q * before.
abbrev pub now_of : ℕ → ℕ → ℕ
now_of q x = x % q

-- The code before in a code of the lift.
abbrev pub before_of : ℕ → ℕ → ℕ
before_of q x = x / q

-- a - b modulo q.
abbrev pub minus : ℕ → ℕ → ℕ → ℕ
minus q a b = (a + (q - b)) % q

-- The half of a code that the rule reads: forward the code now, backward the code before.
abbrev pub half : Direction → ℕ → ℕ → ℕ
half Forward q x = now_of q x
half Backward q x = before_of q x

-- The new code of a cell that has the code own, where f is the value of the rule at the halves that it reads.
-- Forward, f minus the code before becomes the code now, and the code now becomes the code before.
-- Backward, the code before becomes the code now, and f minus the code now becomes the code before.
abbrev pub rejoined : Direction → ℕ → ℕ → ℕ → ℕ
rejoined Forward q f own = minus q f (before_of q own) + q * now_of q own
rejoined Backward q f own = before_of q own + q * minus q f (now_of q own)

-- The window of halves that the local function l reads, from a window of the hull.
abbrev pub halves : Direction → ℕ → Local → List ℕ → List ℕ
halves d q l ws = tabulate (λ j. half d q (slice_index ws (first_index l.lo + j))) (width l)

-- The value of the local function l at the halves that it reads, from a window of the hull.
abbrev pub halves_value : Direction → ℕ → Local → List ℕ → ℕ
halves_value d q l ws = l.value (halves d q l ws)

-- The code of the cell itself, from a window of the hull.
abbrev pub own_code : Local → List ℕ → ℕ
own_code l ws = slice_index ws (own_index l.lo)

-- The value of the lift of a local function at a window of the hull.
unfoldable pub lift_value : Direction → ℕ → Local → List ℕ → ℕ
lift_value d q l ws = rejoined d q (halves_value d q l ws) (own_code l ws)

-- The lift of a local function on q states, in a direction.
abbrev pub lift_local : Direction → ℕ → Local → Local
lift_local d q l = record { lo = hull_lo l.lo; hi = hull_hi l.hi; value = lift_value d q l }

-- The second-order lift of an automaton: it has an inverse, whether or not the automaton has one.
abbrev pub lifted : Automaton → Automaton
lifted a = record {
  states = a.states * a.states;
  forward = lift_local Forward a.states a.forward;
  inverse = Some (lift_local Backward a.states a.forward);
}

-- A rule can be lifted if its lift has no more states and no wider interval than an automaton may have.
abbrev pub liftable : Shape → Bool
liftable s = nat_le (s.states * s.states) max_states && nat_le (hull_span s.lo s.hi) max_width

-- What a lift over a rule means: the lift of the rule, or the rule itself where it cannot be lifted.
abbrev pub lift_or : Automaton → Automaton
lift_or a = cond (liftable (shape_of a)) (lifted a) a

-- The shape of the lift of a rule.
abbrev pub lifted_shape : Shape → Shape
lifted_shape s = record { states = s.states * s.states; lo = hull_lo s.lo; hi = hull_hi s.hi }

-- The shape of a lift over a rule, or that of the rule itself where it cannot be lifted.
abbrev pub lift_shape : Shape → Shape
lift_shape s = cond (liftable s) (lifted_shape s) s

-- The other direction.
abbrev pub opposite : Direction → Direction
opposite Forward = Backward
opposite Backward = Forward

-- The dynamics of the lift of l at the cell i of the ring c, where r is the ring a step later.
-- Forward: the next code now is the value of l at the codes now, less the code before, modulo q; the next code before is the code now.
-- Backward it is the same with now and before exchanged.
pub record SecondOrder (d : Direction) (q : ℕ) (l : Local) (c r : List ℕ) (i : ℤ) : Type 0 where
  pub read : half d q (at r i) ≡ minus q (at (ring_map l (map (half d q) c)) i) (half (opposite d) q (at c i))
  pub kept : half (opposite d) q (at r i) ≡ half d q (at c i)

-- The interval of g is that of f.
pub record SameInterval (f g : Local) : Type 0 where
  pub lo : g.lo ≡ f.lo
  pub hi : g.hi ≡ f.hi

-- What lifting the automaton a gives, where b is the lift: it follows the second-order dynamics at every cell of every ring,
-- and it has an inverse, on its own interval, that undoes it and that it undoes on every ring.
pub record Reversible (a b : Automaton) : Type 0 where
  pub dynamics : (d : Direction) (c : List ℕ) → Ring b.states c → (i : ℤ) → MatchOption (toward d b) ⊥ (λ l. SecondOrder d a.states a.forward c (ring_map l c) i)
  pub inverse : MatchOption b.inverse ⊥ (λ g. Inverse b.states b.forward g × SameInterval b.forward g)

-- The laws of lifting an automaton: one that can be lifted becomes reversible, any other stays what it is, and an inverse is
-- told exactly if the automaton can be lifted or tells one itself.
pub record LiftLaws (a : Automaton) : Type 0 where
  pub lifts : liftable (shape_of a) ≡ true → Reversible a (lift_or a)
  pub stays : liftable (shape_of a) ≡ false → lift_or a ≡ a
  pub tells : is_some (lift_or a).inverse ≡ (liftable (shape_of a) || is_some a.inverse)
