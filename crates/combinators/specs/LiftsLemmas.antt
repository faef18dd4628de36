-- Lemmas on the second-order lift: it is lawful, its two directions undo each other, and what it reads off a window.
use Rattle.std.specs.Prelude.{◌≡◌, ℕ, ◌+◌, ◌*◌, ◌^◌, ◌<◌, ◌≤◌, true, cond, List, map, length, ℤ, pos, ◌+ℤ◌, ◌≤ℤ◌, Some, Ok, MatchOption, slice_index, refl}
use Rattle.std.proofs.Common.{rules, sym, ap, ap₂, subst, ◌∙◌, arith, mod-eq_of_lt, mod-lt, mul-le-mul_left}
use Rattle.std.proofs.Math.Path.{fun_ext}
use Rattle.std.proofs.Math.Nat.{add-mul-mod_self_left, add-mul-div_left, div-eq_of_lt, mod-eq-sub-mod, mod-add-div}
use Rattle.std.proofs.lemmas.Nat.{div_below, mul-le}
use Rattle.std.proofs.lemmas.List.{length-map, get_or-map}
use Rattle.std.proofs.lemmas.Int.{ints, clamps}
use Rattle.std.proofs.lemmas.Bool.{and_parts, cond_both, cond-true, cond-false, leb-true}
use Rattle.rings.specs.declared.Direction.{Direction}
use Rattle.rings.specs.declared.Direction.TheVariants.{Forward, Backward}
use Rattle.rings.specs.Line.{Line, tabulate, window, Below}
use Rattle.rings.specs.Ring.{at, Ring}
use Rattle.rings.specs.Local.{Local, span, width, line_map, ring_map, Undoes}
use Rattle.rings.specs.Automaton.{Automaton, Narrow, Proper, Inverse, Sound, Lawful, toward}
use Rattle.rings.proofs.Integers.{floor_mod_lt}
use Rattle.rings.proofs.Line.{length-tabulate, slice_index-tabulate, tabulate-same}
use Rattle.rings.proofs.Ring.{same-ring, below_at}
use Rattle.rings.proofs.Local.{length-ring_map, at-ring_map, below_line_map}
use Rattle.rules.specs.declared.Shape.{Shape}
use Rattle.rules.specs.Answers.{shape_of, ends, checked, answer, next_answer}
use Rattle.combinators.specs.Lifts.{hull_lo, hull_hi, hull_span, first_index, own_index, now_of, before_of, minus, half, rejoined, halves, halves_value, own_code, lift_value, lift_local, lifted, liftable, lift_or, lift_shape, opposite, SecondOrder, Reversible, LiftLaws}
use Rattle.combinators.specs.declared.lift.Frame.{Frame}
use Rattle.combinators.specs.Frames.{frame_of, framed_halves}
use Rattle.rules.specs.Windows.{Readable, readable, checked_readable}

-- codes of the lift

now_of_pair : (q a b : ℕ) → a < q → now_of q (a + q * b) ≡ a
now_of_pair q a b h = grind (arith, add-mul-mod_self_left, mod-eq_of_lt)

before_of_pair : (q a b : ℕ) → a < q → before_of q (a + q * b) ≡ b
before_of_pair q a b h = grind (arith, add-mul-div_left, div-eq_of_lt)

pair_lt : (q a b : ℕ) → a < q → b < q → a + q * b < q * q
pair_lt q a b h k = grind (arith, mul-le-mul_left)

minus_minus : (q a b : ℕ) → a < q → b < q → minus q a (minus q a b) ≡ b
minus_minus q a b h k = grind (arith, mod-eq-sub-mod, mod-eq_of_lt)

half_lt : (d : Direction) (q x : ℕ) → 1 ≤ q → x < q * q → half d q x < q
half_lt d q x some h = grind (arith, mod-lt, div_below)

-- the new code of a cell
module _ (q f own : ℕ) (h : f < q) (l : own < q * q) where
  pub rejoined_lt : (d : Direction) → rejoined d q f own < q * q
  rejoined_lt Forward = pair_lt q _ _ (mod-lt _ (omega arith)) (mod-lt _ (omega arith))
  rejoined_lt Backward = pair_lt q _ _ (div_below own q q (omega arith) l) (mod-lt _ (omega arith))

  half-rejoined : (d : Direction) → half d q (rejoined d q f own) ≡ minus q f (half (opposite d) q own)
  half-rejoined d = grind (arith, now_of_pair, before_of_pair, mod-lt, div_below)

  opposite-half-rejoined : (d : Direction) → half (opposite d) q (rejoined d q f own) ≡ half d q own
  opposite-half-rejoined d = grind (arith, now_of_pair, before_of_pair, mod-lt, div_below)

  rejoined-rejoined : (d : Direction) → rejoined (opposite d) q f (rejoined d q f own) ≡ own
  rejoined-rejoined d = grind (arith, now_of_pair, before_of_pair, minus_minus, mod-lt, div_below, mod-add-div)

-- the places of the cells in a window of the hull

module _ (lo hi : ℤ) (ordered : lo ≤ℤ hi) where
  first_index_le : first_index lo + span lo hi ≤ hull_span lo hi
  first_index_le = omega (arith, ints, clamps)

  own_index_lt : own_index lo < hull_span lo hi
  own_index_lt = omega (arith, ints, clamps)

first_index-place : (lo i : ℤ) (j : ℕ) → i +ℤ hull_lo lo +ℤ pos (first_index lo + j) ≡ i +ℤ lo +ℤ pos j
first_index-place lo i j = omega (arith, ints, clamps)

own_index-place : (lo i : ℤ) → i +ℤ hull_lo lo +ℤ pos (own_index lo) ≡ i
own_index-place lo i = omega (arith, ints, clamps)

-- what a lift reads off a window of the hull

module _ (d : Direction) (q : ℕ) (l : Local) (some : 1 ≤ q) (proper : Proper q l) (ws : List ℕ) (r : Readable (q * q) (hull_span l.lo l.hi) ws) where
  part-inside : first_index l.lo + width l ≤ length ws
  part-inside = omega (arith, first_index_le l.lo l.hi proper.ordered, r.len)

  own_inside : own_index l.lo < length ws
  own_inside = omega (arith, own_index_lt l.lo l.hi proper.ordered, r.len)

  own_code_lt : own_code l ws < q * q
  own_code_lt = r.codes (own_index l.lo) own_inside

  readable-halves : Readable q (width l) (halves d q l ws)
  readable-halves =
      let f : ℕ → ℕ = λ j. half d q (slice_index ws (first_index l.lo + j)) in
      record {
        len = length-tabulate f (width l);
        codes = λ k h.
            let inside : k < width l = rw (length-tabulate f (width l)) at h in
            rw (slice_index-tabulate f (width l) k inside) (half_lt d q (slice_index ws (first_index l.lo + k)) some (r.codes (first_index l.lo + k) (omega (arith, part-inside))));
      }

  halves_value_lt : halves_value d q l ws < q
  halves_value_lt = proper.closed (halves d q l ws) readable-halves.len readable-halves.codes

  lift_value_lt : lift_value d q l ws < q * q
  unfolding lift_value
  lift_value_lt = rejoined_lt q (halves_value d q l ws) (own_code l ws) halves_value_lt own_code_lt d

-- the lift of a line

abbrev half_line : Direction → ℕ → Line → Line
half_line d q x i = half d q (x i)

abbrev lift_line : Direction → ℕ → Local → Line → Line
lift_line d q l x i = rejoined d q (line_map l (half_line d q x) i) (x i)

line_map-lift_local : (d : Direction) (q : ℕ) (l : Local) → l.lo ≤ℤ l.hi → (x : Line) → line_map (lift_local d q l) x ≡ lift_line d q l x
unfolding lift_value
line_map-lift_local d q l ordered x = fun_ext (λ i.
    let w = hull_span l.lo l.hi in
    let f : ℕ → ℕ = λ j. x (i +ℤ hull_lo l.lo +ℤ pos j) in
    let own : own_code l (tabulate f w) ≡ x i = slice_index-tabulate f w (own_index l.lo) (own_index_lt l.lo l.hi ordered) ∙ ap x (own_index-place l.lo i) in
    let part : halves d q l (tabulate f w) ≡ window (half_line d q x) (i +ℤ l.lo) (width l) =
    tabulate-same (λ j. half d q (slice_index (tabulate f w) (first_index l.lo + j))) (λ j. half_line d q x (i +ℤ l.lo +ℤ pos j)) (width l)
    (λ j h. ap (half d q) (slice_index-tabulate f w (first_index l.lo + j) (omega (arith, first_index_le l.lo l.hi ordered)) ∙ ap x (first_index-place l.lo i j))) in
    ap₂ (λ ws own. rejoined d q (l.value ws) own) part own)

-- the two directions undo each other

module _ (d : Direction) (q : ℕ) (l : Local) (some : 1 ≤ q) (proper : Proper q l) where
  proper-lift_local : Proper (q * q) (lift_local d q l)
  proper-lift_local = record {
    ordered = omega (arith, ints, clamps, proper.ordered);
    closed = λ ws e codes. lift_value_lt d q l some proper ws (record { len = e; codes = codes });
  }

  lift_line_lift_line : (x : Line) → Below (q * q) x → lift_line (opposite d) q l (lift_line d q l x) ≡ x
  lift_line_lift_line x b =
      let f : Line = line_map l (half_line d q x) in
      let f_lt : Below q f = below_line_map q l proper.closed (half_line d q x) (λ i. half_lt d q (x i) some (b i)) in
      let same : half_line (opposite d) q (lift_line d q l x) ≡ half_line d q x = fun_ext (λ i. opposite-half-rejoined q (f i) (x i) (f_lt i) (b i) d) in
      fun_ext (λ i. ap (λ (y : Line). rejoined (opposite d) q (line_map l y i) (lift_line d q l x i)) same ∙ rejoined-rejoined q (f i) (x i) (f_lt i) (b i) d)

  undoes_lift_local : Undoes (q * q) (lift_local (opposite d) q l) (lift_local d q l)
  undoes_lift_local c r =
      let f = lift_local d q l in
      let g = lift_local (opposite d) q l in
      let n : 1 ≤ length (ring_map f c) = omega (arith, r.some, length-ring_map f c) in
      same-ring (ring_map g (ring_map f c)) c (length-ring_map g (ring_map f c) ∙ length-ring_map f c)
      (at-ring_map g (ring_map f c) n ∙ line_map-lift_local (opposite d) q l proper.ordered (at (ring_map f c)) ∙
      ap (lift_line (opposite d) q l) (at-ring_map f c r.some ∙ line_map-lift_local d q l proper.ordered (at c)) ∙ lift_line_lift_line (at c) (below_at (q * q) c r))

lift_inverts : (a : Automaton) → Sound a → Inverse (a.states * a.states) (lift_local Forward a.states a.forward) (lift_local Backward a.states a.forward)
lift_inverts a s = record {
  proper = proper-lift_local Backward a.states a.forward s.some s.forward;
  after = undoes_lift_local Forward a.states a.forward s.some s.forward;
  before = undoes_lift_local Backward a.states a.forward s.some s.forward;
}

-- the dynamics of a lift

at_map : (f : ℕ → ℕ) (c : List ℕ) → 1 ≤ length c → (i : ℤ) → at (map f c) i ≡ f (at c i)
at_map f c some i = grind (arith, length-map, get_or-map, floor_mod_lt)

module _ (d : Direction) (q : ℕ) (l : Local) (some : 1 ≤ q) (proper : Proper q l) (c : List ℕ) (r : Ring (q * q) c) where
  second-order : (i : ℤ) → SecondOrder d q l c (ring_map (lift_local d q l) c) i
  second-order i =
      let b : Below (q * q) (at c) = below_at (q * q) c r in
      let f : Line = line_map l (half_line d q (at c)) in
      let f_lt : Below q f = below_line_map q l proper.closed (half_line d q (at c)) (λ j. half_lt d q (at c j) some (b j)) in
      let step : at (ring_map (lift_local d q l) c) i ≡ rejoined d q (f i) (at c i) = ap (λ (x : Line). x i) (at-ring_map (lift_local d q l) c r.some ∙ line_map-lift_local d q l proper.ordered (at c)) in
      let read_half : at (map (half d q) c) ≡ half_line d q (at c) = fun_ext (at_map (half d q) c r.some) in
      let n : 1 ≤ length (map (half d q) c) = omega (arith, r.some, length-map c (half d q)) in
      let rule : at (ring_map l (map (half d q) c)) i ≡ f i = ap (λ (x : Line). x i) (at-ring_map l (map (half d q) c) n ∙ ap (line_map l) read_half) in
      record {
        read = ap (half d q) step ∙ half-rejoined q (f i) (at c i) (f_lt i) (b i) d ∙ ap (λ v. minus q v (half (opposite d) q (at c i))) (sym rule);
        kept = ap (half (opposite d) q) step ∙ opposite-half-rejoined q (f i) (at c i) (f_lt i) (b i) d;
      }

-- a lift is lawful

pub sound-lifted : (a : Automaton) → Sound a → Sound (lifted a)
sound-lifted a s = record {
  some = mul-le 1 1 a.states a.states s.some s.some;
  forward = proper-lift_local Forward a.states a.forward s.some s.forward;
  inverse = lift_inverts a s;
}

pub states_le : (q : ℕ) → q * q ≤ 2 ^ 24 → q ≤ 4096
states_le q h = grind (arith, mul-le 4097 4097 q q)

-- what is known of a rule that can be lifted
pub record Liftable (s : Shape) : Type 0 where
  pub few : s.states ≤ 4096
  pub squared : s.states * s.states ≤ 2 ^ 24
  pub narrow : hull_span s.lo s.hi ≤ 64

pub liftable_true : (s : Shape) → liftable s ≡ true → Liftable s
liftable_true s h =
    let p = and_parts _ _ h in
    let squared = leb-true _ _ p.0 in
    record { few = states_le s.states squared; squared = squared; narrow = leb-true _ _ p.1 }

pub lawful_lift_or : (a : Automaton) → Lawful a → Lawful (lift_or a)
lawful_lift_or a l = cond_both (liftable (shape_of a)) (lifted a) a Lawful (λ h.
    let s = liftable_true (shape_of a) h in
    let n = l.bounded.forward in
    let narrow : (d : Direction) → Narrow (lift_local d a.states a.forward) = λ d. record { low = omega (arith, ints, clamps, n.low); high = omega (arith, ints, clamps, n.high); narrow = s.narrow } in
    record { bounded = record { few = s.squared; forward = narrow Forward; inverse = narrow Backward }; sound = sound-lifted a l.sound }) (λ h. l)

-- what a lift over a rule tells

pub shape_lift_or : (a : Automaton) → shape_of (lift_or a) ≡ lift_shape (shape_of a)
shape_lift_or a = search rules

pub inverse-lift_or : (a : Automaton) → ends (lift_or a).inverse ≡ cond (liftable (shape_of a)) (Some (hull_lo a.forward.lo, hull_hi a.forward.hi)) (ends a.inverse)
inverse-lift_or a = search rules

-- what the lift of a rule reads off a window of the hull, and what it answers
pub record LiftReading (a : Automaton) (d : Direction) (ws : List ℕ) : Type 0 where
  pub part-inside : first_index a.forward.lo + width a.forward ≤ length ws
  pub part-narrow : width a.forward ≤ 64
  pub own_inside : own_index a.forward.lo < length ws
  pub own_lt : own_code a.forward ws < a.states * a.states
  pub part : Readable a.states (width a.forward) (halves d a.states a.forward ws)
  pub part-answer : answer a.states (Some a.forward) (halves d a.states a.forward ws) ≡ Ok (halves_value d a.states a.forward ws)
  pub part_lt : halves_value d a.states a.forward ws < a.states
  pub lift-answer : answer (a.states * a.states) (toward d (lifted a)) ws ≡ Ok (rejoined d a.states (halves_value d a.states a.forward ws) (own_code a.forward ws))

pub toward-lifted : (d : Direction) (a : Automaton) → toward d (lifted a) ≡ Some (lift_local d a.states a.forward)
toward-lifted d a = search rules

pub lift-reading : (a : Automaton) → Lawful a → (d : Direction) (ws : List ℕ) → Readable (a.states * a.states) (hull_span a.forward.lo a.forward.hi) ws → LiftReading a d ws
unfolding lift_value
lift-reading a l d ws r =
    let q = a.states in
    let f = a.forward in
    let some = l.sound.some in
    let proper = l.sound.forward in
    let part = readable-halves d q f some proper ws r in
    record {
      part-inside = part-inside d q f some proper ws r;
      part-narrow = l.bounded.forward.narrow;
      own_inside = own_inside d q f some proper ws r;
      own_lt = own_code_lt d q f some proper ws r;
      part = part;
      part-answer = checked_readable q (width f) (halves d q f ws) part (halves_value d q f ws);
      part_lt = halves_value_lt d q f some proper ws r;
      lift-answer = ap (λ o. answer (q * q) o ws) (toward-lifted d a) ∙ checked_readable (q * q) (hull_span f.lo f.hi) ws r (lift_value d q f ws);
    }

-- the same in the words of the frame of a rule that can be lifted
pub record FrameReading (a : Automaton) (f : Frame) (d : Direction) (ws : List ℕ) : Type 0 where
  pub few : f.states ≤ 4096
  pub inside : f.first + f.width ≤ length ws
  pub own_lt : slice_index ws f.own < f.states * f.states
  pub rule-answer : next_answer a (framed_halves f d ws) ≡ Ok (a.forward.value (framed_halves f d ws))
  pub value_lt : a.forward.value (framed_halves f d ws) < f.states
  pub lift-answer : answer (lifted a).states (toward d (lifted a)) ws ≡ Ok (rejoined d f.states (a.forward.value (framed_halves f d ws)) (slice_index ws f.own))

pub frame-reading : (a : Automaton) → Lawful a → liftable (shape_of a) ≡ true → (f : Frame) → f ≡ frame_of (shape_of a) → (d : Direction) (ws : List ℕ)
    → Ok tt ≡ checked {X = Unit {0}} f.lift.states f.cells ws tt → FrameReading a f d ws
frame-reading a l can f e d ws = subst (λ (f : Frame). Ok tt ≡ checked {X = Unit {0}} f.lift.states f.cells ws tt → FrameReading a f d ws) (sym e) base where
  base : Ok tt ≡ checked {X = Unit {0}} (a.states * a.states) (hull_span a.forward.lo a.forward.hi) ws tt → FrameReading a (frame_of (shape_of a)) d ws
  base h =
      let r = lift-reading a l d ws (readable (a.states * a.states) (hull_span a.forward.lo a.forward.hi) ws h) in
      record {
        few = (liftable_true (shape_of a) can).few;
        inside = r.part-inside;
        own_lt = r.own_lt;
        rule-answer = r.part-answer;
        value_lt = r.part_lt;
        lift-answer = r.lift-answer;
      }

-- the laws of lifting

reversible : (a : Automaton) → Sound a → Reversible a (lifted a)
reversible a s = record { dynamics = dynamics; inverse = (lift_inverts a s, record { lo = refl; hi = refl }) } where
  dynamics : (d : Direction) (c : List ℕ) → Ring (a.states * a.states) c → (i : ℤ) → MatchOption (toward d (lifted a)) ⊥ (λ l. SecondOrder d a.states a.forward c (ring_map l c) i)
  dynamics Forward c r i = second-order Forward a.states a.forward s.some s.forward c r i
  dynamics Backward c r i = second-order Backward a.states a.forward s.some s.forward c r i

pub lift-laws : (a : Automaton) → Sound a → LiftLaws a
lift-laws a s = record {
  lifts = λ h. subst (Reversible a) (sym (cond-true (liftable (shape_of a)) (lifted a) a h)) (reversible a s);
  stays = λ h. cond-false (liftable (shape_of a)) (lifted a) a h;
  tells = search rules;
}
