-- Lemmas on the steps of a run: one step after i steps is i + 1 steps, in the rings and in the buffers.
use Rattle.std.proofs.Common.{◌≡◌, ℕ, zero, suc, ◌+◌, ◌<◌, ◌≤◌, true, ◌≢◌, List, ◌++◌, length, take, drop, ℤ, pos, negsuc, ◌+ℤ◌, nat_abs, is_some, IfSome, IfNone, Some, None, Ok, Option, Result, IsOk, sym, refl, ap, ◌∙◌, subst, ap₂, arith, w32, w64, to_z, of_z}
use Rattle.std.proofs.lemmas.List.{length-take-le, length-append, length-drop, take_at, drop_at, take-append-drop}
use Rattle.std.proofs.lemmas.Int.{ints}
use Rattle.std.proofs.lemmas.Bool.Decides.{nat_tests}
use Rattle.std.proofs.lemmas.Bool.{ne_eqb, le-ltb}
use Rattle.rings.specs.declared.Direction.{Direction}
use Rattle.rings.specs.declared.Direction.TheVariants.{Forward, Backward}
use Rattle.rings.specs.Limits.{max_cells}
use Rattle.rings.specs.Line.{power}
use Rattle.rings.specs.Ring.{Codes, Ring}
use Rattle.rings.specs.Local.{Local}
use Rattle.rings.specs.Automaton.{Automaton, Sound, toward, after, Goes, toward_steps}
use Rattle.rings.specs.Refusals.{outcome, unless_refused}
use Rattle.rings.proofs.Ring.{first_stray-codes}
use Rattle.rings.proofs.Automaton.{after_add, length-after, ring-after}
use Rattle.rules.specs.declared.fault.RuleFault.{RuleFault}
use Rattle.rules.specs.Maps.{map_fault, map_answer, map_buffer, image, written_over, one_step, StepLaw}
use Rattle.rules.proofs.Maps.{step-laws}
use Rattle.runs.specs.declared.Holder.{Holder}
use Rattle.runs.specs.declared.Holder.TheVariants.{A, B}
use Rattle.runs.specs.Limits.{max_steps}
use Rattle.runs.specs.States.{State, holder, of_buffer, of_holder, held, holding, moved}
use Rattle.runs.specs.Calls.{move_fault}
use Rattle.runs.proofs.Refusals.{Roomy, Movable, unrefused}

-- one step of a ring

module _ (d : Direction) (a : Automaton) (c buffer : List ℕ) (goes : is_some (toward d a) ≡ true) (some : 1 ≤ length c) (few : length c ≤ max_cells) (fits : length c ≤ length buffer) (codes : Codes a.states c) where
  pub map_accepted : map_fault a.states (toward d a) c (length buffer) ≡ None
  map_accepted = by (toward d a) goes where
    by : (o : Option Local) → is_some o ≡ true → map_fault a.states o c (length buffer) ≡ None
    by None e = cc
    by (Some l) e =
        let ne : length c ≢ 0 = omega arith in
        rw (ne_eqb (length c) 0 ne) (rw (le-ltb max_cells (length c) few) (rw (le-ltb (length buffer) (length c) fits) (rw (first_stray-codes 0 a.states c codes))))

  image-after : image (toward d a) c ≡ after a (toward_steps d 1) c
  image-after = by (toward d a) goes (step-laws d a) where
    same : (d : Direction) → after a (one_step d) c ≡ after a (toward_steps d 1) c
    same Forward = refl
    same Backward = refl

    by : (o : Option Local) → is_some o ≡ true → IfSome o (StepLaw d a) → image o c ≡ after a (toward_steps d 1) c
    by None e law = cc
    by (Some l) e law = sym (law.one c) ∙ same d

  pub map_buffer_good : map_buffer d a c buffer ≡ written_over (after a (toward_steps d 1) c) buffer
  map_buffer_good = ap₂ (λ f l. unless_refused f (written_over l buffer) buffer) map_accepted image-after

pub goes_always : (a : Automaton) (k : ℤ) → is_some a.inverse ≡ true → Goes a k
goes_always a (pos n) e = tt
goes_always a (negsuc n) e = by a.inverse e where
  by : (o : Option Local) → is_some o ≡ true → IfNone o ⊥
  by None e = cc
  by (Some g) e = tt

pub goes-toward : (d : Direction) (a : Automaton) (n : ℕ) → is_some (toward d a) ≡ true → Goes a (toward_steps d n)
goes-toward Forward a n h = tt
goes-toward Backward a n h = goes_always a (toward_steps Backward n) h

pub toward_steps_add : (d : Direction) (m n : ℕ) → toward_steps d m +ℤ toward_steps d n ≡ toward_steps d (m + n)
toward_steps_add Forward m n = omega (arith, ints)
toward_steps_add Backward m n = omega (arith, ints)

pub steps_more : (d : Direction) (k : ℤ) (n : ℕ) → (k +ℤ toward_steps d n) +ℤ toward_steps d 1 ≡ k +ℤ toward_steps d (suc n)
steps_more Forward k n = omega (arith, ints)
steps_more Backward k n = omega (arith, ints)

pub after_none : (d : Direction) (a : Automaton) (c : List ℕ) → after a (toward_steps d 0) c ≡ c
unfolding power
after_none Forward a c = refl
after_none Backward a c = refl

pub after_more : (d : Direction) (a : Automaton) → Sound a → is_some (toward d a) ≡ true → (c : List ℕ) → Ring a.states c → (i : ℕ) → after a (toward_steps d 1) (after a (toward_steps d i) c) ≡ after a (toward_steps d (suc i)) c
after_more d a sound goes c ring i =
    let e : 1 + i ≡ suc i = omega arith in
    after_add a sound (toward_steps d 1) (toward_steps d i) c ring (goes-toward d a 1 goes) (goes-toward d a i goes)
    ∙ ap (λ z. after a z c) (toward_steps_add d 1 i ∙ ap (toward_steps d) e)

-- a run by its parts

pub state_is : {n n' : ℕ} {k k' : ℤ} {l l' r r' : List ℕ} → n ≡ n' → k ≡ k' → l ≡ l' → r ≡ r' → ◌≡◌ {A = State} (record { cells = n; steps = k; a = l; b = r }) (record { cells = n'; steps = k'; a = l'; b = r' })
state_is en ek el er = cc

-- the count, as the code stores it
pub stored : (k z : ℤ) → z ≡ k → nat_abs k ≤ max_steps → to_z w32 (of_z w32 (to_z w64 (of_z w64 z))) ≡ k
stored k z e h = omega (arith, ints)

-- the buffer that holds the ring

abbrev pub other : Holder → Holder
other A = B
other B = A

pub no_steps : (d : Direction) (k : ℤ) → k +ℤ toward_steps d 0 ≡ k
no_steps Forward k = omega (arith, ints)
no_steps Backward k = omega (arith, ints)

pub holder_next : (d : Direction) (k : ℤ) → holder (k +ℤ toward_steps d 1) ≡ other (holder k)
holder_next Forward k = grind (arith, ints, nat_tests)
holder_next Backward k = grind (arith, ints, nat_tests)

-- lists written over buffers

pub take-written : (n : ℕ) (cells buffer : List ℕ) → length cells ≡ n → take n (written_over cells buffer) ≡ cells
take-written n cells buffer e = take_at cells (drop (length cells) buffer) n e

pub written_twice : (cells others buffer : List ℕ) → length cells ≡ length others → written_over cells (written_over others buffer) ≡ written_over cells buffer
written_twice cells others buffer e =
    ap (λ l. cells ++ l) (drop_at others (drop (length others) buffer) (length cells) (sym e) ∙ ap (λ m. drop m buffer) (sym e))

pub written_front : (n : ℕ) (buffer : List ℕ) → n ≤ length buffer → written_over (take n buffer) buffer ≡ buffer
written_front n buffer h = ap (λ m. take n buffer ++ drop m buffer) (length-take-le n buffer h) ∙ take-append-drop n buffer

pub length-written : (cells buffer : List ℕ) → length cells ≤ length buffer → length (written_over cells buffer) ≡ length buffer
length-written cells buffer h = simp (length-append, length-drop) (omega arith)

-- the held ring

length-of_buffer : (h : Holder) (l r : List ℕ) (n : ℕ) → length l ≡ n → length r ≡ n → length (of_buffer h l r) ≡ n
length-of_buffer A l r n e f = e
length-of_buffer B l r n e f = f

pub length-held : (s : State) → Roomy s → length (held s) ≡ s.cells
length-held s room = length-take-le s.cells (of_holder s.steps s.a s.b) (by (holder s.steps)) where
  by : (h : Holder) → s.cells ≤ length (of_buffer h s.a s.b)
  by A = room.a
  by B = room.b

pub held-holding : (k : ℤ) (ring earlier : List ℕ) (s : State) → length ring ≡ s.cells → held (holding k ring earlier s) ≡ ring
held-holding k ring earlier s e = by (holder k) where
  by : (h : Holder) → take s.cells (of_buffer h (written_over (of_buffer h ring earlier) s.a) (written_over (of_buffer h earlier ring) s.b)) ≡ ring
  by A = take-written s.cells ring s.a e
  by B = take-written s.cells ring s.b e

-- each buffer keeps its length
pub length-holding : (h : Holder) (k : ℤ) (ring earlier : List ℕ) (s : State) → Roomy s → length ring ≡ s.cells → length earlier ≡ s.cells
    → length (of_buffer h (holding k ring earlier s).a (holding k ring earlier s).b) ≡ length (of_buffer h s.a s.b)
length-holding A k ring earlier s room e f = length-written (of_holder k ring earlier) s.a (omega (arith, room.a, length-of_buffer (holder k) ring earlier s.cells e f))
length-holding B k ring earlier s room e f = length-written (of_holder k earlier ring) s.b (omega (arith, room.b, length-of_buffer (holder k) earlier ring s.cells f e))

-- what is held anew leaves nothing of what was held before
pub holding_twice : (z k : ℤ) (x y v w : List ℕ) (s : State) → length x ≡ s.cells → length y ≡ s.cells → length v ≡ s.cells → length w ≡ s.cells → holding z x y (holding k v w s) ≡ holding z x y s
holding_twice z k x y v w s ex ey ev ew =
    state_is refl refl
    (written_twice (of_holder z x y) (of_holder k v w) s.a (length-of_buffer (holder z) x y s.cells ex ey ∙ sym (length-of_buffer (holder k) v w s.cells ev ew)))
    (written_twice (of_holder z y x) (of_holder k w v) s.b (length-of_buffer (holder z) y x s.cells ey ex ∙ sym (length-of_buffer (holder k) w v s.cells ew ev)))

-- the parts of the run after n steps

pub cells-moved : (d : Direction) (a : Automaton) (n : ℕ) (s : State) → (moved d a n s).cells ≡ s.cells
unfolding moved
cells-moved d a zero s = refl
cells-moved d a (suc m) s = refl

pub steps-moved : (d : Direction) (a : Automaton) (n : ℕ) (s : State) → (moved d a n s).steps ≡ s.steps +ℤ toward_steps d n
unfolding moved
steps-moved d a zero s = sym (no_steps d s.steps)
steps-moved d a (suc m) s = refl

module _ (d : Direction) (a : Automaton) (s : State) (room : Roomy s) where
  pub length-steps : (m : ℕ) → length (after a (toward_steps d m) (held s)) ≡ s.cells
  length-steps m = length-after a (toward_steps d m) (held s) ∙ length-held s room

  pub held_moved : (i : ℕ) → held (moved d a i s) ≡ after a (toward_steps d i) (held s)
  unfolding moved
  held_moved zero = sym (after_none d a (held s))
  held_moved (suc m) = held-holding (s.steps +ℤ toward_steps d (suc m)) (after a (toward_steps d (suc m)) (held s)) (after a (toward_steps d m) (held s)) s (length-steps (suc m))

  -- each buffer keeps its length
  pub length_moved : (h : Holder) (i : ℕ) → length (of_buffer h (moved d a i s).a (moved d a i s).b) ≡ length (of_buffer h s.a s.b)
  unfolding moved
  length_moved h zero = refl
  length_moved h (suc m) = length-holding h (s.steps +ℤ toward_steps d (suc m)) (after a (toward_steps d (suc m)) (held s)) (after a (toward_steps d m) (held s)) s room (length-steps (suc m)) (length-steps m)

  pub roomy-moved : (i : ℕ) → Roomy (moved d a i s)
  roomy-moved i = record { a = omega (arith, room.a, length_moved A i, cells-moved d a i s); b = omega (arith, room.b, length_moved B i, cells-moved d a i s) }

-- one step, as the code makes it: from the buffer that holds the ring into the other

module _ (d : Direction) (a : Automaton) (s : State) (some : 1 ≤ s.cells) (few : s.cells ≤ max_cells) (m : Movable d a 1 s) where
  after_writing : Holder → List ℕ → List ℕ → State
  after_writing g x y = record { cells = s.cells; steps = s.steps +ℤ toward_steps d 1; a = written_over (of_buffer g x y) s.a; b = written_over (of_buffer g y x) s.b }

  -- the first cells of the buffer that holds the ring
  front : Holder → List ℕ
  front h = take s.cells (of_buffer h s.a s.b)

  moved_writing : (h : Holder) → holder s.steps ≡ h → moved d a 1 s ≡ after_writing (other h) (after a (toward_steps d 1) (front h)) (front h)
  unfolding moved after_writing front
  moved_writing h e =
      let held-front : held s ≡ front h = ap (λ g. take s.cells (of_buffer g s.a s.b)) e in
      ap (λ g. after_writing g (after a (toward_steps d 1) (held s)) (after a (toward_steps d 0) (held s))) (holder_next d s.steps ∙ ap other e)
      ∙ ap₂ (after_writing (other h)) (ap (after a (toward_steps d 1)) held-front) (after_none d a (held s) ∙ held-front)

  length-front : (h : Holder) → holder s.steps ≡ h → length (front h) ≡ s.cells
  unfolding front
  length-front h e = ap (λ g. length (take s.cells (of_buffer g s.a s.b))) (sym e) ∙ length-held s m.room

  codes-front : (h : Holder) → holder s.steps ≡ h → Codes a.states (front h)
  unfolding front
  codes-front h e = subst (λ g. Codes a.states (take s.cells (of_buffer g s.a s.b))) e m.codes

  module _ (h : Holder) (e : holder s.steps ≡ h) (to : List ℕ) (wide : s.cells ≤ length to) where
    mapped : map_buffer d a (front h) to ≡ written_over (after a (toward_steps d 1) (front h)) to
    mapped = let size = length-front h e in map_buffer_good d a (front h) to m.goes (omega (arith, size)) (omega (arith, size)) (omega (arith, size)) (codes-front h e)

    front_accepted : map_answer d a (front h) to ≡ Ok tt
    front_accepted = let size = length-front h e in ap outcome (map_accepted d a (front h) to m.goes (omega (arith, size)) (omega (arith, size)) (omega (arith, size)) (codes-front h e))

  pub accepted_from_a : holder s.steps ≡ A → (r : Result (Unit {0}) RuleFault) → r ≡ map_answer d a (take s.cells s.a) s.b → IsOk r
  unfolding front
  accepted_from_a e r answer = subst IsOk (sym (answer ∙ front_accepted A e s.b m.room.b)) refl

  pub accepted_from_b : holder s.steps ≡ B → (r : Result (Unit {0}) RuleFault) → r ≡ map_answer d a (take s.cells s.b) s.a → IsOk r
  unfolding front
  accepted_from_b e r answer = subst IsOk (sym (answer ∙ front_accepted B e s.a m.room.a)) refl

  pub step_from_a : holder s.steps ≡ A → (n : ℕ) (k : ℤ) (l r : List ℕ) → n ≡ s.cells → k ≡ s.steps +ℤ toward_steps d 1 → l ≡ s.a → r ≡ map_buffer d a (take s.cells s.a) s.b
      → ◌≡◌ {A = State} (record { cells = n; steps = k; a = l; b = r }) (moved d a 1 s)
  unfolding after_writing front
  step_from_a e n k l r en ek el er = state_is en ek (el ∙ sym (written_front s.cells s.a m.room.a)) (er ∙ mapped A e s.b m.room.b) ∙ sym (moved_writing A e)

  pub step_from_b : holder s.steps ≡ B → (n : ℕ) (k : ℤ) (l r : List ℕ) → n ≡ s.cells → k ≡ s.steps +ℤ toward_steps d 1 → l ≡ map_buffer d a (take s.cells s.b) s.a → r ≡ s.b
      → ◌≡◌ {A = State} (record { cells = n; steps = k; a = l; b = r }) (moved d a 1 s)
  unfolding after_writing front
  step_from_b e n k l r en ek el er = state_is en ek (el ∙ mapped B e s.a m.room.a) (er ∙ sym (written_front s.cells s.b m.room.b)) ∙ sym (moved_writing B e)

-- steps that nothing refuses

module _ (d : Direction) (a : Automaton) (sound : Sound a) (n : ℕ) (s : State) (some : 1 ≤ s.cells) (m : Movable d a n s) where
  pub ring-held : Ring a.states (held s)
  ring-held = record { some = omega (arith, length-held s m.room); codes = m.codes }

  pub codes-moved : (i : ℕ) → Codes a.states (held (moved d a i s))
  codes-moved i = subst (Codes a.states) (sym (held_moved d a s m.room i)) (ring-after a sound (toward_steps d i) (held s) ring-held).codes

module _ (d : Direction) (a : Automaton) (sound : Sound a) (n : ℕ) (s : State) (some : 1 ≤ s.cells) (near : nat_abs s.steps ≤ max_steps) (m : Movable d a n s) where
  -- one step more
  pub moved_more : (i : ℕ) → moved d a 1 (moved d a i s) ≡ moved d a (suc i) s
  unfolding moved
  moved_more zero = refl
  moved_more (suc j) =
      let before = moved d a (suc j) s in
      let ring = held_moved d a s m.room (suc j) in
      let count : (s.steps +ℤ toward_steps d (suc j)) +ℤ toward_steps d 1 ≡ s.steps +ℤ toward_steps d (suc (suc j)) = steps_more d s.steps (suc j) in
      let next : after a (toward_steps d 1) (held before) ≡ after a (toward_steps d (suc (suc j))) (held s) = ap (after a (toward_steps d 1)) ring ∙ after_more d a sound m.goes (held s) (ring-held d a sound n s some m) (suc j) in
      let now : after a (toward_steps d 0) (held before) ≡ after a (toward_steps d (suc j)) (held s) = after_none d a (held before) ∙ ring in
      ap (λ k. holding k (after a (toward_steps d 1) (held before)) (after a (toward_steps d 0) (held before)) before) count
      ∙ ap₂ (λ x y. holding (s.steps +ℤ toward_steps d (suc (suc j))) x y before) next now
      ∙ holding_twice _ (s.steps +ℤ toward_steps d (suc j)) _ _ _ _ s (length-steps d a s m.room (suc (suc j))) (length-steps d a s m.room (suc j)) (length-steps d a s m.room (suc j)) (length-steps d a s m.room j)

  pub unrefused-moved : (i : ℕ) → i < n → move_fault d a 1 (moved d a i s) ≡ None
  unrefused-moved i h = unrefused d a 1 (moved d a i s) (record {
    goes = m.goes;
    room = roomy-moved d a s m.room i;
    few = omega arith;
    near = rw (steps-moved d a i s) (between d m.near);
    codes = codes-moved d a sound n s some m i;
  }) where
    between : (d : Direction) → nat_abs (s.steps +ℤ toward_steps d n) ≤ max_steps → nat_abs ((s.steps +ℤ toward_steps d i) +ℤ toward_steps d 1) ≤ max_steps
    between Forward e = omega (arith, ints)
    between Backward e = omega (arith, ints)
