-- Lemmas on automata: steps forward and back add up, and rings stay rings of the same length.
use Rattle.std.proofs.Common.{◌≡◌, ℕ, zero, suc, ◌+◌, ◌-◌, ◌≤◌, List, length, ℤ, pos, negsuc, ◌+ℤ◌, IfSome, Some, None, Option, sym, refl, ap, ◌∙◌, ⊎_elim, arith}
use Rattle.std.proofs.lemmas.Int.{ints}
use Rattle.std.proofs.lemmas.Bool.{cases_lt}
use Rattle.rings.specs.Line.{power}
use Rattle.rings.specs.Ring.{Ring}
use Rattle.rings.specs.Local.{Local, ring_map, Closed, Undoes}
use Rattle.rings.specs.Automaton.{Automaton, Inverse, Sound, undone, after, Goes, StepsAdd}
use Rattle.rings.proofs.Local.{length-power, ring-power, power_undoes}

pub power_add : {X : Type 0} (f : X → X) (m n : ℕ) (x : X) → power f m (power f n x) ≡ power f (m + n) x
unfolding power
power_add f m zero x = let e : m ≡ m + 0 = omega arith in ap (λ k. power f k x) e
power_add f m (suc n) x =
    let e : suc (m + n) ≡ m + suc n = omega arith in
    power_add f m n (f x) ∙ ap (λ k. power f k x) e

-- where f undoes g: m steps of f after n steps of g
module _ (q : ℕ) (f g : Local) (closed : Closed q g) (u : Undoes q f g) where
  more_back : (m n : ℕ) (c : List ℕ) → Ring q c → n ≤ m → power (ring_map f) m (power (ring_map g) n c) ≡ power (ring_map f) (m - n) c
  more_back m n c r h =
      let e : m ≡ m - n + n = omega arith in
      ap (λ k. power (ring_map f) k (power (ring_map g) n c)) e ∙
      sym (power_add (ring_map f) (m - n) n (power (ring_map g) n c)) ∙
      ap (power (ring_map f) (m - n)) (power_undoes q f g closed u n c r)

  fewer_back : (m n : ℕ) (c : List ℕ) → Ring q c → m ≤ n → power (ring_map f) m (power (ring_map g) n c) ≡ power (ring_map g) (n - m) c
  fewer_back m n c r h =
      let e : n ≡ m + (n - m) = omega arith in
      ap (λ k. power (ring_map f) m (power (ring_map g) k c)) e ∙
      ap (power (ring_map f) m) (sym (power_add (ring_map g) m (n - m) c)) ∙
      power_undoes q f g closed u m (power (ring_map g) (n - m) c) (ring-power q g closed (n - m) c r)

abbrev reversible : ℕ → Local → Local → Automaton
reversible q f g = record { states = q; forward = f; inverse = Some g }

reversible_add : (q : ℕ) (f g : Local) → Closed q f → Inverse q f g → (j k : ℤ) (c : List ℕ) → Ring q c → after (reversible q f g) j (after (reversible q f g) k c) ≡ after (reversible q f g) (j +ℤ k) c
reversible_add q f g closed i (pos m) (pos n) c r = power_add (ring_map f) m n c
reversible_add q f g closed i (negsuc m) (negsuc n) c r =
    let e : suc m + suc n ≡ suc (suc (m + n)) = omega arith in
    power_add (ring_map g) (suc m) (suc n) c ∙ ap (λ k. power (ring_map g) k c) e
reversible_add q f g closed i (pos m) (negsuc n) c r = ⊎_elim
    (λ h. let e : pos m +ℤ negsuc n ≡ negsuc (n - m) = omega (arith, ints) in
    let d : suc n - m ≡ suc (n - m) = omega arith in
    fewer_back q f g i.proper.closed i.before m (suc n) c r (omega arith) ∙ ap (λ k. power (ring_map g) k c) d ∙ ap (λ z. after (reversible q f g) z c) (sym e))
    (λ h. let e : pos m +ℤ negsuc n ≡ pos (m - suc n) = omega (arith, ints) in
    more_back q f g i.proper.closed i.before m (suc n) c r h ∙ ap (λ z. after (reversible q f g) z c) (sym e))
    (cases_lt m (suc n))
reversible_add q f g closed i (negsuc m) (pos n) c r = ⊎_elim
    (λ h. let e : negsuc m +ℤ pos n ≡ negsuc (m - n) = omega (arith, ints) in
    let d : suc m - n ≡ suc (m - n) = omega arith in
    more_back q g f closed i.after (suc m) n c r (omega arith) ∙ ap (λ k. power (ring_map g) k c) d ∙ ap (λ z. after (reversible q f g) z c) (sym e))
    (λ h. let e : negsuc m +ℤ pos n ≡ pos (n - suc m) = omega (arith, ints) in
    fewer_back q g f closed i.after (suc m) n c r h ∙ ap (λ z. after (reversible q f g) z c) (sym e))
    (cases_lt n (suc m))

pub after_add : (a : Automaton) → Sound a → StepsAdd a
after_add a s j k c r = by a.inverse s.inverse j k where
  with_inverse : Option Local → Automaton
  with_inverse o = record { states = a.states; forward = a.forward; inverse = o }

  by : (o : Option Local) → IfSome o (Inverse a.states a.forward) → (j k : ℤ) → Goes (with_inverse o) j → Goes (with_inverse o) k → after (with_inverse o) j (after (with_inverse o) k c) ≡ after (with_inverse o) (j +ℤ k) c
  by None t (pos m) (pos n) g h = power_add (ring_map a.forward) m n c
  by None t (pos m) (negsuc n) g h = absurd h
  by None t (negsuc m) k g h = absurd g
  by (Some f) t j k g h = reversible_add a.states a.forward f s.forward.closed t j k c r

-- steps that add up to none lead back
pub after_undoes : (a : Automaton) → Sound a → (j k : ℤ) → j +ℤ k ≡ pos 0 → (c : List ℕ) → Ring a.states c → Goes a j → Goes a k → after a j (after a k c) ≡ c
unfolding power
after_undoes a s j k e c r g h = after_add a s j k c r g h ∙ ap (λ z. after a z c) e

-- rings stay rings, of the same length

pub length-after : (a : Automaton) (k : ℤ) (c : List ℕ) → length (after a k c) ≡ length c
length-after a (pos n) c = length-power a.forward n c
length-after a (negsuc n) c = by a.inverse where
  by : (o : Option Local) → length (undone o (suc n) c) ≡ length c
  by None = refl
  by (Some g) = length-power g (suc n) c

pub ring-after : (a : Automaton) → Sound a → (k : ℤ) (c : List ℕ) → Ring a.states c → Ring a.states (after a k c)
ring-after a s (pos n) c r = ring-power a.states a.forward s.forward.closed n c r
ring-after a s (negsuc n) c r = by a.inverse s.inverse where
  by : (o : Option Local) → IfSome o (Inverse a.states a.forward) → Ring a.states (undone o (suc n) c)
  by None i = r
  by (Some g) i = ring-power a.states g i.proper.closed (suc n) c r

-- an automaton that can go back can go any number of steps
pub goes_any : (a : Automaton) (n : ℕ) → Goes a (negsuc n) → (k : ℤ) → Goes a k
goes_any a n g (pos m) = tt
goes_any a n g (negsuc m) = g
