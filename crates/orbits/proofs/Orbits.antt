-- Lemmas on steps of a direction, one after the other.
use Rattle.std.proofs.Common.{◌≡◌, ℕ, zero, suc, ◌≤◌, eqb, cond, List, length, pos, neg_ℤ, Some, None, Option, sym, refl, ap, ◌∙◌, arith}
use Rattle.std.proofs.lemmas.Bool.{ne_eqb, le-ltb}
use Rattle.rings.specs.declared.Direction.{Direction}
use Rattle.rings.specs.declared.Direction.TheVariants.{Forward, Backward}
use Rattle.rings.specs.Line.{power}
use Rattle.rings.specs.Ring.{Ring}
use Rattle.rings.specs.Local.{Local}
use Rattle.rings.specs.Automaton.{Automaton, Lawful, toward, after, toward_steps}
use Rattle.rings.proofs.Ring.{first_stray-codes}
use Rattle.rings.proofs.Local.{ring-power}
use Rattle.rules.specs.declared.fault.RuleFault.{RuleFault}
use Rattle.rules.specs.Maps.{map_fault, image}
use Rattle.rules.proofs.Maps.{Usable, usable, mappable, length-image}

pub length-power-image : (o : Option Local) (n : ℕ) (c : List ℕ) → length (power (image o) n c) ≡ length c
unfolding power
length-power-image o zero c = refl
length-power-image o (suc n) c = length-power-image o n (image o c) ∙ length-image o c

-- steps of a direction are steps of the automaton
pub power_after : (d : Direction) (a : Automaton) (n : ℕ) (c : List ℕ) → power (image (toward d a)) n c ≡ after a (toward_steps d n) c
unfolding power
power_after Forward a n c = refl
power_after Backward a n c = back n a.inverse refl where
  still : (n : ℕ) → power (image None) n c ≡ c
  still zero = refl
  still (suc n) = still n

  back : (n : ℕ) (o : Option Local) → a.inverse ≡ o → power (image o) n c ≡ after a (neg_ℤ (pos n)) c
  back zero o e = refl
  back (suc n) None e = rw e (still n)
  back (suc n) (Some l) e = rw e

-- a ring that is mapped is mapped again after any number of steps

module _ (d : Direction) (a : Automaton) (l : Lawful a) (c : List ℕ) where
  again : (n : ℕ) → None ≡ map_fault a.states (toward d a) c (length c) → map_fault a.states (toward d a) (power (image (toward d a)) n c) (length c) ≡ None
  again n = by (toward d a) (usable d a l) where
    by : (o : Option Local) → Usable a.states o → None ≡ map_fault a.states o c (length c) → map_fault a.states o (power (image o) n c) (length c) ≡ None
    by None u h = sym h
    by (Some f) u h =
        let m = mappable a.states c (length c) h in
        let r : Ring a.states (power (image (Some f)) n c) = ring-power a.states f u.0.closed n c (record { some = m.some; codes = m.codes }) in
        let long = length-power-image (Some f) n c in
        rw (
          ne_eqb (length (power (image (Some f)) n c)) 0 (λ z. omega (arith, r.some)),
          le-ltb 2048 (length (power (image (Some f)) n c)) (omega (arith, m.few)),
          le-ltb (length c) (length (power (image (Some f)) n c)) (omega arith),
          first_stray-codes 0 a.states (power (image (Some f)) n c) r.codes,
        )

  -- what refuses a later step refuses the first one
  pub first_refused : (n : ℕ) (now : List ℕ) (f : RuleFault) → now ≡ power (image (toward d a)) n c → (1 ≤ n → None ≡ map_fault a.states (toward d a) c (length c))
      → Some f ≡ map_fault a.states (toward d a) now (length c) → Some f ≡ map_fault a.states (toward d a) c (length c)
  unfolding power
  first_refused zero now f e h s = s ∙ ap (λ x. map_fault a.states (toward d a) x (length c)) e
  first_refused (suc n) now f e h s =
      let z : Some f ≡ None = s ∙ ap (λ x. map_fault a.states (toward d a) x (length c)) e ∙ again (suc n) (h (omega arith)) in
      let y : ◌≡◌ {A = ℕ} 0 1 = cc in
      absurd (omega arith)

  -- where a step was accepted, the first one was
  pub first_accepted : (n : ℕ) (now : List ℕ) → now ≡ power (image (toward d a)) n c → (1 ≤ n → None ≡ map_fault a.states (toward d a) c (length c))
      → None ≡ map_fault a.states (toward d a) now (length c) → None ≡ map_fault a.states (toward d a) c (length c)
  unfolding power
  first_accepted zero now e h s = s ∙ ap (λ x. map_fault a.states (toward d a) x (length c)) e
  first_accepted (suc n) now e h s = h (omega arith)

-- no step is never refused
pub none_or : (n : ℕ) (o : Option RuleFault) → (1 ≤ n → None ≡ o) → cond (eqb n 0) None o ≡ None
none_or zero o h = refl
none_or (suc n) o h = rw (ne_eqb (suc n) 0 (λ z. omega arith)) (sym (h (omega arith)))
