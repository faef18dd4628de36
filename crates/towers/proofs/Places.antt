-- Lemmas on what a tower answers when it is asked for a place.
use Rattle.std.proofs.Common.{◌≡◌, ℕ, zero, suc, ◌*◌, ◌/◌, ◌%◌, ◌<◌, ◌≤◌, Bool, true, false, cond, eqb, leb, is_err, Ok, Err, Result, sym, refl, ap, subst, div-add-mod', arith}
use Rattle.std.proofs.lemmas.Bool.{false≢true, eqb-true, leb-false}
use Rattle.std.specs.Result.{result_unwrap_or}
use Rattle.rules.specs.declared.fault.RuleFault.TheVariants.{EmptyRing, OutOfRange}
use Rattle.towers.specs.declared.Place.{Place}
use Rattle.towers.specs.declared.fault.TowerFault.{TowerFault}
use Rattle.towers.specs.declared.fault.TowerFault.TheVariants.{Rule, Ragged}
use Rattle.towers.specs.Towers.{Tower}
use Rattle.towers.specs.Numbers.{Standing}
use Rattle.towers.specs.Places.{place_answer}
use Rattle.towers.proofs.Encodings.{place_bounds}

-- what a tower answers, by what is the case: no cell, a multiple of the block, a cell that is not in the ring

abbrev pub answer : Bool → Bool → Bool → Place → Result Place TowerFault
answer empty whole outside p = cond empty (Err (Rule EmptyRing)) (cond whole (cond outside (Err (Rule OutOfRange)) (Ok p)) (Err Ragged))

-- what is the case where a place is answered
pub record Answered (b c d : Bool) (p q : Place) : Type 0 where
  pub some : b ≡ false
  pub whole : c ≡ true
  pub inside : d ≡ false
  pub place : q ≡ p

pub answered : (b c d : Bool) (p q : Place) → Ok q ≡ answer b c d p → Answered b c d p q
answered true c d p q h = absurd (false≢true (ap is_err h))
answered false false d p q h = absurd (false≢true (ap is_err h))
answered false true true p q h = absurd (false≢true (ap is_err h))
answered false true false p q h = record { some = refl; whole = refl; inside = refl; place = ap (λ r. result_unwrap_or r p) h }

-- the place that a tower tells
abbrev pub told : Tower → ℕ → ℕ → Place
told t n j = record { cell = (t.place n j).0; digit = (t.place n j).1 }

-- where a tower tells a place, it is inside of the encoded ring
pub place_inside : (t : Tower) → Standing t → (n j : ℕ) (p : Place) → Ok p ≡ place_answer t n j → (p.cell < n / t.block) × (p.digit < t.block)
place_inside t s n j p h =
    let a = answered (eqb n 0) (eqb (n % t.block) 0) (leb n j) (told t n j) p h in
    let less : j < n = leb-false n j a.inside in
    let none : n % t.block ≡ 0 = eqb-true (n % t.block) 0 a.whole in
    let size : n ≡ n / t.block * t.block = omega (arith, div-add-mod' n t.block) in
    let b = place_bounds t s.laws (n / t.block) n j (some (n / t.block) size less) size less in
    subst (λ (q : Place). (q.cell < n / t.block) × (q.digit < t.block)) (sym a.place) b
  where
    some : (k : ℕ) → n ≡ k * t.block → j < n → 1 ≤ k
    some zero e l = absurd (omega (arith, e))
    some (suc k) e l = omega arith
