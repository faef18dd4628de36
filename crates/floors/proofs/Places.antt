-- Lemmas on the places of a floor: those of the tower below, moved.
use Rattle.std.proofs.Common.{◌≡◌, ℕ, ◌*◌, ◌/◌, ◌%◌, ◌<◌, ◌≤◌, Bool, true, false, cond, ◌&&◌, eqb, leb, is_err, Some, None, Ok, Err, sym, refl, ap, ◌∙◌, subst, arith}
use native.Mathlib.Nat.{dvd_trans, dvd-mul_right, dvd_of_mod-eq-zero, mod-eq-zero_of_dvd}
use Rattle.std.proofs.lemmas.Bool.{true≢false, eq-eqb, cond-true, cond-false}
use Rattle.towers.specs.declared.Place.{Place}
use Rattle.floors.specs.declared.action.Action.{Action}
use Rattle.floors.specs.declared.action.Action.TheVariants.{Unchanged, Pack, Iterate, Shift, Mirror, Reduce}
use Rattle.towers.specs.declared.fault.TowerFault.{TowerFault}
use Rattle.towers.specs.declared.numbers.Numbers.{Numbers}
use Rattle.towers.specs.Towers.{Tower}
use Rattle.towers.specs.Numbers.{numbers_of, Standing}
use Rattle.floors.specs.Actions.{act_on, act_numbers, in_range, fits, floor_or, reduced_block}
use Rattle.floors.specs.Acting.{Workable, acted}
use Rattle.floors.specs.Floors.{moved_place}
use Rattle.towers.specs.Places.{place_answer}
use Rattle.towers.proofs.Places.{answer, answered, told, place_inside}
use Rattle.floors.specs.ActingLemmas.{acted_numbers, standing_acted, workable}

-- a refusal does not depend on the place
other_place : (b c d : Bool) (p q : Place) (f : TowerFault) → Err f ≡ answer b c d p → Err f ≡ answer b c d q
other_place true c d p q f h = h
other_place false false d p q f h = h
other_place false true true p q f h = h
other_place false true false p q f h = absurd (true≢false (ap is_err h))

told_moved : (act : Action) (t : Tower) (n j : ℕ) → moved_place act (numbers_of t) n (told t n j) ≡ told (act_on act t) n j
told_moved Unchanged t n j = refl
told_moved (Pack m) t n j = refl
told_moved (Iterate u) t n j = refl
told_moved (Shift s) t n j = refl
told_moved Mirror t n j = refl
told_moved Reduce t n j = refl

-- a multiple of the floor's block is one of the block below

whole_part : (m k n : ℕ) → n % (m * k) ≡ 0 → n % m ≡ 0
whole_part m k n e = mod-eq-zero_of_dvd m (dvd_trans _ (dvd-mul_right m k) (dvd_of_mod-eq-zero (m * k) e))

whole_below : (act : Action) (t : Tower) (n : ℕ) → n % (act_on act t).block ≡ 0 → n % t.block ≡ 0
whole_below Unchanged t n e = e
whole_below (Pack m) t n e = whole_part t.block m n e
whole_below (Iterate u) t n e = e
whole_below (Shift s) t n e = e
whole_below Mirror t n e = e
whole_below Reduce t n e = whole_part t.block (reduced_block (numbers_of t)) n e

-- the places of a floor over a tower, for a multiple of the floor's block
module _ (act : Action) (t : Tower) (n j : ℕ) (whole : n % (act_on act t).block ≡ 0) where
  -- both blocks answer alike
  alike : (p : Place) → answer (eqb n 0) (eqb (n % t.block) 0) (leb n j) p ≡ answer (eqb n 0) (eqb (n % (act_on act t).block) 0) (leb n j) p
  alike p = ap (λ w. answer (eqb n 0) w (leb n j) p) (eq-eqb _ _ (whole_below act t n whole) ∙ sym (eq-eqb _ _ whole))

  pub place-refused : (f : TowerFault) → Err f ≡ place_answer t n j → Err f ≡ place_answer (act_on act t) n j
  place-refused f h = other_place (eqb n 0) (eqb (n % (act_on act t).block) 0) (leb n j) (told t n j) (told (act_on act t) n j) f (h ∙ alike (told t n j))

  pub place-moved : (p : Place) → Ok p ≡ place_answer t n j → Ok (moved_place act (numbers_of t) n p) ≡ place_answer (act_on act t) n j
  place-moved p h =
      let a = answered (eqb n 0) _ (leb n j) (told t n j) p (h ∙ alike (told t n j)) in
      let q : moved_place act (numbers_of t) n p ≡ told (act_on act t) n j = ap (moved_place act (numbers_of t) n) a.place ∙ told_moved act t n j in
      ap Ok q ∙ sym (cond-false _ _ _ a.some ∙ cond-true _ _ _ a.whole ∙ cond-false _ _ _ a.inside)

-- what the code of a floor answers where the action has the outcome y on the numbers x of the tower below

pub outcome_is : (act : Action) (x y : Numbers) → Some y ≡ acted act x → ((in_range act && fits act x) ≡ true) × (y ≡ act_numbers act x)
outcome_is act x y = by (in_range act && fits act x) where
  by : (b : Bool) → Some y ≡ cond b (Some (act_numbers act x)) None → (b ≡ true) × (y ≡ act_numbers act x)
  by true h = (refl, cc)
  by false h = let z : ◌≡◌ {A = ℕ} 0 1 = cc in absurd (omega arith)

module _ (act : Action) (t : Tower) (s : Standing t) (x y : Numbers) (same : x ≡ numbers_of t) (outcome : Some y ≡ acted act x) where
  fit : (in_range act && fits act (numbers_of t)) ≡ true
  fit = ap (λ z. in_range act && fits act z) (sym same) ∙ (outcome_is act x y outcome).0

  block-after : y.block ≡ (act_on act t).block
  block-after = ap (λ (z : Numbers). z.block) ((outcome_is act x y outcome).1 ∙ ap (act_numbers act) same ∙ sym (acted_numbers act t))

  pub block-some : 0 < y.block
  block-some = rw block-after (standing_acted act t s fit).laws.block

  -- the place lies inside
  pub inside : (n j : ℕ) (p : Place) → Ok p ≡ place_answer t n j → (p.cell < n / x.block) × (p.digit < x.block)
  inside n j p h = subst (λ z. (p.cell < n / z.block) × (p.digit < z.block)) (sym same) (place_inside t s n j p h)

  -- the numbers and the place can be moved
  pub movable : (n j : ℕ) (p : Place) → Ok p ≡ place_answer t n j → (Workable x × (1 ≤ x.block)) × ((p.cell < n / x.block) × (p.digit < x.block))
  movable n j p h = (subst (λ z. Workable z × (1 ≤ z.block)) (sym same) (workable t s, s.laws.block), inside n j p h)

  module _ (n j : ℕ) (whole : n % y.block ≡ 0) where
    whole_after : n % (act_on act t).block ≡ 0
    whole_after = ap (λ m. n % m) (sym block-after) ∙ whole

    acts : place_answer (act_on act t) n j ≡ place_answer (floor_or act t) n j
    acts = ap (λ u. place_answer u n j) (sym (cond-true _ _ _ fit))

    pub floor_refused : (f : TowerFault) → Err f ≡ place_answer t n j → Err f ≡ place_answer (floor_or act t) n j
    floor_refused f h = place-refused act t n j whole_after f h ∙ acts

    pub floor_moved : (p : Place) → Ok p ≡ place_answer t n j → Ok (moved_place act x n p) ≡ place_answer (floor_or act t) n j
    floor_moved p h = ap (λ z. Ok (moved_place act z n p)) same ∙ place-moved act t n j whole_after p h ∙ acts
