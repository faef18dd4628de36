-- Lemmas on actions: their numbers are those of the towers that they make, and a floor over a tower that stands stands.
use Rattle.std.specs.Prelude.{◌≡◌, ℕ, ◌^◌, ◌≤◌, Bool, true, false, cond, ◌&&◌, ℤ, ◌+ℤ◌, neg_ℤ, ◌≤ℤ◌, IfSome, Some, None, Option, int_le, nat_le, unsigned_abs, refl}
use Rattle.std.proofs.Common.{sym, ap, ap₂, subst, ◌∙◌, arith}
use Rattle.std.proofs.lemmas.Int.{ints}
use Rattle.std.proofs.lemmas.Bool.{leb-true, le-leb, and_parts, and_from, and_left, cond_both, cond-false, true≢false}
use Rattle.std.specs.Option.{option_map}
use Rattle.rings.specs.Limits.{max_states, min_end, max_end, max_width, ends_fit}
use Rattle.rings.specs.Local.{Local, span}
use Rattle.rings.specs.Automaton.{Narrow, Bounded, Proper, Inverse}
use Rattle.rings.specs.Transformations.{iterate_local, shift_local, mirror_local, pack_local}
use Rattle.rules.specs.Answers.{ends}
use Rattle.floors.specs.declared.action.Action.{Action}
use Rattle.floors.specs.declared.action.Action.TheVariants.{Unchanged, Pack, Iterate, Shift, Mirror, Reduce}
use Rattle.towers.specs.declared.numbers.Numbers.{Numbers}
use Rattle.towers.specs.Towers.{Tower, Stands}
use Rattle.floors.specs.Transformed.{iterate_tower, shift_tower, mirror_tower, pack_tower}
use Rattle.towers.specs.Numbers.{numbers_of, Standing}
use Rattle.towers.specs.Limits.{max_block, max_steps, max_drift}
use Rattle.floors.specs.Actions.{act_on, iterate_ends, shift_ends, mirror_ends, pack_ends, iterate_numbers, shift_numbers, mirror_numbers, pack_numbers, reduced_block, act_numbers, in_range, inverse_fits, intervals_fit, within_limits, reduces, fits, floor_or, floor_numbers}
use Rattle.floors.specs.Limits.{max_argument}
use Rattle.floors.specs.Acting.{LawfulEnds, LawfulInverse, Packable, Workable, limited, acted}
use Rattle.floors.specs.TransformedLemmas.{stands_iterate, stands_shift, stands_mirror, stands_pack, stands_reduce}

-- the numbers of the tower that an action makes

-- a map of local functions that maps their ends
pub ends_mapped : (h : Local → Local) (f : ℤ × ℤ → ℤ × ℤ) → ((l : Local) → ((h l).lo, (h l).hi) ≡ f (l.lo, l.hi)) → (o : Option Local) → ends (option_map h o) ≡ option_map f (ends o)
ends_mapped h f e None = refl
ends_mapped h f e (Some l) = ap Some (e l)

-- the numbers with another interval of the inverse
with_inverse : Numbers → Option (ℤ × ℤ) → Numbers
with_inverse x inverse = record {
  states = x.states;
  lo = x.lo;
  hi = x.hi;
  inverse = inverse;
  block = x.block;
  steps = x.steps;
  drift = x.drift;
  mirrored = x.mirrored;
  bottom = x.bottom;
}

iterated_numbers : (u : ℕ) (t : Tower) → numbers_of (iterate_tower u t) ≡ iterate_numbers u (numbers_of t)
unfolding with_inverse
iterated_numbers u t = ap (with_inverse (numbers_of (iterate_tower u t))) (ends_mapped (iterate_local u) (iterate_ends u) (λ l. refl) t.top.inverse)

shifted_numbers : (s : ℤ) (t : Tower) → numbers_of (shift_tower s t) ≡ shift_numbers s (numbers_of t)
unfolding with_inverse
shifted_numbers s t = ap (with_inverse (numbers_of (shift_tower s t))) (ends_mapped (shift_local (neg_ℤ s)) (shift_ends (neg_ℤ s)) (λ l. refl) t.top.inverse)

mirrored_numbers : (t : Tower) → numbers_of (mirror_tower t) ≡ mirror_numbers (numbers_of t)
unfolding with_inverse
mirrored_numbers t = ap (with_inverse (numbers_of (mirror_tower t))) (ends_mapped mirror_local mirror_ends (λ l. refl) t.top.inverse)

packed_numbers : (m : ℕ) (t : Tower) → numbers_of (pack_tower m t) ≡ pack_numbers m (numbers_of t)
unfolding with_inverse
packed_numbers m t = ap (with_inverse (numbers_of (pack_tower m t))) (ends_mapped (pack_local t.top.states m) (pack_ends m) (λ l. refl) t.top.inverse)

pub acted_numbers : (act : Action) (t : Tower) → numbers_of (act_on act t) ≡ act_numbers act (numbers_of t)
acted_numbers Unchanged t = refl
acted_numbers (Pack m) t = packed_numbers m t
acted_numbers (Iterate u) t = iterated_numbers u t
acted_numbers (Shift s) t = shifted_numbers s t
acted_numbers Mirror t = mirrored_numbers t
acted_numbers Reduce t =
    let s = neg_ℤ t.top.forward.lo in
    let m = reduced_block (numbers_of t) in
    packed_numbers m (shift_tower s t) ∙ ap (pack_numbers m) (shifted_numbers s t)

-- the numbers of a floor
pub floor_numbers_are : (act : Action) (t : Tower) → numbers_of (floor_or act t) ≡ floor_numbers act (numbers_of t)
floor_numbers_are act t = by (in_range act && fits act (numbers_of t)) where
  by : (b : Bool) → numbers_of (cond b (act_on act t) t) ≡ cond b (act_numbers act (numbers_of t)) (numbers_of t)
  by true = acted_numbers act t
  by false = refl

-- what the tests of the limits say

-- the first is at most the second
le_z_true : (a b : ℤ) → int_le a b ≡ true → a ≤ℤ b
le_z_true a b h = grind (arith, ints)

-- what the test of an interval says
fitting-ends : (lo hi : ℤ) → ends_fit lo hi ≡ true → (min_end ≤ℤ lo) × (hi ≤ℤ max_end) × (span lo hi ≤ max_width)
fitting-ends lo hi h =
    let p = and_parts _ _ h in
    let r = and_parts _ _ p.1 in
    (le_z_true _ _ p.0, le_z_true _ _ r.0, leb-true _ _ r.1)

-- a local function with such an interval keeps the bounds, and so does an inverse
narrow : (l : Local) → ends_fit l.lo l.hi ≡ true → Narrow l
narrow l h = let p = fitting-ends l.lo l.hi h in record { low = p.0; high = p.1; narrow = p.2 }

narrow-inverse : (o : Option Local) → inverse_fits (ends o) ≡ true → IfSome o Narrow
narrow-inverse None h = tt
narrow-inverse (Some l) h = narrow l h

-- what the limits say, one after the other
record Within (x : Numbers) : Type 0 where
  states : x.states ≤ max_states
  intervals : intervals_fit x ≡ true
  block : x.block ≤ max_block
  steps : x.steps ≤ max_steps
  drift : unsigned_abs x.drift ≤ max_drift

within : (x : Numbers) → within_limits x ≡ true → Within x
unfolding within_limits
within x h =
    let p = and_parts _ _ h in
    let q = and_parts _ _ p.1 in
    let r = and_parts _ _ q.1 in
    let s = and_parts _ _ r.1 in
    record { states = leb-true _ _ p.0; intervals = q.0; block = leb-true _ _ r.0; steps = leb-true _ _ s.0; drift = leb-true _ _ s.1 }

within_limits_of : (x : Numbers) → Within x → within_limits x ≡ true
unfolding within_limits
within_limits_of x w = and_from _ _ (le-leb _ _ w.states) (and_from _ _ w.intervals (and_from _ _ (le-leb _ _ w.block) (and_from _ _ (le-leb _ _ w.steps) (le-leb _ _ w.drift))))

-- a tower that stands keeps the bounds if its numbers are within the limits
standing_within : (t : Tower) → Stands t → Bounded t.bottom → within_limits (numbers_of t) ≡ true → Standing t
standing_within t stands bottom h =
    let w = within (numbers_of t) h in
    let intervals = and_parts _ _ w.intervals in
    record {
      laws = stands;
      top = record { few = w.states; forward = narrow t.top.forward intervals.0; inverse = narrow-inverse t.top.inverse intervals.1 };
      bottom = bottom;
      block = w.block;
      steps = w.steps;
      drift = w.drift;
    }

-- an action on a tower that stands

-- the tower that an action in its range makes stands
stands_acted : (act : Action) (t : Tower) → in_range act ≡ true → Stands t → Stands (act_on act t)
stands_acted Unchanged t h stands = stands
stands_acted (Pack m) t h stands = stands_pack t stands m (leb-true _ _ (and_parts _ _ h).0)
stands_acted (Iterate u) t h stands = stands_iterate t stands u (leb-true _ _ (and_parts _ _ h).0)
stands_acted (Shift s) t h stands = stands_shift t stands s
stands_acted Mirror t h stands = stands_mirror t stands
stands_acted Reduce t h stands = stands_reduce t stands

-- the bottom stays
same-bottom : (act : Action) (t : Tower) → (act_on act t).bottom ≡ t.bottom
same-bottom Unchanged t = refl
same-bottom (Pack m) t = refl
same-bottom (Iterate u) t = refl
same-bottom (Shift s) t = refl
same-bottom Mirror t = refl
same-bottom Reduce t = refl

-- with an outcome that fits, it keeps the bounds
pub standing_acted : (act : Action) (t : Tower) → Standing t → (in_range act && fits act (numbers_of t)) ≡ true → Standing (act_on act t)
standing_acted act t s h =
    let p = and_parts _ _ h in
    standing_within (act_on act t) (stands_acted act t p.0 s.laws) (subst Bounded (sym (same-bottom act t)) s.bottom) (ap within_limits (acted_numbers act t) ∙ (and_parts _ _ p.1).1)

-- a floor over a tower that stands stands
pub floor_standing : (act : Action) (t : Tower) → Standing t → Standing (floor_or act t)
floor_standing act t s = cond_both (in_range act && fits act (numbers_of t)) (act_on act t) t Standing (standing_acted act t s) (λ h. s)

-- the numbers of a tower that stands can be acted on

-- the ends of a proper and narrow local function are those of a rule
lawful_ends : (q : ℕ) (l : Local) → Proper q l → Narrow l → LawfulEnds l.lo l.hi
lawful_ends q l p n = record { low = n.low; ordered = p.ordered; high = n.high; narrow = n.narrow }

lawful_inverse : (q : ℕ) (f : Local) (o : Option Local) → IfSome o (Inverse q f) → IfSome o Narrow → LawfulInverse (ends o)
lawful_inverse q f None p n = tt
lawful_inverse q f (Some l) p n = lawful_ends q l p.proper n

pub workable : (t : Tower) → Standing t → Workable (numbers_of t)
workable t s =
    let a = t.top in
    record {
      packable = record {
        ends = lawful_ends a.states a.forward s.laws.top.forward s.top.forward;
        inverse = lawful_inverse a.states a.forward a.inverse s.laws.top.inverse s.top.inverse;
        some = s.laws.top.some;
        few = s.top.few;
        block = s.block;
      };
      steps = s.steps;
      drift = s.drift;
    }

-- what the code of packing and reduction answers

-- too many states
pub packed_not : (m : ℕ) (x : Numbers) → None ≡ cond (nat_le (x.states ^ m) max_states) (Some (x.states ^ m)) None → None ≡ limited (pack_numbers m x)
unfolding within_limits
packed_not m x = by (nat_le (x.states ^ m) max_states) _ where
  by : (b c : Bool) → None ≡ cond b (Some (x.states ^ m)) None → None ≡ cond (b && c) (Some (pack_numbers m x)) None
  by true c h = let z : ◌≡◌ {A = ℕ} 0 1 = cc in absurd (omega arith)
  by false c h = refl

-- numbers that are within the limits, or not
pub limited_is : (x y : Numbers) → Some y ≡ limited x → (within_limits x ≡ true) × (y ≡ x)
limited_is x y = by (within_limits x) where
  by : (b : Bool) → Some y ≡ cond b (Some x) None → (b ≡ true) × (y ≡ x)
  by true h = (refl, cc)
  by false h = let z : ◌≡◌ {A = ℕ} 0 1 = cc in absurd (omega arith)

limited_not : (x : Numbers) → None ≡ limited x → within_limits x ≡ false
limited_not x = by (within_limits x) where
  by : (b : Bool) → None ≡ cond b (Some x) None → b ≡ false
  by true h = let z : ◌≡◌ {A = ℕ} 0 1 = cc in absurd (omega arith)
  by false h = refl

-- shifted ends that pass the test are those of a rule
lawful_shifted : (s lo hi : ℤ) → LawfulEnds lo hi → ends_fit (lo +ℤ s) (hi +ℤ s) ≡ true → LawfulEnds (lo +ℤ s) (hi +ℤ s)
lawful_shifted s lo hi l h =
    let p = fitting-ends (lo +ℤ s) (hi +ℤ s) h in
    record { low = p.0; ordered = omega (arith, ints, l.ordered); high = p.1; narrow = p.2 }

lawful_inverse_shifted : (s : ℤ) (o : Option (ℤ × ℤ)) → LawfulInverse o → inverse_fits (option_map (shift_ends s) o) ≡ true → LawfulInverse (option_map (shift_ends s) o)
lawful_inverse_shifted s None l h = tt
lawful_inverse_shifted s (Some e) l h = lawful_shifted s e.0 e.1 l h

-- shifted numbers whose intervals pass the test can be packed
pub packable_shifted : (s : ℤ) (x y : Numbers) → Packable x → y ≡ shift_numbers s x → intervals_fit y ≡ true → Packable y
packable_shifted s x y p e h =
    let q = and_parts _ _ (ap intervals_fit (sym e) ∙ h) in
    subst Packable (sym e) (record {
      ends = lawful_shifted s x.lo x.hi p.ends q.0;
      inverse = lawful_inverse_shifted (neg_ℤ s) x.inverse p.inverse q.1;
      some = p.some;
      few = p.few;
      block = p.block;
    })

-- reduction by blocks of m cells, over the shifted numbers y
module _ (x y : Numbers) (m : ℕ) (block : m ≡ reduced_block x) (shifted : y ≡ shift_numbers (neg_ℤ x.lo) x) where
  abbrev answer : ℕ → Numbers → Option Numbers
  answer n z = cond ((nat_le n max_argument && intervals_fit z) && within_limits (pack_numbers n z)) (Some (pack_numbers n z)) None

  same : answer m y ≡ acted Reduce x
  same = ap₂ answer block shifted

  pub reduced_not : (nat_le m max_argument && intervals_fit y) ≡ false → None ≡ acted Reduce x
  reduced_not h = sym (cond-false _ _ _ (and_left _ _ h)) ∙ same

  pub reduced_is : (nat_le m max_argument && intervals_fit y) ≡ true → limited (pack_numbers m y) ≡ acted Reduce x
  reduced_is h = sym (ap (λ b. cond (b && within_limits (pack_numbers m y)) (Some (pack_numbers m y)) None) h) ∙ same

-- reduction of numbers that can be acted on
module _ (x : Numbers) (w : Workable x) where
  abbrev shifted : Numbers
  shifted = shift_numbers (neg_ℤ x.lo) x

  -- shifted numbers within the limits can be acted on
  pub workable_shifted : within_limits shifted ≡ true → Workable shifted
  workable_shifted h =
      let p = within shifted h in
      record { packable = packable_shifted (neg_ℤ x.lo) x shifted w.packable refl p.intervals; steps = w.steps; drift = p.drift }

  -- they are, if reduction fits
  within_shifted : fits Reduce x ≡ true → within_limits shifted ≡ true
  within_shifted h =
      let p = and_parts (reduces Reduce x) (within_limits (act_numbers Reduce x)) h in
      let fit = (and_parts _ _ p.0).1 in
      within_limits_of shifted (record { states = w.packable.few; intervals = fit; block = w.packable.block; steps = w.steps; drift = (within (act_numbers Reduce x) p.1).drift })

  -- beyond the limits, reduction does not fit
  pub shifted_not : None ≡ limited shifted → None ≡ acted Reduce x
  shifted_not h = by (fits Reduce x) refl where
    by : (b : Bool) → fits Reduce x ≡ b → None ≡ cond b (Some (act_numbers Reduce x)) None
    by true e = absurd (true≢false (sym (within_shifted e) ∙ limited_not shifted h))
    by false e = refl
