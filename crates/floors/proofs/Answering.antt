-- Lemmas on what the top of a floor answers.
use Rattle.std.proofs.Common.{◌≡◌, ℕ, ◌+◌, ◌-◌, ◌*◌, ◌^◌, ◌≤◌, Bool, true, false, cond, ◌&&◌, ◌⊎◌, List, length, ℤ, neg_ℤ, ◌≤ℤ◌, Some, None, Ok, Err, Option, Result, sym, refl, ap, ◌∙◌, subst, ap₂, inl, inr, arith}
use Rattle.std.proofs.lemmas.Bool.{cond-true, cond-false}
use Rattle.std.proofs.lemmas.Int.{ints}
use Rattle.std.specs.Option.{option_map, ok_or}
use Rattle.rings.specs.declared.Direction.{Direction}
use Rattle.rings.specs.declared.Direction.TheVariants.{Forward, Backward}
use Rattle.rings.specs.Integers.{floor_mod}
use Rattle.rings.specs.Local.{Local, span, width}
use Rattle.rings.specs.Automaton.{Automaton, toward}
use Rattle.rings.specs.Transformations.{pack_value, iterate_local, shift_local, mirror_local, pack_local}
use Rattle.rings.proofs.Transformations.{width-shift, pack_covers}
use Rattle.rules.specs.declared.fault.RuleFault.{RuleFault}
use Rattle.rules.specs.declared.fault.RuleFault.TheVariants.{NoInverse}
use Rattle.rules.specs.Answers.{ends, answer, checked}
use Rattle.rules.specs.Steps.{value_of, Reads}
use Rattle.rules.specs.Windows.{readable}
use Rattle.rules.proofs.Maps.{Usable, answer-reads}
use Rattle.floors.specs.declared.action.Action.{Action}
use Rattle.floors.specs.declared.action.Action.TheVariants.{Unchanged, Pack, Iterate, Shift, Mirror, Reduce}
use Rattle.towers.specs.declared.numbers.Numbers.{Numbers}
use Rattle.towers.specs.Towers.{Tower}
use Rattle.towers.specs.Numbers.{numbers_of, Standing}
use Rattle.floors.specs.Actions.{act_on, shift_ends, act_numbers, reduced_block, in_range, fits, floor_or}
use Rattle.floors.specs.Acting.{acted}
use Rattle.floors.specs.Asking.{HasWidth, Packing, interval, packed_numbers, block_of}
use Rattle.floors.specs.ActingLemmas.{ends_mapped, acted_numbers, standing_acted}
use Rattle.floors.proofs.Asking.{reads, answer-refused, usable_top}
use Rattle.floors.proofs.Places.{outcome_is}

-- the local function that an action makes

-- By how much a rotation by s moves the interval of a direction: the inverse rotates back.
abbrev pub along : Direction → ℤ → ℤ
along Forward s = s
along Backward s = neg_ℤ s

abbrev pub acted_local : Action → Tower → Direction → Local → Local
acted_local Unchanged t d l = l
acted_local (Pack m) t d l = pack_local t.top.states m l
acted_local (Iterate u) t d l = iterate_local u l
acted_local (Shift s) t d l = shift_local (along d s) l
acted_local Mirror t d l = mirror_local l
acted_local Reduce t d l = pack_local t.top.states (reduced_block (numbers_of t)) (shift_local (along d (neg_ℤ t.top.forward.lo)) l)

mapped_same : (o : Option Local) → o ≡ option_map (λ l. l) o
mapped_same None = refl
mapped_same (Some l) = refl

pub mapped_twice : (f g : Local → Local) (o : Option Local) → option_map f (option_map g o) ≡ option_map (λ l. f (g l)) o
mapped_twice f g None = refl
mapped_twice f g (Some l) = refl

pub toward-acted : (act : Action) (t : Tower) (d : Direction) → toward d (act_on act t).top ≡ option_map (acted_local act t d) (toward d t.top)
toward-acted Unchanged t Forward = refl
toward-acted (Pack m) t Forward = refl
toward-acted (Iterate u) t Forward = refl
toward-acted (Shift s) t Forward = refl
toward-acted Mirror t Forward = refl
toward-acted Reduce t Forward = refl
toward-acted Unchanged t Backward = mapped_same t.top.inverse
toward-acted (Pack m) t Backward = refl
toward-acted (Iterate u) t Backward = refl
toward-acted (Shift s) t Backward = refl
toward-acted Mirror t Backward = refl
toward-acted Reduce t Backward = mapped_twice (pack_local t.top.states (reduced_block (numbers_of t))) (shift_local (neg_ℤ (neg_ℤ t.top.forward.lo))) t.top.inverse

-- the ends of the interval of a direction are those of its local function
pub interval_is : (d : Direction) (t : Tower) → interval d (numbers_of t) ≡ ends (toward d t.top)
interval_is Forward t = refl
interval_is Backward t = refl

-- the local function that an action packs, if it packs

abbrev packed_local : Action → Tower → Direction → Local → Local
packed_local Unchanged t d l = l
packed_local (Pack m) t d l = l
packed_local (Iterate u) t d l = l
packed_local (Shift s) t d l = l
packed_local Mirror t d l = l
packed_local Reduce t d l = shift_local (along d (neg_ℤ t.top.forward.lo)) l

packed_interval : (act : Action) (t : Tower) (d : Direction) → interval d (packed_numbers act (numbers_of t)) ≡ ends (option_map (packed_local act t d) (toward d t.top))
packed_interval Reduce t Forward = refl
packed_interval Reduce t Backward = sym (ends_mapped (shift_local (neg_ℤ (neg_ℤ t.top.forward.lo))) (shift_ends (neg_ℤ (neg_ℤ t.top.forward.lo))) (λ l. refl) t.top.inverse)
packed_interval Unchanged t d = interval_is d t ∙ ap ends (mapped_same (toward d t.top))
packed_interval (Pack m) t d = interval_is d t ∙ ap ends (mapped_same (toward d t.top))
packed_interval (Iterate u) t d = interval_is d t ∙ ap ends (mapped_same (toward d t.top))
packed_interval (Shift s) t d = interval_is d t ∙ ap ends (mapped_same (toward d t.top))
packed_interval Mirror t d = interval_is d t ∙ ap ends (mapped_same (toward d t.top))

-- it has the values, the width and the order of the one below

same_value : (act : Action) (t : Tower) (d : Direction) (l : Local) → (packed_local act t d l).value ≡ l.value
same_value Unchanged t d l = refl
same_value (Pack m) t d l = refl
same_value (Iterate u) t d l = refl
same_value (Shift s) t d l = refl
same_value Mirror t d l = refl
same_value Reduce t d l = refl

same_width : (act : Action) (t : Tower) (d : Direction) (l : Local) → width (packed_local act t d l) ≡ width l
same_width Unchanged t d l = refl
same_width (Pack m) t d l = refl
same_width (Iterate u) t d l = refl
same_width (Shift s) t d l = refl
same_width Mirror t d l = refl
same_width Reduce t d l = width-shift (along d (neg_ℤ t.top.forward.lo)) l

still_ordered : (act : Action) (t : Tower) (d : Direction) (l : Local) → l.lo ≤ℤ l.hi → (packed_local act t d l).lo ≤ℤ (packed_local act t d l).hi
still_ordered Unchanged t d l h = h
still_ordered (Pack m) t d l h = h
still_ordered (Iterate u) t d l h = h
still_ordered (Shift s) t d l h = h
still_ordered Mirror t d l h = h
still_ordered Reduce t d l h = omega (arith, ints, h)

-- ends

abbrev pub ends_or : ℤ × ℤ → Option (ℤ × ℤ) → ℤ × ℤ
ends_or e None = e
ends_or e (Some f) = f

ends_are : (l : Local) (e : ℤ × ℤ) → Some e ≡ ends (Some l) → (l.lo, l.hi) ≡ e
ends_are l e h = sym (ap (ends_or e) h)

pub width_of : (o : Option Local) (e : ℤ × ℤ) → Some e ≡ ends o → HasWidth o (span e.0 e.1)
width_of None e h = let z : ◌≡◌ {A = ℕ} 0 1 = cc in absurd (omega arith)
width_of (Some l) e h = ap (λ f. span f.0 f.1) (ap (ends_or e) h)

width_below : (act : Action) (t : Tower) (d : Direction) (o : Option Local) (e : ℤ × ℤ) → Some e ≡ ends (option_map (packed_local act t d) o) → HasWidth o (span e.0 e.1)
width_below act t d None e h = let z : ◌≡◌ {A = ℕ} 0 1 = cc in absurd (omega arith)
width_below act t d (Some l) e h = width_of (Some (packed_local act t d l)) e h ∙ same_width act t d l

-- windows

-- those of an interval with the ends e
reads_window : (q : ℕ) (o : Option Local) (e : ℤ × ℤ) (ws : List ℕ) → Some e ≡ ends o → Ok tt ≡ checked {X = Unit {0}} q (span e.0 e.1) ws tt → Reads q o ws
reads_window q o e ws h c = reads q o (span e.0 e.1) ws (width_of o e h) (readable q (span e.0 e.1) ws c)

refused_window : (q : ℕ) (o : Option Local) (e : ℤ × ℤ) (ws : List ℕ) (f : RuleFault) → Some e ≡ ends o → Err f ≡ checked {X = Unit {0}} q (span e.0 e.1) ws tt → Err f ≡ answer q o ws
refused_window q o e ws f h = answer-refused q o (span e.0 e.1) ws f (width_of o e h)

short_window : (q : ℕ) (o : Option Local) (ws : List ℕ) → Usable q o → Reads q o ws → length ws ≤ 64
short_window q None ws u r = absurd r
short_window q (Some l) ws u r = omega (arith, r.0, u.1.narrow)

no_answer : (q : ℕ) (o : Option Local) (f h : Local → Local) (ws : List ℕ) → None ≡ ends (option_map f o) → Err NoInverse ≡ answer q (option_map h o) ws
no_answer q None f h ws e = refl
no_answer q (Some l) f h ws e = let z : ◌≡◌ {A = ℕ} 0 1 = cc in absurd (omega arith)

-- blocks of m cells of the local function h l that is packed

packs : (p q m : ℕ) (o : Option Local) (h : Local → Local) (e : ℤ × ℤ) (ws : List ℕ) → 1 ≤ m → ((l : Local) → l.lo ≤ℤ l.hi → (h l).lo ≤ℤ (h l).hi) → Usable q o → Some e ≡ ends (option_map h o)
    → Reads p (option_map (pack_local q m) (option_map h o)) ws → q ^ m ≤ 16777216 → length ws ≤ 64 → Packing q m e.0 (span e.0 e.1) (length ws)
packs p q m None h e ws some ordered u k r few short = absurd r
packs p q m (Some l) h e ws some ordered u k r few short = record {
  inside = subst (λ f. m - 1 + floor_mod f.0 m + span f.0 f.1 ≤ length ws * m) (ends_are (h l) e k) (omega (arith, pack_covers q m (h l) some (ordered l u.0.ordered), ap (λ n. n * m) r.0));
  few = few;
  fits = short;
}

value_packed : (q m : ℕ) (o : Option Local) (h : Local → Local) (e : ℤ × ℤ) (ws : List ℕ) → ((l : Local) → (h l).value ≡ l.value) → Some e ≡ ends (option_map h o)
    → pack_value q m (value_of o) (floor_mod e.0 m) (span e.0 e.1) ws ≡ value_of (option_map (pack_local q m) (option_map h o)) ws
value_packed q m None h e ws same k = let z : ◌≡◌ {A = ℕ} 0 1 = cc in absurd (omega arith)
value_packed q m (Some l) h e ws same k =
    ap (λ v. pack_value q m v (floor_mod e.0 m) (span e.0 e.1) ws) (sym (same l)) ∙ ap (λ f. pack_value q m (h l).value (floor_mod f.0 m) (span f.0 f.1) ws) (sym (ends_are (h l) e k))

-- an interval, or none, as `ok_or` told it

pub told_some : {X E : Type 0} (o : Option X) (x : X) (e : E) → Ok x ≡ ok_or o e → Some x ≡ o
told_some None x e h = let z : ◌≡◌ {A = ℕ} 0 1 = cc in absurd (omega arith)
told_some (Some y) x e h = cc

-- what the top of a tower answers
abbrev pub top-answer : Direction → List ℕ → Tower → Result ℕ RuleFault
top-answer d ws t = answer t.top.states (toward d t.top) ws

-- a floor that answers as the tower below

-- its action does not act
rests : (act : Action) (x : Numbers) → None ≡ acted act x → (in_range act && fits act x) ≡ false
rests act x = by (in_range act && fits act x) where
  by : (b : Bool) → None ≡ cond b (Some (act_numbers act x)) None → b ≡ false
  by true h = let z : ◌≡◌ {A = ℕ} 0 1 = cc in absurd (omega arith)
  by false h = refl

pub rests_below : (act : Action) (t : Tower) (d : Direction) (ws : List ℕ) (x : Numbers) → x ≡ numbers_of t → None ≡ acted act x → top-answer d ws t ≡ top-answer d ws (floor_or act t)
rests_below act t d ws x n h = ap (top-answer d ws) (sym (cond-false _ _ _ (rests act (numbers_of t) (h ∙ ap (acted act) n))))

-- shifted, a local function answers the same
answer_shifted : (q : ℕ) (o : Option Local) (s : ℤ) (ws : List ℕ) → answer q o ws ≡ answer q (option_map (shift_local s) o) ws
answer_shifted q None s ws = refl
answer_shifted q (Some l) s ws = ap (λ n. checked q n ws (l.value ws)) (sym (width-shift s l))

-- its action does nothing, or shifts, and acts or not
pub keeps : (act : Action) (t : Tower) (d : Direction) (ws : List ℕ) → (act ≡ Unchanged) ⊎ ((s : ℤ) × (act ≡ Shift s)) → top-answer d ws t ≡ top-answer d ws (floor_or act t)
keeps act t d ws is = by (in_range act && fits act (numbers_of t)) where
  acting : (act ≡ Unchanged) ⊎ ((s : ℤ) × (act ≡ Shift s)) → top-answer d ws t ≡ top-answer d ws (act_on act t)
  acting (inl e) = ap (λ b. top-answer d ws (act_on b t)) (sym e)
  acting (inr (s, e)) =
      answer_shifted t.top.states (toward d t.top) (along d s) ws ∙ ap (λ o. answer t.top.states o ws) (sym (toward-acted (Shift s) t d)) ∙ ap (λ b. top-answer d ws (act_on b t)) (sym e)

  by : (b : Bool) → top-answer d ws t ≡ top-answer d ws (cond b (act_on act t) t)
  by true = acting is
  by false = refl

-- a floor whose action acts

-- the action makes the numbers y of the numbers x of the tower below, whose top is what it means as a rule
pub record Acts (a : Automaton) (t : Tower) (act : Action) (x y : Numbers) : Type 0 where
  pub top : a ≡ t.top
  pub standing : Standing t
  pub same : x ≡ numbers_of t
  pub acts : Some y ≡ acted act x

-- the local function of its top
abbrev top_of : Direction → Action → Tower → Option Local
top_of d act t = toward d (act_on act t).top

module _ {a : Automaton} {t : Tower} {act : Action} {x y : Numbers} (floor : Acts a t act x y) (d : Direction) where
  fit : (in_range act && fits act (numbers_of t)) ≡ true
  fit = ap (λ z. in_range act && fits act z) (sym floor.same) ∙ (outcome_is act x y floor.acts).0

  standing : Standing (act_on act t)
  standing = standing_acted act t floor.standing fit

  usable_below : Usable x.states (toward d a)
  usable_below = subst (λ q. Usable q (toward d a)) (sym (ap (λ z. z.states) floor.same)) (subst (λ b. Usable t.top.states (toward d b)) (sym floor.top) (usable_top t d floor.standing))

  numbers_above : y ≡ numbers_of (act_on act t)
  numbers_above = (outcome_is act x y floor.acts).1 ∙ ap (act_numbers act) floor.same ∙ sym (acted_numbers act t)

  interval_above : interval d y ≡ ends (top_of d act t)
  interval_above = ap (interval d) numbers_above ∙ interval_is d (act_on act t)

  interval_below : interval d (packed_numbers act x) ≡ ends (option_map (packed_local act t d) (toward d a))
  interval_below = ap (λ z. interval d (packed_numbers act z)) floor.same ∙ packed_interval act t d ∙ ap (λ b. ends (option_map (packed_local act t d) (toward d b))) (sym floor.top)

  above_is : top_of d act t ≡ option_map (acted_local act t d) (toward d a)
  above_is = toward-acted act t d ∙ ap (λ b. option_map (acted_local act t d) (toward d b)) (sym floor.top)

  told : (ws : List ℕ) → answer (act_on act t).top.states (top_of d act t) ws ≡ top-answer d ws (floor_or act t)
  told ws = ap (top-answer d ws) (sym (cond-true _ _ _ fit))

  -- the facts of the rule below, in the direction d
  pub states_below : x.states ≡ a.states
  states_below = ap (λ z. z.states) floor.same ∙ ap (λ b. b.states) (sym floor.top)

  pub wide_below : (e : ℤ × ℤ) → Some e ≡ interval d (packed_numbers act x) → HasWidth (toward d a) (span e.0 e.1)
  wide_below e h = width_below act t d (toward d a) e (h ∙ interval_below)

  -- refusals
  pub refuses_below : (ws : List ℕ) → None ≡ interval d (packed_numbers act x) → Err NoInverse ≡ top-answer d ws (floor_or act t)
  refuses_below ws h =
      no_answer (act_on act t).top.states (toward d a) (packed_local act t d) (acted_local act t d) ws (h ∙ interval_below) ∙ ap (λ o. answer (act_on act t).top.states o ws) (sym above_is) ∙ told ws

  pub refuses_window : (e : ℤ × ℤ) (ws : List ℕ) (f : RuleFault) → Some e ≡ interval d y → Err f ≡ checked {X = Unit {0}} y.states (span e.0 e.1) ws tt → Err f ≡ top-answer d ws (floor_or act t)
  refuses_window e ws f h c =
      refused_window (act_on act t).top.states (top_of d act t) e ws f (h ∙ interval_above) (c ∙ ap (λ z. checked z.states (span e.0 e.1) ws tt) numbers_above) ∙ told ws

-- a window of the top, whose interval has the ends e
pub record Window (a : Automaton) (t : Tower) (act : Action) (x y : Numbers) (d : Direction) (ws : List ℕ) (e : ℤ × ℤ) : Type 0 where
  pub floor : Acts a t act x y
  pub found : Some e ≡ interval d y
  pub passed : Ok tt ≡ checked {X = Unit {0}} y.states (span e.0 e.1) ws tt

module _ {a : Automaton} {t : Tower} {act : Action} {x y : Numbers} {d : Direction} {ws : List ℕ} {e : ℤ × ℤ} (w : Window a t act x y d ws e) where
  reads_above : Reads (act_on act t).top.states (top_of d act t) ws
  reads_above = reads_window (act_on act t).top.states (top_of d act t) e ws (w.found ∙ interval_above w.floor d) (w.passed ∙ ap (λ z. checked z.states (span e.0 e.1) ws tt) (numbers_above w.floor d))

  pub short_above : length ws ≤ 64
  short_above = short_window (act_on act t).top.states (top_of d act t) ws (usable_top (act_on act t) d (standing w.floor d)) reads_above

  answers : (v : ℕ) → v ≡ value_of (top_of d act t) ws → Ok v ≡ top-answer d ws (floor_or act t)
  answers v is = ap Ok is ∙ sym (answer-reads (act_on act t).top.states (top_of d act t) ws reads_above) ∙ told w.floor d ws

  -- with another name for the action
  module _ (other : Action) (is : act ≡ other) where
    above_as : top_of d act t ≡ option_map (acted_local other t d) (toward d a)
    above_as = above_is w.floor d ∙ ap (λ b. option_map (acted_local b t d) (toward d a)) is

    reads_as : Reads (act_on other t).top.states (option_map (acted_local other t d) (toward d a)) ws
    reads_as = subst (λ b. Reads (act_on b t).top.states (option_map (acted_local other t d) (toward d a)) ws) is (subst (λ o. Reads (act_on act t).top.states o ws) above_as reads_above)

    pub answers_as : (v : ℕ) → v ≡ value_of (option_map (acted_local other t d) (toward d a)) ws → Ok v ≡ top-answer d ws (floor_or act t)
    answers_as v e = answers v (e ∙ ap (λ o. value_of o ws) (sym above_as))

    -- where the states stay
    reads_same : (act_on other t).top.states ≡ t.top.states → Reads x.states (option_map (acted_local other t d) (toward d a)) ws
    reads_same e = subst (λ q. Reads q (option_map (acted_local other t d) (toward d a)) ws) (e ∙ sym (ap (λ z. z.states) w.floor.same)) reads_as

  -- many steps, and a mirror
  pub reads_iterated : (u : ℕ) → act ≡ Iterate u → Reads x.states (option_map (iterate_local u) (toward d a)) ws
  reads_iterated u is = reads_same (Iterate u) is refl

  pub reads_mirrored : act ≡ Mirror → Reads x.states (option_map mirror_local (toward d a)) ws
  reads_mirrored is = reads_same Mirror is refl

  -- blocks of m cells, over an interval with the ends f
  module _ (f : ℤ × ℤ) (k : Some f ≡ interval d (packed_numbers act x)) (m : ℕ) where
    abbrev packed : Option Local
    packed = option_map (pack_local x.states m) (option_map (packed_local act t d) (toward d a))

    module _ (some : 1 ≤ m) (is : top_of d act t ≡ packed) (states : (act_on act t).top.states ≡ x.states ^ m) where
      asks : Packing x.states m f.0 (span f.0 f.1) (length ws)
      asks = packs (act_on act t).top.states x.states m (toward d a) (packed_local act t d) f ws some (still_ordered act t d) (usable_below w.floor d) (k ∙ interval_below w.floor d)
          (subst (λ o. Reads (act_on act t).top.states o ws) is reads_above) (omega (arith, states, (standing w.floor d).top.few)) short_above

      answers_packed : (v : ℕ) → v ≡ pack_value x.states m (value_of (toward d a)) (floor_mod f.0 m) (span f.0 f.1) ws → Ok v ≡ top-answer d ws (floor_or act t)
      answers_packed v e = answers v (e ∙ value_packed x.states m (toward d a) (packed_local act t d) f ws (same_value act t d) (k ∙ interval_below w.floor d) ∙ ap (λ o. value_of o ws) (sym is))

    -- packing
    module _ (is : act ≡ Pack m) where
      pack_above : top_of d act t ≡ packed
      pack_above =
          above_as (Pack m) is ∙ ap (λ z. option_map (pack_local z.states m) (toward d a)) (sym w.floor.same) ∙
          ap (option_map (pack_local x.states m)) (mapped_same (toward d a) ∙ ap (λ b. option_map (packed_local b t d) (toward d a)) (sym is))

      pack_states : (act_on act t).top.states ≡ x.states ^ m
      pack_states = ap (λ b. (act_on b t).top.states) is ∙ ap (λ z. z.states ^ m) (sym w.floor.same)

    -- reduction
    module _ (is : act ≡ Reduce) (block : m ≡ reduced_block x) where
      count : m ≡ reduced_block (numbers_of t)
      count = block ∙ ap reduced_block w.floor.same

      reduce_above : top_of d act t ≡ packed
      reduce_above =
          above_as Reduce is ∙ sym (mapped_twice (pack_local t.top.states (reduced_block (numbers_of t))) (packed_local Reduce t d) (toward d a)) ∙
          ap₂ (λ (q n : ℕ). option_map (pack_local q n) (option_map (packed_local Reduce t d) (toward d a))) (ap (λ z. z.states) (sym w.floor.same)) (sym count) ∙
          ap (λ b. option_map (pack_local x.states m) (option_map (packed_local b t d) (toward d a))) (sym is)

      reduce_states : (act_on act t).top.states ≡ x.states ^ m
      reduce_states = ap (λ b. (act_on b t).top.states) is ∙ ap₂ (λ (q n : ℕ). q ^ n) (ap (λ z. z.states) (sym w.floor.same)) (sym count)

    -- either, with the block of the action
    module _ (some : 1 ≤ m) (block : m ≡ block_of act x) where
      as_pack : (n : ℕ) → act ≡ Pack n → act ≡ Pack m
      as_pack n is = is ∙ ap Pack (sym (block ∙ ap (λ b. block_of b x) is))

      as_reduce : act ≡ Reduce → m ≡ reduced_block x
      as_reduce is = block ∙ ap (λ b. block_of b x) is

      pub block_asks : ((n : ℕ) × (act ≡ Pack n)) ⊎ (act ≡ Reduce) → Packing x.states m f.0 (span f.0 f.1) (length ws)
      block_asks (inl (n, is)) = asks some (pack_above (as_pack n is)) (pack_states (as_pack n is))
      block_asks (inr is) = asks some (reduce_above is (as_reduce is)) (reduce_states is (as_reduce is))

      pub answers_block : ((n : ℕ) × (act ≡ Pack n)) ⊎ (act ≡ Reduce) → (v : ℕ) → v ≡ pack_value x.states m (value_of (toward d a)) (floor_mod f.0 m) (span f.0 f.1) ws
          → Ok v ≡ top-answer d ws (floor_or act t)
      answers_block (inl (n, is)) = answers_packed some (pack_above (as_pack n is)) (pack_states (as_pack n is))
      answers_block (inr is) = answers_packed some (reduce_above is (as_reduce is)) (reduce_states is (as_reduce is))
