-- Lemmas on what a floor whose action acts answers at any window, a refused one too.
use Rattle.std.proofs.Common.{◌≡◌, ℕ, ◌+◌, ◌-◌, ◌*◌, ◌^◌, ◌≤◌, true, ◌&&◌, List, ℤ, pos, ◌-ℤ◌, neg_ℤ, nat_abs, IfSome, Some, None, Option, Result, sym, refl, ap, ◌∙◌, subst, ap₂, arith, w32, to_z, of_z}
use Rattle.std.proofs.lemmas.Int.{ints}
use Rattle.std.proofs.lemmas.Bool.{leb-true, and_parts, cond-true}
use Rattle.std.specs.Option.{option_map}
use Rattle.rings.specs.declared.Direction.{Direction}
use Rattle.rings.specs.declared.Direction.TheVariants.{Forward, Backward}
use Rattle.rings.specs.Integers.{floor_mod}
use Rattle.rings.specs.Local.{Local, span}
use Rattle.rings.specs.Automaton.{Automaton, toward}
use Rattle.rings.specs.Transformations.{pack_value, iterate_local, shift_local, mirror_local, pack_local}
use Rattle.rings.proofs.Transformations.{width-shift, pack_covers}
use Rattle.rules.specs.declared.fault.RuleFault.{RuleFault}
use Rattle.rules.specs.Answers.{ends, answer, checked}
use Rattle.rules.specs.Steps.{value_of}
use Rattle.rules.proofs.Maps.{Usable}
use Rattle.floors.specs.declared.action.Action.{Action}
use Rattle.floors.specs.declared.action.Action.TheVariants.{Pack, Iterate, Mirror, Reduce}
use Rattle.towers.specs.declared.numbers.Numbers.{Numbers}
use Rattle.towers.specs.Towers.{Tower}
use Rattle.towers.specs.Numbers.{numbers_of, Standing}
use Rattle.floors.specs.Actions.{act_on, shift_ends, pack_ends, shift_numbers, act_numbers, reduced_block, in_range, intervals_fit, within_limits, reduces, fits, floor_or}
use Rattle.floors.specs.Acting.{LawfulEnds, Packable}
use Rattle.floors.specs.Asking.{HasWidth, Packing, interval}
use Rattle.floors.specs.ActingLemmas.{ends_mapped, standing_acted, workable, packable_shifted}
use Rattle.floors.proofs.Arithmetic.{negation_is}
use Rattle.floors.proofs.Asking.{usable_top, width_iterated}
use Rattle.floors.proofs.Places.{outcome_is}
use Rattle.floors.proofs.Answering.{along, acted_local, mapped_twice, toward-acted, interval_is, ends_or, width_of, top-answer, Acts}

-- without a local function, none is made, and every answer is the same
refusal : (p q : ℕ) (o : Option Local) (f : Local → Local) (ws : List ℕ) → None ≡ ends o → answer p o ws ≡ answer q (option_map f o) ws
refusal p q None f ws h = refl
refusal p q (Some l) f ws h = let z : ◌≡◌ {A = ℕ} 0 1 = cc in absurd (omega arith)

-- shifted, a local function has the same values and the same width
value_shifted : (o : Option Local) (s : ℤ) → value_of o ≡ value_of (option_map (shift_local s) o)
value_shifted None s = refl
value_shifted (Some l) s = refl

width_shifted : (o : Option Local) (s : ℤ) (w : ℕ) → HasWidth (option_map (shift_local s) o) w → HasWidth o w
width_shifted None s w h = absurd h
width_shifted (Some l) s w h = h ∙ width-shift s l

-- ends

width_narrow : (q : ℕ) (o : Option Local) (w : ℕ) → Usable q o → HasWidth o w → w ≤ 64
width_narrow q None w u h = absurd h
width_narrow q (Some l) w u h = omega (arith, h, u.1.narrow)

lawful_interval : (d : Direction) (x : Numbers) (e : ℤ × ℤ) → Packable x → Some e ≡ interval d x → LawfulEnds e.0 e.1
lawful_interval Forward x e p h = subst (λ f. LawfulEnds f.0 f.1) (sym (ap (ends_or e) h)) p.ends
lawful_interval Backward x e p h = by x.inverse p.inverse h where
  by : (o : Option (ℤ × ℤ)) → IfSome o (λ f. LawfulEnds f.0 f.1) → Some e ≡ o → LawfulEnds e.0 e.1
  by None l k = let z : ◌≡◌ {A = ℕ} 0 1 = cc in absurd (omega arith)
  by (Some f) l k = subst (λ f. LawfulEnds f.0 f.1) (sym (ap (ends_or e) k)) l

interval_shifted : (d : Direction) (s : ℤ) (x : Numbers) → option_map (shift_ends (along d s)) (interval d x) ≡ interval d (shift_numbers s x)
interval_shifted Forward s x = refl
interval_shifted Backward s x = refl

-- blocks

-- What a local function answers on blocks of m cells of q states, over an interval with the ends e: the window is checked for `total`
-- codes of a block, and then unpacked.
abbrev pub blocks_answer : Option Local → ℕ → ℕ → ℕ → ℤ × ℤ → List ℕ → Result ℕ RuleFault
blocks_answer o q m total e ws = checked total (span (pack_ends m e).0 (pack_ends m e).1) ws (pack_value q m (value_of o) (floor_mod e.0 m) (span e.0 e.1) ws)

-- What is asked where a local function is applied so.
pub record Blocks (o : Option Local) (q m total : ℕ) (e : ℤ × ℤ) : Type 0 where
  pub width : HasWidth o (span e.0 e.1)
  pub power : total ≡ q ^ m
  pub some : 1 ≤ m
  pub short : m ≤ 16
  pub packing : Packing q m e.0 (span e.0 e.1) (span (pack_ends m e).0 (pack_ends m e).1)

packs_narrow : (p q m : ℕ) (o : Option Local) (e : ℤ × ℤ) → Some e ≡ ends o → Usable p (option_map (pack_local q m) o) → span (pack_ends m e).0 (pack_ends m e).1 ≤ 64
packs_narrow p q m None e h u = let z : ◌≡◌ {A = ℕ} 0 1 = cc in absurd (omega arith)
packs_narrow p q m (Some l) e h u = subst (λ f. span (pack_ends m f).0 (pack_ends m f).1 ≤ 64) (sym (ap (ends_or e) h)) u.1.narrow

-- o' is the local function that is packed: o, or o shifted
blocks_of : (o o' : Option Local) (p q m : ℕ) (e : ℤ × ℤ) → Some e ≡ ends o' → LawfulEnds e.0 e.1 → 1 ≤ m → m ≤ 16 → HasWidth o (span e.0 e.1) → q ^ m ≤ 16777216 → Usable p (option_map (pack_local q m) o')
    → Blocks o q m (q ^ m) e
blocks_of o o' p q m e h lawful some short wide few u = record {
  width = wide;
  power = refl;
  some = some;
  short = short;
  packing = record { inside = pack_covers 1 m (record { lo = e.0; hi = e.1; value = λ ws. 0 }) some lawful.ordered; few = few; fits = packs_narrow p q m o' e h u };
}

blocks_answered : (o o' : Option Local) (q m total : ℕ) (e : ℤ × ℤ) (ws : List ℕ) → value_of o ≡ value_of o' → Some e ≡ ends o' → blocks_answer o q m total e ws ≡ answer total (option_map (pack_local q m) o') ws
blocks_answered o None q m total e ws s h = let z : ◌≡◌ {A = ℕ} 0 1 = cc in absurd (omega arith)
blocks_answered o (Some l) q m total e ws s h =
    ap (λ f. checked total (span (pack_ends m e).0 (pack_ends m e).1) ws (pack_value q m f (floor_mod e.0 m) (span e.0 e.1) ws)) s ∙
    ap (λ f. blocks_answer (Some l) q m total f ws) (ap (ends_or e) h)

-- small numbers, as the code has them

unwrapped : (z : ℤ) → nat_abs z ≤ 128 → to_z w32 (of_z w32 z) ≡ z
unwrapped z h = omega (arith, ints)

small_ends : (lo hi : ℤ) → LawfulEnds lo hi → (nat_abs lo ≤ 128) × (nat_abs hi ≤ 128)
small_ends lo hi l = (omega (arith, ints, l.low, l.ordered, l.high), omega (arith, ints, l.low, l.ordered, l.high))

-- what the action makes

module _ {a : Automaton} {t : Tower} {act : Action} {x y : Numbers} (floor : Acts a t act x y) (d : Direction) where
  told : ((in_range act && fits act (numbers_of t)) ≡ true) × (y ≡ act_numbers act (numbers_of t))
  told = let p = outcome_is act x y floor.acts in (ap (λ z. in_range act && fits act z) (sym floor.same) ∙ p.0, p.1 ∙ ap (act_numbers act) floor.same)

  acted-answer : (ws : List ℕ) → answer (act_on act t).top.states (option_map (acted_local act t d) (toward d t.top)) ws ≡ top-answer d ws (floor_or act t)
  acted-answer ws = ap (λ o. answer (act_on act t).top.states o ws) (sym (toward-acted act t d)) ∙ ap (top-answer d ws) (sym (cond-true _ _ _ told.0))

  acted_standing : Standing (act_on act t)
  acted_standing = standing_acted act t floor.standing told.0

  acted_usable : Usable (act_on act t).top.states (option_map (acted_local act t d) (toward d t.top))
  acted_usable = subst (Usable (act_on act t).top.states) (toward-acted act t d) (usable_top (act_on act t) d acted_standing)

  -- without an inverse below, the floor has none
  pub refuses : (ws : List ℕ) → None ≡ interval d x → top-answer d ws t ≡ top-answer d ws (floor_or act t)
  refuses ws h = refusal t.top.states (act_on act t).top.states (toward d t.top) (acted_local act t d) ws (h ∙ ap (interval d) floor.same ∙ interval_is d t) ∙ acted-answer ws

-- the same, with another name for the action
named : {a : Automaton} {t : Tower} {act other : Action} {x y : Numbers} → Acts a t act x y → act ≡ other → Acts a t other x y
named {a = a} {t = t} {x = x} {y = y} floor is = subst (λ b. Acts a t b x y) is floor

named_answer : {a : Automaton} {t : Tower} {act other : Action} {x y : Numbers} → Acts a t act x y → act ≡ other → (d : Direction) (ws : List ℕ)
    → answer (act_on other t).top.states (option_map (acted_local other t d) (toward d t.top)) ws ≡ top-answer d ws (floor_or act t)
named_answer {t = t} floor is d ws = acted-answer (named floor is) d ws ∙ ap (λ b. top-answer d ws (floor_or b t)) (sym is)

-- the actions, one after the other

module _ {a : Automaton} {t : Tower} {act : Action} {x y : Numbers} (floor : Acts a t act x y) (d : Direction) where
  abbrev below : Option Local
  below = toward d t.top

  pub iterates : (u : ℕ) → act ≡ Iterate u → (ws : List ℕ) → answer x.states (option_map (iterate_local u) below) ws ≡ top-answer d ws (floor_or act t)
  iterates u is ws = ap (λ z. answer z.states (option_map (iterate_local u) below) ws) floor.same ∙ named_answer floor is d ws

  pub mirrors : act ≡ Mirror → (ws : List ℕ) → answer x.states (option_map mirror_local below) ws ≡ top-answer d ws (floor_or act t)
  mirrors is ws = ap (λ z. answer z.states (option_map mirror_local below) ws) floor.same ∙ named_answer floor is d ws

  -- the start of the interval is small
  pub small_start : nat_abs x.lo ≤ 128
  small_start = subst (λ z. nat_abs z.lo ≤ 128) (sym floor.same) (small_ends t.top.forward.lo t.top.forward.hi (workable t floor.standing).packable.ends).0

  -- the interval below has the ends e
  module _ {e : ℤ × ℤ} (h : Some e ≡ interval d x) where
    found : Some e ≡ interval d (numbers_of t)
    found = h ∙ ap (interval d) floor.same

    found-ends : Some e ≡ ends below
    found-ends = found ∙ interval_is d t

    pub lawful_found : LawfulEnds e.0 e.1
    lawful_found = lawful_interval d (numbers_of t) e (workable t floor.standing).packable found

    -- its windows
    pub width-found : (w : ℕ) → w ≡ span (to_z w32 (of_z w32 e.0)) (to_z w32 (of_z w32 e.1)) → HasWidth below w × (w ≤ 64)
    width-found w v =
        let small = small_ends e.0 e.1 lawful_found in
        let is : w ≡ span e.0 e.1 = v ∙ ap₂ span (unwrapped e.0 small.0) (unwrapped e.1 small.1) in
        let wide : HasWidth below w = subst (HasWidth below) (sym is) (width_of below e found-ends) in
        (wide, width_narrow t.top.states below w (usable_top t d floor.standing) wide)

    -- the windows of u steps
    pub iterate-narrow : (u w : ℕ) → act ≡ Iterate u → HasWidth below w → u * (w - 1) + 1 ≤ 64
    iterate-narrow u w is wide =
        width_narrow t.top.states (option_map (iterate_local u) below) (u * (w - 1) + 1) (acted_usable (named floor is) d) (width_iterated t.top.states below w u (usable_top t d floor.standing) wide)

    -- packing m cells
    module _ {m : ℕ} (is : act ≡ Pack m) where
      pub pack_range : (1 ≤ m) × (m ≤ 16)
      pack_range = let p = and_parts _ _ (and_parts _ _ (told (named floor is) d).0).0 in (leb-true _ _ p.0, leb-true _ _ p.1)

      states : y.states ≡ t.top.states ^ m
      states = ap (λ z. z.states) (told (named floor is) d).1

      pub pack_asks : Blocks below x.states m y.states e
      pack_asks =
          rw (ap (λ z. z.states) floor.same, states)
          (blocks_of below below (t.top.states ^ m) t.top.states m e found-ends lawful_found pack_range.0 pack_range.1 (width_of below e found-ends) (acted_standing (named floor is) d).top.few (acted_usable (named floor is) d))

      pub packs : (ws : List ℕ) → blocks_answer below x.states m y.states e ws ≡ top-answer d ws (floor_or act t)
      packs ws =
          ap₂ (λ (q r : ℕ). blocks_answer below q m r e ws) (ap (λ z. z.states) floor.same) states ∙ blocks_answered below below t.top.states m (t.top.states ^ m) e ws refl found-ends ∙
          named_answer floor is d ws

    -- reduction: the interval is shifted by s and then has the ends f
    module _ (is : act ≡ Reduce) {s : ℤ} {f : ℤ × ℤ} (shift : s ≡ along d (to_z w32 (of_z w32 (pos 0 -ℤ to_z w32 (of_z w32 x.lo))))) (small : nat_abs s ≤ 128) (moved : f ≡ shift_ends (to_z w32 (of_z w32 s)) e) where
      abbrev start : ℤ
      start = neg_ℤ t.top.forward.lo

      abbrev count : ℕ
      count = reduced_block (numbers_of t)

      abbrev shifted : Option Local
      shifted = option_map (shift_local (along d start)) below

      moved_is : f ≡ shift_ends (along d start) e
      moved_is = moved ∙ ap (λ z. shift_ends z e) (unwrapped s small ∙ shift ∙ ap (along d) (negation_is x.lo small_start) ∙ ap (λ z. along d (neg_ℤ z.lo)) floor.same)

      moved_ends : Some f ≡ ends shifted
      moved_ends = ap Some moved_is ∙ ap (option_map (shift_ends (along d start))) found-ends ∙ sym (ends_mapped (shift_local (along d start)) (shift_ends (along d start)) (λ l. refl) below)

      fit : (count ≤ 16) × (intervals_fit (shift_numbers start (numbers_of t)) ≡ true)
      fit =
          let within = within_limits (act_numbers Reduce (numbers_of t)) in
          let p = and_parts _ _ (and_parts (reduces Reduce (numbers_of t)) within (and_parts (in_range Reduce) (fits Reduce (numbers_of t)) (told (named floor is) d).0).1).0 in
          (leb-true _ _ p.0, p.1)

      pub lawful_moved : LawfulEnds f.0 f.1
      lawful_moved =
          let p = packable_shifted start (numbers_of t) (shift_numbers start (numbers_of t)) (workable t floor.standing).packable refl fit.1 in
          lawful_interval d (shift_numbers start (numbers_of t)) f p (ap Some moved_is ∙ ap (option_map (shift_ends (along d start))) found ∙ interval_shifted d start (numbers_of t))

      -- blocks of m cells
      module _ {m : ℕ} (block : m ≡ reduced_block x) where
        count_is : m ≡ count
        count_is = block ∙ ap reduced_block floor.same

        pub reduce_range : (1 ≤ m) × (m ≤ 16)
        reduce_range = (omega (arith, count_is), omega (arith, count_is, fit.0))

        twice : option_map (pack_local t.top.states count) shifted ≡ option_map (acted_local Reduce t d) below
        twice = mapped_twice (pack_local t.top.states count) (shift_local (along d start)) below

        reduced_states : y.states ≡ t.top.states ^ count
        reduced_states = ap (λ z. z.states) (told (named floor is) d).1

        pub reduce_asks : Blocks below x.states m y.states f
        reduce_asks =
            rw (ap (λ z. z.states) floor.same, reduced_states, count_is)
            (blocks_of below shifted (t.top.states ^ count) t.top.states count f moved_ends lawful_moved (omega arith) fit.0 (width_shifted below (along d start) (span f.0 f.1) (width_of shifted f moved_ends))
            (acted_standing (named floor is) d).top.few (subst (Usable (t.top.states ^ count)) (sym twice) (acted_usable (named floor is) d)))

        pub reduces_to : (ws : List ℕ) → blocks_answer below x.states m y.states f ws ≡ top-answer d ws (floor_or act t)
        reduces_to ws =
            ap (λ k. blocks_answer below x.states k y.states f ws) count_is ∙ ap₂ (λ (q r : ℕ). blocks_answer below q count r f ws) (ap (λ z. z.states) floor.same) reduced_states ∙
            blocks_answered below shifted t.top.states count (t.top.states ^ count) f ws (value_shifted below (along d start)) moved_ends ∙ ap (λ o. answer (t.top.states ^ count) o ws) twice ∙
            named_answer floor is d ws
