-- Lemmas on the map of a whole ring.
use Rattle.std.proofs.Common.{◌≡◌, ℕ, ◌+◌, ◌-◌, ◌<◌, ◌≤◌, Bool, true, false, cond, eqb, ltb, ◌≢◌, List, ◌++◌, length, get_or, take, drop, set, ℤ, pos, ◌+ℤ◌, ◌*ℤ◌, IfSome, Some, None, Ok, Option, Result, sym, refl, ap, ◌∙◌, subst, ap₂, zero-add, arith, below_more}
use Rattle.std.specs.Option.{option_map}
use Rattle.std.proofs.lemmas.List.{append-nil, drop_all, get_or-set_same, get_or-set_other, drop-take, take-take}
use Rattle.std.proofs.lemmas.Int.{ints}
use Rattle.std.proofs.lemmas.Bool.{eqb-false, ltb-false}
use Rattle.rings.specs.declared.Direction.{Direction}
use Rattle.rings.specs.declared.Direction.TheVariants.{Forward, Backward}
use Rattle.rings.specs.Integers.{floor_div, floor_mod}
use Rattle.rings.specs.Line.{tabulate, window, power}
use Rattle.rings.specs.Ring.{at, cell_at, Ring, Codes, first_stray, IsFirstStray}
use Rattle.rings.specs.Local.{Local, span, width, ring_map}
use Rattle.rings.specs.Automaton.{Automaton, Lawful, Narrow, Proper, Inverse, toward}
use Rattle.rings.proofs.Integers.{floor_div_mod, floor_mod_lt}
use Rattle.rings.proofs.Line.{tabulate-same, window_same, part_of_window, periodic_times}
use Rattle.rings.proofs.Ring.{periodic_at, below_at, is_first_stray, cell_at-is}
use Rattle.rings.proofs.Local.{length-window, codes-window, length-ring_map, ring_map-rotate}
use Rattle.rules.specs.declared.fault.RuleFault.{RuleFault}
use Rattle.rules.specs.declared.fault.RuleFault.TheVariants.{EmptyRing, LongRing, StrayCode, ShortBuffer, NoInverse}
use Rattle.rules.specs.Answers.{ends, answer}
use Rattle.rings.specs.Refusals.{outcome, unless_refused}
use Rattle.rules.specs.Maps.{ring_fault, map_fault, map_answer, image, written_over, map_buffer, StepLaw, StepLaws}
use Rattle.rules.specs.Steps.{value_of, Reads, part}
use Rattle.rules.specs.Windows.{checked_readable}

-- the local function of a direction

-- its interval is in order and narrow, and it is closed
abbrev pub Usable : ℕ → Option Local → Type 0
Usable q o = IfSome o (λ l. Proper q l × Narrow l)

pub usable : (d : Direction) (a : Automaton) → Lawful a → Usable a.states (toward d a)
usable Forward a l = (l.sound.forward, l.bounded.forward)
usable Backward a l = by a.inverse l.sound.inverse l.bounded.inverse where
  by : (o : Option Local) → IfSome o (Inverse a.states a.forward) → IfSome o Narrow → Usable a.states o
  by None i n = tt
  by (Some g) i n = (i.proper, n)

abbrev first : Option (ℤ × ℤ) → ℤ
first None = pos 0
first (Some p) = p.0

abbrev second : Option (ℤ × ℤ) → ℤ
second None = pos 0
second (Some p) = p.1

pub span_is : (l : Local) (lo hi : ℤ) → ends (Some l) ≡ Some (lo, hi) → width l ≡ span lo hi
span_is l lo hi e = ap₂ span (ap first e) (ap second e)

pub usable_narrow : (q : ℕ) (o : Option Local) (lo hi : ℤ) → Usable q o → ends o ≡ Some (lo, hi) → span lo hi ≤ 64
usable_narrow q None lo hi u e = let z : ◌≡◌ {A = ℕ} 0 1 = cc in absurd (omega arith)
usable_narrow q (Some l) lo hi u e = omega (arith, u.1.narrow, span_is l lo hi e)

-- the windows of an unrolled ring

-- a part of the first n cells
pub part_of_front : (n w i : ℕ) (cells : List ℕ) → i + w ≤ n → part cells i w ≡ part (take n cells) i w
part_of_front n w i cells fits =
    let split : n ≡ i + (n - i) = omega arith in
    sym (ap (λ k. take w (drop i (take k cells))) split ∙ ap (take w) (drop-take i (n - i) cells) ∙ take-take w (n - i) (drop i cells) (omega arith))

part_of_unrolled : (c cells : List ℕ) (lo : ℤ) (i w m : ℕ) → 1 ≤ length c → i + w ≤ m → take m cells ≡ window (at c) (pos (floor_mod lo (length c))) m
    → part cells i w ≡ window (at c) (pos i +ℤ lo) w
part_of_unrolled c cells lo i w m some fits u =
    let n = length c in
    let start = pos (floor_mod lo n) in
    part_of_front m w i cells fits ∙ ap (λ l. take w (drop i l)) u ∙
    part_of_window (at c) start m i w fits ∙
    window_same (at c) (at c) (start +ℤ pos i) (pos i +ℤ lo) w (λ j l.
    let e : pos i +ℤ lo +ℤ pos j ≡ floor_div lo n *ℤ pos n +ℤ (start +ℤ pos i +ℤ pos j) = omega (arith, ints, floor_div_mod lo n some) in
    sym (ap (at c) e ∙ periodic_times n (at c) (periodic_at c some) (floor_div lo n) (start +ℤ pos i +ℤ pos j)))

pub cell_inside : (z : ℤ) (n i : ℕ) → 1 ≤ n → Some i ≡ cell_at z n → i < n
cell_inside z n i some e = omega (arith, cell_at-is z n i some e, floor_mod_lt z n some)

-- a ring unrolled at the front of some cells, from the beginning of an interval on, so far that each cell has its window
record Unrolled (c cells : List ℕ) (lo hi : ℤ) (w : ℕ) : Type 0 where
  wide : w ≡ span lo hi
  all : take (length c + w) cells ≡ window (at c) (pos (floor_mod lo (length c))) (length c + w)

-- what the parts of w cells of such a ring are: windows of the local function, and its values at them make the image
pub record Windows (q : ℕ) (o : Option Local) (c cells : List ℕ) (w : ℕ) : Type 0 where
  pub reads : (i : ℕ) → i < length c → Reads q o (part cells i w)
  pub image : tabulate (λ i. value_of o (part cells i w)) (length c) ≡ image o c

module _ (q w : ℕ) (lo hi : ℤ) (c cells : List ℕ) (r : Ring q c) (u : Unrolled c cells lo hi w) where
  -- the part at i is the window at i
  unrolled_part : (l : Local) → ends (Some l) ≡ Some (lo, hi) → (i : ℕ) → i < length c → part cells i w ≡ window (at c) (pos i +ℤ l.lo) (width l)
  unrolled_part l e i h =
      part_of_unrolled c cells lo i w (length c + w) r.some (omega arith) u.all ∙
      ap₂ (λ (z : ℤ) (n : ℕ). window (at c) (pos i +ℤ z) n) (sym (ap first e)) (u.wide ∙ sym (span_is l lo hi e))

  unrolled_windows : (o : Option Local) → ends o ≡ Some (lo, hi) → Windows q o c cells w
  unfolding ring_map
  unrolled_windows None e = let z : ◌≡◌ {A = ℕ} 0 1 = cc in absurd (omega arith)
  unrolled_windows (Some l) e = record {
    reads = λ i h.
        subst (Reads q (Some l)) (sym (unrolled_part l e i h))
        (length-window (at c) (pos i +ℤ l.lo) (width l), codes-window q (at c) (pos i +ℤ l.lo) (width l) (below_at q c r));
    image =
        tabulate-same (λ i. l.value (part cells i w)) (λ i. l.value (window (at c) (pos 0 +ℤ pos i +ℤ l.lo) (width l))) (length c)
        (λ i h. ap l.value (unrolled_part l e i h ∙ ap (λ k. window (at c) (pos k +ℤ l.lo) (width l)) (sym (zero-add i))));
  }

pub windows : (q : ℕ) (o : Option Local) (c cells : List ℕ) (lo hi : ℤ) (start w : ℕ) → Ring q c → ends o ≡ Some (lo, hi) → Some start ≡ cell_at lo (length c) → w ≡ span lo hi
    → take (length c + w) cells ≡ window (at c) (pos start) (length c + w) → Windows q o c cells w
windows q o c cells lo hi start w r e s wide u =
    let at_start : start ≡ floor_mod lo (length c) = cell_at-is lo (length c) start r.some s in
    unrolled_windows q w lo hi c cells r (record { wide = wide; all = u ∙ ap (λ p. window (at c) (pos p) (length c + w)) at_start }) o e

pub length-image : (o : Option Local) (c : List ℕ) → length (image o c) ≡ length c
length-image None c = refl
length-image (Some l) c = length-ring_map l c

-- the code at a window that can be read
pub answer-reads : (q : ℕ) (o : Option Local) (ws : List ℕ) → Reads q o ws → answer q o ws ≡ Ok (value_of o ws)
answer-reads q None ws r = absurd r
answer-reads q (Some l) ws r = checked_readable q (width l) ws (record { len = r.0; codes = r.1 }) (l.value ws)

pub ok_is : {r : Result ℕ RuleFault} {m n : ℕ} → Ok m ≡ r → r ≡ Ok n → m ≡ n
ok_is e h = cc

-- what a rule answers at a part of an unrolled ring
pub answer-part : (q : ℕ) (o : Option Local) (cells : List ℕ) (i w : ℕ) (r : Result ℕ RuleFault) → Reads q o (part cells i w) → r ≡ answer q o (part cells i (i + w - i))
    → r ≡ Ok (value_of o (part cells i w))
answer-part q o cells i w r reads e =
    let n : i + w - i ≡ w = omega arith in
    e ∙ ap (λ m. answer q o (part cells i m)) n ∙ answer-reads q o (part cells i w) reads

-- one more cell of a list that is written from the front
pub one_more : (f : ℕ → ℕ) (xs : List ℕ) (i v : ℕ) → i < length xs → ((k : ℕ) → k < i → get_or xs k 0 ≡ f k) → v ≡ f i → (k : ℕ) → k < i + 1 → get_or (set xs i v) k 0 ≡ f k
one_more f xs i v h before e = below_more _ _ (λ k l. let ne : k ≢ i = omega arith in rw get_or-set_other (before k l)) (rw get_or-set_same e)

-- a ring that is not refused

pub record Mappable (q : ℕ) (ring : List ℕ) (room : ℕ) : Type 0 where
  pub some : 0 < length ring
  pub few : length ring ≤ 2048
  pub fits : length ring ≤ room
  pub codes : Codes q ring

pub mappable : (q : ℕ) (ring : List ℕ) (room : ℕ) → None ≡ ring_fault q ring room → Mappable q ring room
mappable q ring room = by (eqb (length ring) 0) (ltb 2048 (length ring)) (ltb room (length ring)) (first_stray q ring) refl refl refl (is_first_stray q ring) where
  by : (a b c : Bool) (o : Option ℕ) → eqb (length ring) 0 ≡ a → ltb 2048 (length ring) ≡ b → ltb room (length ring) ≡ c → IsFirstStray q ring o
      → None ≡ cond a (Some EmptyRing) (cond b (Some LongRing) (cond c (Some ShortBuffer) (option_map StrayCode o))) → Mappable q ring room
  by true b c o ea eb ec s h = let z : ◌≡◌ {A = ℕ} 0 1 = cc in absurd (omega arith)
  by false true c o ea eb ec s h = let z : ◌≡◌ {A = ℕ} 0 1 = cc in absurd (omega arith)
  by false false true o ea eb ec s h = let z : ◌≡◌ {A = ℕ} 0 1 = cc in absurd (omega arith)
  by false false false (Some i) ea eb ec s h = let z : ◌≡◌ {A = ℕ} 0 1 = cc in absurd (omega arith)
  by false false false None ea eb ec s h = record { some = omega (arith, eqb-false _ _ ea); few = ltb-false _ _ eb; fits = ltb-false _ _ ec; codes = s }

-- what is known where there is an interval, and where there is none

pub unplaced : (q : ℕ) (o : Option Local) (ring : List ℕ) (room : ℕ) → None ≡ ends o → map_fault q o ring room ≡ Some NoInverse
unplaced q None ring room e = refl
unplaced q (Some l) ring room e = let z : ◌≡◌ {A = ℕ} 0 1 = cc in absurd (omega arith)

pub map_fault-some : (q : ℕ) (o : Option Local) (ring : List ℕ) (room : ℕ) (lo hi : ℤ) → Some (lo, hi) ≡ ends o → map_fault q o ring room ≡ ring_fault q ring room
map_fault-some q None ring room lo hi e = let z : ◌≡◌ {A = ℕ} 0 1 = cc in absurd (omega arith)
map_fault-some q (Some l) ring room lo hi e = refl

-- the laws of one step

pub step-laws : (d : Direction) (a : Automaton) → StepLaws d a
unfolding power
step-laws Forward a = record { rotation = ring_map-rotate a.forward; one = λ c. refl }
step-laws Backward a = by a.inverse refl where
  by : (o : Option Local) → a.inverse ≡ o → IfSome o (StepLaw Backward a)
  by None e = tt
  by (Some g) e = record { rotation = ring_map-rotate g; one = λ c. rw e }

-- a ring that is mapped into a buffer of its own length fills it with its image
pub mapped_whole : (d : Direction) (a : Automaton) (ring buffer : List ℕ) → Ok tt ≡ map_answer d a ring buffer → length buffer ≡ length ring → map_buffer d a ring buffer ≡ image (toward d a) ring
mapped_whole d a ring buffer accepted long = by (map_fault a.states (toward d a) ring (length buffer)) accepted where
  whole : List ℕ
  whole = image (toward d a) ring

  by : (o : Option RuleFault) → Ok tt ≡ outcome o → unless_refused o (written_over whole buffer) buffer ≡ whole
  by None h = ap (λ rest. whole ++ rest) (drop_all (length whole) buffer (omega (arith, length-image (toward d a) ring))) ∙ append-nil whole
  by (Some f) h = let z : ◌≡◌ {A = ℕ} 0 1 = cc in absurd (omega arith)
