-- Lemmas on the local function of a direction, applied to the windows that a floor makes.
use Rattle.std.proofs.Common.{◌≡◌, ℕ, zero, suc, ◌+◌, ◌-◌, ◌*◌, ◌^◌, ◌<◌, ◌≤◌, List, ◌++◌, reverse, length, get_or, take, drop, set, ℤ, Some, None, Ok, Err, Option, sym, refl, ap, ◌∙◌, subst, ap₂, mul-le-mul_right, add-mul, mul-le-mul, add-one, arith, take-add}
use lib.Arith.{digits_div, digits_mod}
use native.Mathlib.Nat.{pow-zero, pow-le-pow_right}
use Rattle.std.proofs.lemmas.List.{take-append-le, length-take, length-drop, length-take-le, get_or-take, get_or-drop, drop-drop, drop-set-lt, drop-take, take-take, length-reverse, get_or-reverse}
use Rattle.std.specs.Option.{option_map}
use Rattle.rings.specs.declared.Direction.{Direction}
use Rattle.rings.specs.Integers.{floor_mod}
use Rattle.rings.specs.Line.{tabulate, power}
use Rattle.rings.specs.Ring.{Codes}
use Rattle.rings.specs.Local.{Local}
use Rattle.rings.specs.Automaton.{Automaton, Lawful, toward}
use Rattle.rings.specs.Packing.{digit, number, unblocks}
use Rattle.rings.specs.Transformations.{map_list_windows, iterate_value, pack_value, iterate_local, mirror_local}
use Rattle.rings.proofs.Line.{length-tabulate, slice_index-tabulate, is_tabulate}
use Rattle.rings.proofs.Local.{power_out}
use Rattle.rings.proofs.Packing.{number_same, number_lt, length-unblocks, slice_index-unblocks, ring-unblocks}
use Rattle.rings.proofs.Transformations.{width-iterate, width-mirror}
use Rattle.rules.specs.declared.fault.RuleFault.{RuleFault}
use Rattle.rules.specs.Answers.{answer, checked}
use Rattle.rules.specs.Steps.{value_of, Reads, part}
use Rattle.rules.specs.Windows.{Readable, readable, checked_readable, checked_refused}
use Rattle.rules.specs.TablesLemmas.{pow_more}
use Rattle.rules.proofs.Maps.{Usable, usable, answer-reads}
use Rattle.towers.specs.Numbers.{Standing}
use Rattle.towers.specs.Towers.{Tower}
use Rattle.towers.specs.Standing.{top_lawful}
use Rattle.floors.specs.Limits.{max_digits}
use Rattle.floors.specs.Asking.{HasWidth, Packing}

-- the local function of a direction, which may be missing

-- it is usable, with another name for the states
pub usable_as : (q : ℕ) (d : Direction) (a : Automaton) → Lawful a → q ≡ a.states → Usable q (toward d a)
usable_as q d a l same = subst (λ n. Usable n (toward d a)) (sym same) (usable d a l)

-- a tower that stands has a usable top
pub usable_top : (t : Tower) (d : Direction) → Standing t → Usable t.top.states (toward d t.top)
usable_top t d s = usable d t.top (top_lawful t s)

-- a window has at least one cell
pub some-width : (o : Option Local) (w : ℕ) → HasWidth o w → 1 ≤ w
some-width None w h = absurd h
some-width (Some l) w h = omega arith

-- a window of w codes is one that the local function reads
pub reads : (q : ℕ) (o : Option Local) (w : ℕ) (ws : List ℕ) → HasWidth o w → Readable q w ws → Reads q o ws
reads q None w ws h r = absurd h
reads q (Some l) w ws h r = (r.len ∙ h, r.codes)

-- its value there is a code
pub value_lt : (q : ℕ) (o : Option Local) (ws : List ℕ) → Usable q o → Reads q o ws → value_of o ws < q
value_lt q None ws u r = absurd r
value_lt q (Some l) ws u r = u.0.closed ws r.0 r.1

-- a window that is refused, and one that is not
pub answer-refused : (q : ℕ) (o : Option Local) (w : ℕ) (ws : List ℕ) (f : RuleFault) → HasWidth o w → Err f ≡ checked {X = Unit {0}} q w ws tt → Err f ≡ answer q o ws
answer-refused q None w ws f h e = absurd h
answer-refused q (Some l) w ws f h e = checked_refused q w ws f (l.value ws) e ∙ ap (λ n. checked q n ws (l.value ws)) h

pub answer-value : (q : ℕ) (o : Option Local) (w : ℕ) (ws : List ℕ) (v : ℕ) → HasWidth o w → Ok tt ≡ checked {X = Unit {0}} q w ws tt → v ≡ value_of o ws → Ok v ≡ answer q o ws
answer-value q o w ws v h e s = ap Ok s ∙ sym (answer-reads q o ws (reads q o w ws h (readable q w ws e)))

-- a checked window, with another name for the states
pub readable-same : (p q w : ℕ) (ws : List ℕ) → p ≡ q → Ok tt ≡ checked {X = Unit {0}} p w ws tt → Readable q w ws
readable-same p q w ws s e = subst (λ n. Readable n w ws) s (readable p w ws e)

-- one multiple more, up to n of them
pub multiple_more : (i n m : ℕ) → i < n → ((i + 1) * m ≡ i * m + m) × (i * m + m ≤ n * m)
multiple_more i n m h =
    let more : (i + 1) * m ≡ i * m + m = add-mul i 1 m ∙ omega arith in
    let most : (i + 1) * m ≤ n * m = mul-le-mul_right m (omega arith) in
    (more, omega arith)

-- parts of a list

-- a part of the first n cells
part_of_front : (n w i : ℕ) (cells : List ℕ) → i + w ≤ n → part cells i w ≡ part (take n cells) i w
part_of_front n w i cells fits =
    let split : n ≡ i + (n - i) = omega arith in
    sym (ap (λ k. take w (drop i (take k cells))) split ∙ ap (take w) (drop-take i (n - i) cells) ∙ take-take w (n - i) (drop i cells) (omega arith))

-- a part that lies inside
pub part-readable : (q w i : ℕ) (cells : List ℕ) → i + w ≤ length cells → Codes q cells → Readable q w (part cells i w)
part-readable q w i cells fits codes = record { len = size; codes = λ k l. let h : k < w = omega (arith, size) in rw (get_or-take w (drop i cells) k 0 h, get_or-drop i cells k 0) (codes (i + k) (omega arith)) } where
  size : length (part cells i w) ≡ w
  size = simp (length-take, length-drop) (omega arith)

-- a cell is written, and the cells after it stay
pub drop_more_set : (i v : ℕ) (cells before : List ℕ) → drop i cells ≡ drop i before → drop (i + 1) (set cells i v) ≡ drop (i + 1) before
drop_more_set i v cells before same = drop-set-lt (i + 1) cells i v (omega arith) ∙ sym (drop-drop 1 i cells) ∙ ap (drop 1) same ∙ drop-drop 1 i before

-- rows: the value at every window of a row

module _ (q : ℕ) (o : Option Local) (w : ℕ) (u : Usable q o) (h : HasWidth o w) where
  -- the next row has codes only, and so has each row after it
  codes_row : (row : List ℕ) → Codes q row → Codes q (map_list_windows (value_of o) w row)
  unfolding map_list_windows
  codes_row row codes k l =
      let f : ℕ → ℕ = λ j. value_of o (part row j w) in
      let n = length row + 1 - w in
      let inside : k < n = omega (arith, length-tabulate f n) in
      rw (slice_index-tabulate f n k inside) (value_lt q o (part row k w) u (reads q o w (part row k w) h (part-readable q w k row (omega (arith, some-width o w h)) codes)))

  pub codes_rows : (t : ℕ) (row : List ℕ) → Codes q row → Codes q (power (map_list_windows (value_of o) w) t row)
  unfolding power
  codes_rows zero row codes = codes
  codes_rows (suc t) row codes = codes_rows t (map_list_windows (value_of o) w row) (codes_row row codes)

-- a row of which every cell is written is the next row
pub row_done : (f : List ℕ → ℕ) (w n : ℕ) (row next : List ℕ) → n ≡ length row + 1 - w → n ≤ length next → ((k : ℕ) → k < n → get_or next k 0 ≡ f (part row k w)) → take n next ≡ map_list_windows f w row
unfolding map_list_windows
row_done f w n row next e fits cells =
    is_tabulate (λ k. f (part row k w)) n (take n next) (length-take-le n next fits) (λ k l. get_or-take n next k 0 l ∙ cells k l) ∙ ap (tabulate (λ k. f (part row k w))) e

-- once more, after all the others
pub power_more : {X : Type 0} (f : X → X) (n : ℕ) (x : X) → power f (n + 1) x ≡ f (power f n x)
unfolding power
power_more f n x = ap (λ k. power f k x) (add-one n) ∙ power_out f n x

-- many steps

-- a row of `count` cells, after i of t steps and before the next one
pub record RowBefore (t w i count : ℕ) (row : List ℕ) : Type 0 where
  pub some : 1 ≤ w
  pub wide : w ≤ count
  pub short : count ≤ 64
  pub size : length (take (count - 0) row) ≡ count
  pub next : count - (w - 1) + (i + 1) * (w - 1) ≡ t * (w - 1) + 1

pub row_before : (o : Option Local) (t w i count : ℕ) (row : List ℕ) → HasWidth o w → t * (w - 1) + 1 ≤ 64 → i < t → count + i * (w - 1) ≡ t * (w - 1) + 1 → length row ≡ 64 → RowBefore t w i count row
row_before o t w i count row h few l e long =
    let some = some-width o w h in
    let step = multiple_more i t (w - 1) l in
    let n : count - 0 ≡ count = omega arith in
    record { some = some; wide = omega (arith, step.1); short = omega arith; size = ap (λ k. length (take k row)) n ∙ length-take-le count row (omega arith); next = omega (arith, step.0, step.1) }

-- a window of t steps, of at most 64 cells
pub record Stepping (q : ℕ) (o : Option Local) (w t : ℕ) (ws : List ℕ) : Type 0 where
  pub usable : Usable q o
  pub width : HasWidth o w
  pub reads : Reads q (option_map (iterate_local t) o) ws
  pub short : length ws ≤ 64

-- the windows of t steps
pub width_iterated : (q : ℕ) (o : Option Local) (w t : ℕ) → Usable q o → HasWidth o w → HasWidth (option_map (iterate_local t) o) (t * (w - 1) + 1)
width_iterated q None w t u h = absurd h
width_iterated q (Some l) w t u h = ap (λ n. t * (n - 1) + 1) h ∙ sym (width-iterate t l u.0.ordered)

-- one of them has the cells of all steps
readable_iterated : (q : ℕ) (o : Option Local) (w t : ℕ) (ws : List ℕ) → Stepping q o w t ws → Readable q (t * (w - 1) + 1) ws
readable_iterated q None w t ws s = absurd s.width
readable_iterated q (Some l) w t ws s = record { len = s.reads.0 ∙ width-iterate t l s.usable.0.ordered ∙ ap (λ n. t * (n - 1) + 1) (sym s.width); codes = s.reads.1 }

-- the code at the end of the rows
pub value_iterated : (o : Option Local) (w t : ℕ) (ws : List ℕ) → HasWidth o w → get_or (power (map_list_windows (value_of o) w) t ws) 0 0 ≡ value_of (option_map (iterate_local t) o) ws
unfolding iterate_value
value_iterated None w t ws h = absurd h
value_iterated (Some l) w t ws h = ap (λ n. iterate_value l.value n t ws) h

module _ {q : ℕ} {o : Option Local} {w t : ℕ} {ws : List ℕ} (s : Stepping q o w t ws) where
  -- the row after t - n steps stands at the front of a row
  abbrev pub RowLeft : ℕ → List ℕ → Type 0
  RowLeft n row = take (n * (w - 1) + 1) row ≡ power (map_list_windows (value_of o) w) (t - n) ws

  pub first_row : (row : List ℕ) → take (length ws) row ≡ ws → RowLeft t row
  unfolding power
  first_row row front =
      let none : t - t ≡ 0 = omega arith in
      ap (λ n. take n row) (sym (readable_iterated q o w t ws s).len) ∙ front ∙ ap (λ n. power (map_list_windows (value_of o) w) n ws) (sym none)

  pub last_row : (n : ℕ) (row : List ℕ) → n ≤ 0 → RowLeft n row → get_or row 0 0 ≡ value_of (option_map (iterate_local t) o) ws
  last_row n row none now =
      let zero : n ≡ 0 = omega arith in
      let one : n * (w - 1) + 1 ≡ 1 = omega (arith, ap (λ k. k * (w - 1)) zero) in
      let all : t - n ≡ t = omega arith in
      sym (get_or-take 1 row 0 0 (omega arith)) ∙ ap (λ cells. get_or cells 0 0) (ap (λ k. take k row) (sym one) ∙ now ∙ ap (λ k. power (map_list_windows (value_of o) w) k ws) all) ∙ value_iterated o w t ws s.width

  -- a step from it, as the code has its cells
  module _ (n : ℕ) (row : List ℕ) (some : 0 < n) (most : n ≤ t) (long : length row ≡ 64) (now : RowLeft n row) where
    abbrev cells : ℕ
    cells = (n - 1 + 1) * (w - 1) + 1

    same : cells ≡ n * (w - 1) + 1
    same = let e : n - 1 + 1 ≡ n = omega arith in ap (λ k. k * (w - 1) + 1) e

    pub inside : cells ≤ length row
    inside =
        let step = multiple_more (n - 1) t (w - 1) (omega arith) in
        omega (arith, step.0, step.1, s.short, (readable_iterated q o w t ws s).len)

    pub size : length (take cells row) ≡ cells
    size = length-take-le cells row inside

    pub wide : w ≤ length (take cells row)
    wide = omega (arith, size, (multiple_more (n - 1) t (w - 1) (omega arith)).0, some-width o w s.width)

    is_now : take cells row ≡ power (map_list_windows (value_of o) w) (t - n) ws
    is_now = ap (λ k. take k row) same ∙ now

    pub codes : Codes q (take cells row)
    codes = subst (Codes q) (sym is_now) (codes_rows q o w s.usable s.width (t - n) ws (readable_iterated q o w t ws s).codes)

    pub next_row : (written rest : List ℕ) → length written ≡ length (take cells row) → take (length (take cells row) + 1 - w) written ≡ map_list_windows (value_of o) w (take cells row) → RowLeft (n - 1) (written ++ rest)
    next_row written rest keeps e =
        let step = (multiple_more (n - 1) t (w - 1) (omega arith)).0 in
        let count : (n - 1) * (w - 1) + 1 ≡ length (take cells row) + 1 - w = omega (arith, size, step, some-width o w s.width) in
        let turn : t - (n - 1) ≡ t - n + 1 = omega arith in
        take-append-le ((n - 1) * (w - 1) + 1) written rest (omega (arith, keeps, size, step)) ∙ ap (λ k. take k written) count ∙ e ∙ ap (map_list_windows (value_of o) w) is_now ∙
        sym (ap (λ k. power (map_list_windows (value_of o) w) k ws) turn ∙ power_more (map_list_windows (value_of o) w) (t - n) ws)

-- a mirror

-- the windows seen in a mirror, and the code there
pub width-mirrored : (o : Option Local) (w : ℕ) → HasWidth o w → HasWidth (option_map mirror_local o) w
width-mirrored None w h = absurd h
width-mirrored (Some l) w h = h ∙ sym (width-mirror l)

pub value-mirrored : (o : Option Local) (ws : List ℕ) → value_of o (reverse ws) ≡ value_of (option_map mirror_local o) ws
value-mirrored None ws = refl
value-mirrored (Some l) ws = refl

-- a window that is reversed after it was checked
pub readable-reverse : (q w : ℕ) (ws : List ℕ) → Readable q w ws → Readable q w (reverse ws)
readable-reverse q w ws r = record {
  len = length-reverse ws ∙ r.len;
  codes = λ k l. let h : k < length ws = omega (arith, length-reverse ws) in rw (get_or-reverse ws k 0 h) (r.codes (length ws - 1 - k) (omega arith));
}

-- the window, copied to the front of a row that is then reversed
pub reversed_front : (w : ℕ) (ws row turned : List ℕ) → length ws ≡ w → take (length ws) row ≡ ws → turned ≡ reverse (take (w - 0) row) → turned ≡ reverse ws
reversed_front w ws row turned len front e = let n : w - 0 ≡ length ws = omega arith in e ∙ ap reverse (ap (λ k. take k row) n ∙ front)

-- blocks

-- a product that is not 0 has no factor 0
some_factor : (k m : ℕ) → 1 ≤ k * m → 1 ≤ k
some_factor zero m h = absurd (omega arith)
some_factor (suc k) m h = omega arith

-- the digits of the codes of a window, one code after the other
pub unblocks_more : (q m i : ℕ) (ws : List ℕ) → 1 ≤ m → i < length ws → take (i * m + m) (unblocks q m ws) ≡ take (i * m) (unblocks q m ws) ++ tabulate (digit q (get_or ws i 0)) m
unblocks_more q m i ws some h =
    let u = unblocks q m ws in
    let inside = (multiple_more i (length ws) m h).1 in
    let size : length (take m (drop (i * m) u)) ≡ m = simp (length-take, length-drop, length-unblocks) (omega arith) in
    take-add (i * m) m u ∙
    ap (λ rest. take (i * m) u ++ rest) (is_tabulate (digit q (get_or ws i 0)) m (take m (drop (i * m) u)) size (λ j l.
    get_or-take m (drop (i * m) u) j 0 l ∙ get_or-drop (i * m) u j 0 ∙ slice_index-unblocks q m ws some (i * m + j) (omega arith) ∙
    ap₂ (λ (c n : ℕ). digit q (get_or ws c 0) n) (digits_div i l) (digits_mod i l)))

-- one digit more: the numbers stay small
pub record NextDigit (q : ℕ) (f : ℕ → ℕ) (j code weight value : ℕ) : Type 0 where
  pub product : value * weight ≤ 16777216
  pub sum : code + value * weight ≤ 16777216
  pub power : weight * q ≤ 16777216
  pub next_code : code + value * weight ≡ number q f (j + 1)
  pub next_weight : weight * q ≡ q ^ (j + 1)

next_digit : (q m : ℕ) (f : ℕ → ℕ) (j code weight value : ℕ) → 1 ≤ q → q ^ m ≤ 16777216 → ((i : ℕ) → i < m → f i < q) → j < m → code ≡ number q f j → weight ≡ q ^ j → value ≡ f j → NextDigit q f j code weight value
unfolding number
next_digit q m f j code weight value some few below h e s v =
    let grows : q ^ (j + 1) ≤ q ^ m = pow-le-pow_right some (omega arith) in
    let less : number q f (j + 1) < q ^ (j + 1) = number_lt q (j + 1) f (λ i l. below i (omega arith)) in
    let next : code + value * weight ≡ number q f (j + 1) = ap₂ (λ (a b : ℕ). a + b) e (ap₂ (λ (a b : ℕ). a * b) v s) ∙ ap (number q f) (sym (add-one j)) in
    let more : weight * q ≡ q ^ (j + 1) = ap (λ n. n * q) s ∙ sym (pow_more q j) in
    record { product = omega arith; sum = omega arith; power = omega arith; next_code = next; next_weight = more }

-- the cells under m windows of w cells, which have codes below q
pub record Under (q : ℕ) (o : Option Local) (w m : ℕ) (cells : List ℕ) : Type 0 where
  pub usable : Usable q o
  pub width : HasWidth o w
  pub some : 1 ≤ q
  pub positive : 1 ≤ m
  pub few : q ^ m ≤ 16777216
  pub size : length cells ≡ m - 1 + w
  pub codes : Codes q cells

-- the number of the first j digits, each the value at a window, and the weight of the next one
pub record Digits (q : ℕ) (o : Option Local) (w m : ℕ) (cells : List ℕ) (j code weight : ℕ) : Type 0 where
  pub most : j ≤ m
  pub number_is : code ≡ number q (λ i. value_of o (part cells i w)) j
  pub weight_is : weight ≡ q ^ j

pub no_digit : {q : ℕ} {o : Option Local} {w m : ℕ} {cells : List ℕ} → Digits q o w m cells 0 0 1
unfolding number
no_digit {q = q} = record { most = omega arith; number_is = refl; weight_is = sym (pow-zero q) }

module _ {q : ℕ} {o : Option Local} {w m : ℕ} {cells : List ℕ} (u : Under q o w m cells) {j code weight : ℕ} (d : Digits q o w m cells j code weight) where
  -- the window of the next digit
  module _ (rest window : List ℕ) (left : rest ≡ drop j cells) (long : w ≤ length rest) (is : window ≡ take w rest) where
    window_is : window ≡ part cells j w
    window_is = is ∙ ap (take w) left

    before : j < m
    before = omega (arith, ap length left, length-drop j cells, long, u.size, u.positive, some-width o w u.width)

    pub window_reads : Reads q o window
    window_reads = subst (Reads q o) (sym window_is) (reads q o w (part cells j w) u.width (part-readable q w j cells (omega (arith, u.size, before)) u.codes))

    -- with the next digit
    module _ (value : ℕ) (v : value ≡ value_of o window) where
      pub next_number : NextDigit q (λ i. value_of o (part cells i w)) j code weight value
      next_number =
          next_digit q m (λ i. value_of o (part cells i w)) j code weight value u.some u.few
          (λ i l. value_lt q o (part cells i w) u.usable (reads q o w (part cells i w) u.width (part-readable q w i cells (omega (arith, u.size)) u.codes)))
          before d.number_is d.weight_is (v ∙ ap (value_of o) window_is)

      pub next_digits : (k : ℕ) → k ≡ j + 1 → Digits q o w m cells k (code + value * weight) (weight * q)
      next_digits k e = subst (λ n. Digits q o w m cells n (code + value * weight) (weight * q)) (sym e) (record { most = omega (arith, before); number_is = next_number.next_code; weight_is = next_number.next_weight })

    pub next_rest : (k : ℕ) → k ≡ j + 1 → drop 1 rest ≡ drop k cells
    next_rest k e = ap (drop 1) left ∙ drop-drop 1 j cells ∙ ap (λ n. drop n cells) (sym e)

  -- with all digits
  pub all_digits : (rest : List ℕ) → rest ≡ drop j cells → length rest < w → code ≡ number q (λ i. value_of o (part cells i w)) m
  all_digits rest left short =
      let all : j ≡ m = omega (arith, ap length left, length-drop j cells, u.size, d.most) in
      d.number_is ∙ ap (number q (λ i. value_of o (part cells i w))) all

-- a window of blocks of m cells, which is unpacked
pub record Unpacking (q : ℕ) (o : Option Local) (w m : ℕ) (lo : ℤ) (ws : List ℕ) : Type 0 where
  pub usable : Usable q o
  pub width : HasWidth o w
  pub some : 1 ≤ q
  pub positive : 1 ≤ m
  pub short : m ≤ 16
  pub packing : Packing q m lo w (length ws)

module _ {q : ℕ} {o : Option Local} {w m : ℕ} {lo : ℤ} {ws : List ℕ} (u : Unpacking q o w m lo ws) where
  -- there is room for its digits
  pub room : length ws * m ≤ max_digits
  room = let most : length ws * m ≤ 64 * 16 = mul-le-mul u.packing.fits u.short in omega arith

  -- the window of blocks has digits, and there is room for them
  pub unpackable : (1 ≤ q) × (length ws * m ≤ max_digits)
  unpackable = (u.some, room)

  codes_unpacked : Codes q (unblocks q m ws)
  codes_unpacked =
      let one : 1 ≤ length ws = some_factor (length ws) m (omega (arith, u.packing.inside, u.positive, some-width o w u.width)) in
      (ring-unblocks q m ws u.positive u.some one).codes

  -- the window of the cell j of a block lies inside, and can be read
  abbrev window-at : ℕ → List ℕ
  window-at j = part (unblocks q m ws) (j + floor_mod lo m) w

  pub window-inside : (j : ℕ) → j < m → j + floor_mod lo m + w ≤ length ws * m
  window-inside j h = omega (arith, u.packing.inside)

  pub window-reads : (j : ℕ) → j < m → Reads q o (window-at j)
  window-reads j h =
      let fits : j + floor_mod lo m + w ≤ length (unblocks q m ws) = omega (arith, window-inside j h, length-unblocks q m ws) in
      reads q o w (window-at j) u.width (part-readable q w (j + floor_mod lo m) (unblocks q m ws) fits codes_unpacked)

  -- it is found in any cells that begin with the unpacked ones
  pub window-part : (j : ℕ) (cells : List ℕ) → j < m → take (length ws * m) cells ≡ unblocks q m ws → part cells (j + floor_mod lo m) (j + floor_mod lo m + w - (j + floor_mod lo m)) ≡ window-at j
  window-part j cells h front =
      let n : j + floor_mod lo m + w - (j + floor_mod lo m) ≡ w = omega arith in
      ap (part cells (j + floor_mod lo m)) n ∙ part_of_front (length ws * m) w (j + floor_mod lo m) cells (window-inside j h) ∙ ap (λ c. part c (j + floor_mod lo m) w) front

  -- the value at the window of the cell j is the digit j, so the code and the weight stay small
  pub next_packed : (j code weight value : ℕ) (cells : List ℕ) → j < m → code ≡ number q (λ i. value_of o (window-at i)) j → weight ≡ q ^ j
      → value ≡ value_of o (part cells (j + floor_mod lo m) (j + floor_mod lo m + w - (j + floor_mod lo m))) → take (length ws * m) cells ≡ unblocks q m ws → NextDigit q (λ i. value_of o (window-at i)) j code weight value
  next_packed j code weight value cells h c s v front =
      next_digit q m (λ i. value_of o (window-at i)) j code weight value u.some u.packing.few (λ i l. value_lt q o (window-at i) u.usable (window-reads i l)) h c s (v ∙ ap (value_of o) (window-part j cells h front))

  -- the cells under the windows of a block
  module _ (digits : List ℕ) (skip : ℕ) (s : skip ≡ floor_mod lo m) (front : take (length ws * m) digits ≡ unblocks q m ws) where
    abbrev under : List ℕ
    under = take (skip + m - 1 + w - skip) (drop skip digits)

    pub fits : skip + (m - 1 + w) ≤ length ws * m
    fits = omega (arith, u.packing.inside, s)

    under_is : under ≡ part (unblocks q m ws) skip (m - 1 + w)
    under_is =
        let count : skip + m - 1 + w - skip ≡ m - 1 + w = omega (arith, u.positive) in
        ap (λ n. take n (drop skip digits)) count ∙ part_of_front (length ws * m) (m - 1 + w) skip digits fits ∙ ap (λ c. part c skip (m - 1 + w)) front

    pub under_block : (cells : List ℕ) → cells ≡ under → Under q o w m cells
    under_block cells is =
        let r = part-readable q (m - 1 + w) skip (unblocks q m ws) (omega (arith, fits, length-unblocks q m ws)) codes_unpacked in
        subst (Under q o w m) (sym (is ∙ under_is)) (record { usable = u.usable; width = u.width; some = u.some; positive = u.positive; few = u.packing.few; size = r.len; codes = r.codes })

    -- the number of all digits is the value on blocks
    pub packed_value : (cells : List ℕ) → cells ≡ under → number q (λ i. value_of o (part cells i w)) m ≡ pack_value q m (value_of o) (floor_mod lo m) w ws
    unfolding pack_value
    packed_value cells is =
        number_same q m (λ i. value_of o (part cells i w)) (λ i. value_of o (part (unblocks q m ws) (i + floor_mod lo m) w)) (λ i l.
        let place : skip + i ≡ i + floor_mod lo m = omega (arith, s) in
        ap (value_of o) (ap (λ c. part c i w) (is ∙ under_is) ∙ sym (part_of_front (m - 1 + w) w i (drop skip (unblocks q m ws)) (omega (arith, l))) ∙
        ap (take w) (drop-drop i skip (unblocks q m ws) ∙ ap (λ n. drop n (unblocks q m ws)) place)))

-- the answer, when all digits are there
pub blocks-value : (o : Option Local) (q m skip w total count : ℕ) (ws : List ℕ) (code : ℕ) → Ok tt ≡ checked {X = Unit {0}} total count ws tt
    → code ≡ number q (λ i. value_of o (part (unblocks q m ws) (i + skip) w)) m → Ok code ≡ checked total count ws (pack_value q m (value_of o) skip w ws)
unfolding pack_value
blocks-value o q m skip w total count ws code e v = ap Ok v ∙ sym (checked_readable total count ws (readable total count ws e) _)
