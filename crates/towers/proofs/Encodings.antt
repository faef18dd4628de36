-- Lemmas on encoding and decoding by the places of the cells.
use Rattle.std.proofs.Common.{◌≡◌, ℕ, zero, suc, ◌+◌, ◌*◌, ◌/◌, ◌%◌, ◌^◌, ◌<◌, ◌≤◌, cond, eqb, ltb, ◌≢◌, List, length, get_or, set, replicate, sym, refl, ap, ◌∙◌, subst, ap₂, ⊎_elim, mod-lt, mod-eq_of_lt, mul-pos, arith}
use native.Mathlib.Nat.{pow-le-pow_right, pow-zero, zero-div, zero-mod}
use Rattle.std.proofs.lemmas.List.{length-replicate, get_or-replicate, ext_get_or, get_or-set_same, get_or-set_other, length-set}
use Rattle.std.proofs.lemmas.Bool.{eq-eqb, ne_eqb, lt-ltb, le-ltb, cases_eq, cases_lt, cond_both}
use Rattle.rings.specs.Ring.{Ring}
use Rattle.rings.specs.Packing.{digit, number}
use Rattle.rings.proofs.Packing.{number_same, number_lt, number-digit, digit-number}
use Rattle.towers.specs.Towers.{Tower, Fitting, Stands}
use Rattle.towers.specs.Encodings.{Simulates}
use Rattle.towers.specs.TowersLemmas.{encode-apart}
use Rattle.towers.proofs.Steps.{after-encode, rotate-decode-after}

-- a number with one digit more

number_change : (q d x : ℕ) (f : ℕ → ℕ) → f d ≡ 0 → (m : ℕ) → d < m → number q (λ j. cond (eqb j d) x (f j)) m ≡ number q f m + x * q ^ d
unfolding number
number_change q d x f none zero h = absurd (omega arith)
number_change q d x f none (suc m) h = ⊎_elim
    (λ (same : m ≡ d).
    let rest : number q (λ j. cond (eqb j d) x (f j)) m ≡ number q f m = number_same q m (λ j. cond (eqb j d) x (f j)) f (λ j l. let other : j ≢ d = omega arith in rw (ne_eqb j d other)) in
    let here : cond (eqb m d) x (f m) ≡ x = rw (eq-eqb m d same) in
    let old : f m ≡ 0 = ap f same ∙ none in
    ap₂ (λ a b. a + b * q ^ m) rest here ∙ ap (λ k. number q f m + x * q ^ k) same ∙ omega (arith, ap (λ k. k * q ^ m) old))
    (λ (other : m ≢ d).
    let rest = number_change q d x f none m (omega arith) in
    let here : cond (eqb m d) x (f m) ≡ f m = rw (ne_eqb m d other) in
    ap₂ (λ a b. a + b * q ^ m) rest here ∙ omega arith)
    (cases_eq m d)

-- v with the digit x in place of a 0
pub record DigitAdded (q m v d x : ℕ) : Type 0 where
  pub less : v + x * q ^ d < q ^ m
  pub digits : (j : ℕ) → j < m → digit q (v + x * q ^ d) j ≡ cond (eqb j d) x (digit q v j)

pub digit_added : (q m v d x : ℕ) → 1 ≤ q → v < q ^ m → d < m → x < q → digit q v d ≡ 0 → DigitAdded q m v d x
digit_added q m v d x some less inside small none =
    let g : ℕ → ℕ = λ j. cond (eqb j d) x (digit q v j) in
    let below : (j : ℕ) → j < m → g j < q = λ j l. cond_both (eqb j d) x (digit q v j) (λ n. n < q) (λ e. small) (λ e. mod-lt (v / q ^ j) some) in
    let is : number q g m ≡ v + x * q ^ d = number_change q d x (digit q v) none m inside ∙ ap (λ n. n + x * q ^ d) (number-digit q m v some ∙ mod-eq_of_lt less) in
    record {
      less = subst (λ n. n < q ^ m) is (number_lt q m g below);
      digits = λ j l. ap (λ n. digit q n j) (sym is) ∙ digit-number q m g below j l;
    }

pow_some : (q m : ℕ) → 1 ≤ q → 1 ≤ q ^ m
pow_some q m some = let e : q ^ 0 ≤ q ^ m = pow-le-pow_right some (omega arith) in omega (arith, pow-zero q)

digit_zero : (q j : ℕ) → digit q 0 j ≡ 0
digit_zero q j = ap (λ n. n % q) (zero-div (q ^ j)) ∙ zero-mod q

pub simulates : (t : Tower) → Stands t → Simulates t
simulates t s = record { steps = after-encode t s; reading = rotate-decode-after t s; apart = encode-apart t s }

zeros : ℕ → List ℕ
zeros n = replicate n 0

length_zeros : (n : ℕ) → length (zeros n) ≡ n
unfolding zeros
length_zeros n = length-replicate n 0

slice_index_zeros : (n j : ℕ) → j < n → get_or (zeros n) j 0 ≡ 0
unfolding zeros
slice_index_zeros n j h = get_or-replicate n j 0 0 h

module _ (t : Tower) (s : Stands t) where
  -- a ring of zeros fits, so that the places are inside whatever the ring holds
  fitting_zeros : (k n : ℕ) → 1 ≤ k → n ≡ k * t.block → Fitting t k (zeros n)
  fitting_zeros k n some e =
      let q = s.bottom.some in
      let pos_n : 1 ≤ k * t.block = mul-pos some s.block in
      record {
        some = some;
        ring = record { some = omega (arith, length_zeros n, e); codes = λ j h. let l : j < n = omega (arith, length_zeros n) in rw (slice_index_zeros n j l) q };
        size = length_zeros n ∙ e;
      }

  pub place_bounds : (k n j : ℕ) → 1 ≤ k → n ≡ k * t.block → j < n → ((t.place n j).0 < k) × ((t.place n j).1 < t.block)
  place_bounds k n j some e h =
      let len = length_zeros n in
      let f = s.found k (zeros n) (fitting_zeros k n some e) j (omega (arith, len)) in
      (subst (λ m. (t.place m j).0 < k) len f.cell, subst (λ m. (t.place m j).1 < t.block) len f.place)

  -- a decoded cell is the digit at its place
  pub slice_index-decode : (d : List ℕ) → Ring t.top.states d → (j n : ℕ) → n ≡ length d * t.block → j < n → get_or (t.decode d) j 0 ≡ digit t.bottom.states (get_or d (t.place n j).0 0) (t.place n j).1
  slice_index-decode d r j n e h =
      let w = s.fitting_decode d r in
      let len : length (t.decode d) ≡ n = w.size ∙ sym e in
      let f = s.found (length d) (t.decode d) w j (omega (arith, len)) in
      sym (subst (λ m. digit t.bottom.states (get_or d (t.place m j).0 0) (t.place m j).1 ≡ get_or (t.decode d) j 0) len
      (subst (λ v. digit t.bottom.states (get_or v (t.place (length (t.decode d)) j).0 0) (t.place (length (t.decode d)) j).1 ≡ get_or (t.decode d) j 0) (s.encode_decode d r) f.code))

  -- a ring with the digits of an encoded ring is the encoded ring
  pub encode_is : (k : ℕ) (c v : List ℕ) → Fitting t k c → Ring t.top.states v → length v ≡ k
      → ((j : ℕ) → j < length c → digit t.bottom.states (get_or v (t.place (length c) j).0 0) (t.place (length c) j).1 ≡ get_or c j 0) → v ≡ t.encode c
  encode_is k c v w r len digits =
      let n : length c ≡ length v * t.block = w.size ∙ ap (λ m. m * t.block) (sym len) in
      let size : length (t.decode v) ≡ length c = (s.fitting_decode v r).size ∙ sym n in
      let same : t.decode v ≡ c = ext_get_or 0 (t.decode v) c size (λ j h. let l : j < length c = omega arith in slice_index-decode v r j (length c) n l ∙ digits j l) in
      sym (s.encode_decode v r) ∙ ap t.encode same

-- the cells of an encoded ring, of which the digits of the bottom cells below j are written
pub record Written (t : Tower) (k : ℕ) (c cells : List ℕ) (j : ℕ) : Type 0 where
  pub size : length cells ≡ k
  pub codes : (i : ℕ) → i < k → get_or cells i 0 < t.bottom.states ^ t.block
  pub digits : (i : ℕ) → i < length c → digit t.bottom.states (get_or cells (t.place (length c) i).0 0) (t.place (length c) i).1 ≡ cond (ltb i j) (get_or c i 0) 0

module _ (t : Tower) (s : Stands t) (k : ℕ) (c : List ℕ) (w : Fitting t k c) where
  n : ℕ
  n = length c

  -- of cells that are all 0, no digit is written
  pub written_none : (cells : List ℕ) → length cells ≡ k → ((i : ℕ) → i < k → get_or cells i 0 ≡ 0) → Written t k c cells 0
  written_none cells len each = record {
    size = len;
    codes = λ i h. rw (each i h) (pow_some t.bottom.states t.block s.bottom.some);
    digits = λ i h.
        let p = place_bounds t s k (length c) i w.some w.size h in
        ap (λ v. digit t.bottom.states v (t.place (length c) i).1) (each (t.place (length c) i).0 p.0) ∙ digit_zero t.bottom.states (t.place (length c) i).1 ∙ sym (ap (λ b. cond b (get_or c i 0) 0) (le-ltb i 0 (omega arith)));
  }

  module _ (cells : List ℕ) (j : ℕ) (h : j < length c) (before : Written t k c cells j) where
    pub added : DigitAdded t.bottom.states t.block (get_or cells (t.place (length c) j).0 0) (t.place (length c) j).1 (get_or c j 0)
    added =
        let p = place_bounds t s k (length c) j w.some w.size h in
        digit_added t.bottom.states t.block (get_or cells (t.place (length c) j).0 0) (t.place (length c) j).1 (get_or c j 0) s.bottom.some (before.codes (t.place (length c) j).0 p.0) p.1 (w.ring.codes j h)
        (before.digits j h ∙ ap (λ b. cond b (get_or c j 0) 0) (le-ltb j j (omega arith)))

    -- the cells with the digit of the bottom cell j in its place
    more : List ℕ
    more = set cells (t.place (length c) j).0 (get_or cells (t.place (length c) j).0 0 + get_or c j 0 * t.bottom.states ^ (t.place (length c) j).1)

    here : (t.place (length c) j).0 < length cells
    here = let p = place_bounds t s k (length c) j w.some w.size h in omega (arith, p.0, before.size)

    slice_index_here : (i : ℕ) → i ≡ (t.place (length c) j).0 → get_or more i 0 ≡ get_or cells (t.place (length c) j).0 0 + get_or c j 0 * t.bottom.states ^ (t.place (length c) j).1
    unfolding more
    slice_index_here i e = ap (λ m. get_or (set cells (t.place (length c) j).0 (get_or cells (t.place (length c) j).0 0 + get_or c j 0 * t.bottom.states ^ (t.place (length c) j).1)) m 0) e ∙ get_or-set_same cells (t.place (length c) j).0 _ 0 here

    slice_index_there : (i : ℕ) → i ≢ (t.place (length c) j).0 → get_or more i 0 ≡ get_or cells i 0
    unfolding more
    slice_index_there i e = get_or-set_other cells (t.place (length c) j).0 i _ 0 e

    more_codes : (i : ℕ) → i < k → get_or more i 0 < t.bottom.states ^ t.block
    more_codes i l = ⊎_elim
        (λ (e : i ≡ (t.place (length c) j).0). rw (slice_index_here i e) added.less)
        (λ (e : i ≢ (t.place (length c) j).0). rw (slice_index_there i e) (before.codes i l))
        (cases_eq i (t.place (length c) j).0)

    DigitOf : List ℕ → ℕ → ℕ → Type 0
    DigitOf l m i = digit t.bottom.states (get_or l (t.place (length c) i).0 0) (t.place (length c) i).1 ≡ cond (ltb i m) (get_or c i 0) 0

    digit_own : DigitOf more (j + 1) j
    unfolding DigitOf
    digit_own =
        let p = place_bounds t s k (length c) j w.some w.size h in
        ap (λ v. digit t.bottom.states v (t.place (length c) j).1) (slice_index_here (t.place (length c) j).0 refl)
        ∙ added.digits (t.place (length c) j).1 p.1
        ∙ ap (λ b. cond b (get_or c j 0) (digit t.bottom.states (get_or cells (t.place (length c) j).0 0) (t.place (length c) j).1)) (eq-eqb (t.place (length c) j).1 (t.place (length c) j).1 refl)
        ∙ sym (ap (λ b. cond b (get_or c j 0) 0) (lt-ltb j (j + 1) (omega arith)))

    same_test : (i : ℕ) → i ≢ j → ltb i j ≡ ltb i (j + 1)
    same_test i e = ⊎_elim
        (λ (l : i < j). lt-ltb i j l ∙ sym (lt-ltb i (j + 1) (omega arith)))
        (λ (l : j ≤ i). let m : j + 1 ≤ i = omega arith in le-ltb i j l ∙ sym (le-ltb i (j + 1) m))
        (cases_lt i j)

    digit-same : (i : ℕ) → i < length c → i ≢ j → digit t.bottom.states (get_or more (t.place (length c) i).0 0) (t.place (length c) i).1 ≡ digit t.bottom.states (get_or cells (t.place (length c) i).0 0) (t.place (length c) i).1
    digit-same i l e = ⊎_elim
        (λ (f : (t.place (length c) i).0 ≡ (t.place (length c) j).0).
        let p = place_bounds t s k (length c) i w.some w.size l in
        let other : (t.place (length c) i).1 ≢ (t.place (length c) j).1 = λ g. e (s.apart k c w i j l h (ap₂ (λ a b. (a, b)) f g)) in
        ap (λ v. digit t.bottom.states v (t.place (length c) i).1) (slice_index_here (t.place (length c) i).0 f)
        ∙ added.digits (t.place (length c) i).1 p.1
        ∙ ap (λ b. cond b (get_or c j 0) (digit t.bottom.states (get_or cells (t.place (length c) j).0 0) (t.place (length c) i).1)) (ne_eqb (t.place (length c) i).1 (t.place (length c) j).1 other)
        ∙ ap (λ m. digit t.bottom.states (get_or cells m 0) (t.place (length c) i).1) (sym f))
        (λ (f : (t.place (length c) i).0 ≢ (t.place (length c) j).0). ap (λ v. digit t.bottom.states v (t.place (length c) i).1) (slice_index_there (t.place (length c) i).0 f))
        (cases_eq (t.place (length c) i).0 (t.place (length c) j).0)

    digit_each : (i : ℕ) → i < length c → DigitOf more (j + 1) i
    unfolding DigitOf
    digit_each i l = ⊎_elim
        (λ (e : i ≡ j). subst (DigitOf more (j + 1)) (sym e) digit_own)
        (λ (e : i ≢ j). digit-same i l e ∙ before.digits i l ∙ ap (λ b. cond b (get_or c i 0) 0) (same_test i e))
        (cases_eq i j)

    pub written_more : Written t k c (set cells (t.place (length c) j).0 (get_or cells (t.place (length c) j).0 0 + get_or c j 0 * t.bottom.states ^ (t.place (length c) j).1)) (j + 1)
    unfolding more DigitOf
    written_more = record { size = length-set cells (t.place (length c) j).0 _ ∙ before.size; codes = more_codes; digits = digit_each }

  -- all digits are written
  pub written_all : (cells : List ℕ) → Written t k c cells (length c) → cells ≡ t.encode c
  written_all cells all =
      let some : 1 ≤ length cells = omega (arith, w.some, all.size) in
      let ring : Ring t.top.states cells = record { some = some; codes = λ i l. subst (λ m. get_or cells i 0 < m) (sym s.states) (all.codes i (omega (arith, all.size))) } in
      encode_is t s k c cells w ring all.size (λ j l. all.digits j l ∙ ap (λ b. cond b (get_or c j 0) 0) (lt-ltb j (length c) l))
