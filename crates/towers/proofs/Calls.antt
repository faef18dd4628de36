-- Lemmas on the calls that encode and decode.
use Rattle.std.proofs.Common.{◌≡◌, ℕ, ◌+◌, ◌-◌, ◌*◌, ◌/◌, ◌%◌, ◌^◌, ◌<◌, ◌≤◌, Bool, true, false, cond, eqb, ltb, leb, List, length, get_or, set, ℤ, Some, None, Ok, Option, sym, refl, ap, ◌∙◌, subst, ⊎_elim, mul-le-mul_right, mod-lt, mod-eq_of_lt, div-add-mod', arith}
use native.Mathlib.Nat.{dvd-mul_left, mod-eq-sub-mod, mod-eq-zero_of_dvd, pow-le-pow_right}
use Rattle.std.proofs.lemmas.List.{ext_get_or}
use Rattle.std.proofs.lemmas.Bool.{eqb-false, eqb-true, ltb-false, eq-eqb, ne_eqb, lt-leb, lt-ltb, le-ltb, cases_lt}
use Rattle.rings.specs.Integers.{floor_mod}
use Rattle.rings.specs.Ring.{Codes, Ring, first_stray, IsFirstStray, rotate}
use Rattle.rings.proofs.Integers.{floor_mod_lt}
use Rattle.rings.proofs.Ring.{is_first_stray, length-rotate, slice_index-rotate}
use Rattle.rings.specs.Limits.{max_cells}
use Rattle.rules.specs.Answers.{length_fault}
use Rattle.rules.specs.declared.fault.RuleFault.{RuleFault}
use Rattle.rules.specs.declared.fault.RuleFault.TheVariants.{EmptyRing, LongRing, ShortBuffer}
use Rattle.towers.specs.declared.Place.{Place}
use Rattle.towers.specs.declared.fault.TowerFault.TheVariants.{Rule, Ragged}
use Rattle.towers.specs.Towers.{Tower, Fitting}
use Rattle.towers.specs.Numbers.{Standing}
use Rattle.towers.specs.Places.{place_answer}
use Rattle.towers.specs.Encodings.{stray_or_short, encode_fault, decode_fault, rotated_fault}
use Rattle.towers.proofs.Encodings.{place_bounds, Written, added, written_more}
use Rattle.towers.proofs.Places.{answered, told}

-- rings that are turned

-- what stands `mid` cells further on, round the end, is the ring turned by z cells
pub rotated_is : (z : ℤ) (ring out : List ℕ) (mid : ℕ) → mid ≡ floor_mod z (length ring) → length out ≡ length ring
    → ((k : ℕ) (d : ℕ) → k + mid < length ring → get_or out k d ≡ get_or ring (k + mid) d)
    → ((k : ℕ) (d : ℕ) → length ring ≤ k + mid → k < length ring → get_or out k d ≡ get_or ring (k + mid - length ring) d) → out ≡ rotate z ring
rotated_is z ring out mid e len near far =
    let n = length ring in
    ext_get_or 0 out (rotate z ring) (len ∙ sym (length-rotate z ring)) (λ k h.
    let l : k < n = omega (arith, len) in
    let less : mid < n = omega (arith, e, floor_mod_lt z n (omega arith)) in
    let turned : get_or (rotate z ring) k 0 ≡ get_or ring ((k + mid) % n) 0 = slice_index-rotate z ring k l ∙ ap (λ m. get_or ring ((k + m) % n) 0) (sym e) in
    ⊎_elim
    (λ (i : k + mid < n). near k 0 i ∙ ap (λ j. get_or ring j 0) (sym (mod-eq_of_lt i)) ∙ sym turned)
    (λ (i : n ≤ k + mid).
    let once : k + mid - n < n = omega arith in
    let back : (k + mid) % n ≡ k + mid - n = mod-eq-sub-mod i ∙ mod-eq_of_lt once in
    far k 0 i l ∙ ap (λ j. get_or ring j 0) (sym back) ∙ sym turned)
    (cases_lt (k + mid) n))

-- rings that are not refused

pub more_than : (limit n m : ℕ) → 1 ≤ m → ltb limit (n * m) ≡ ltb (limit / m) n
more_than limit n m some = ⊎_elim
    (λ (l : limit / m < n). let k : (limit / m + 1) * m ≤ n * m = mul-le-mul_right m (omega arith) in lt-ltb limit (n * m) (omega (arith, div-add-mod' limit m, mod-lt limit some)) ∙ sym (lt-ltb (limit / m) n l))
    (λ (l : n ≤ limit / m). let k : n * m ≤ limit / m * m = mul-le-mul_right m l in le-ltb limit (n * m) (omega (arith, div-add-mod' limit m)) ∙ sym (le-ltb (limit / m) n l))
    (cases_lt (limit / m) n)

module _ (q m : ℕ) (d : List ℕ) (room : ℕ) (some : 1 ≤ m) where
  pub rotated_fault_else : eqb (length d) 0 ≡ false → stray_or_short (first_stray q d) (length d) (room / m) ≡ rotated_fault q m d room
  rotated_fault_else e = rw e (by (first_stray q d)) where
    by : (o : Option ℕ) → stray_or_short o (length d) (room / m) ≡ stray_or_short o (length d * m) room
    by None = ap (λ b. cond b (Some (Rule ShortBuffer)) None) (sym (more_than room (length d) m some))
    by (Some i) = refl

  -- a top ring is refused for its length where its blocks have too many cells together
  pub decode_fault-length : (f : RuleFault) → Some f ≡ length_fault (max_cells / m) (length d) → Some (Rule f) ≡ decode_fault q m d room
  decode_fault-length f e = rw (more_than max_cells (length d) m some) (by (eqb (length d) 0) (ltb (max_cells / m) (length d)) e) where
    by : (x y : Bool) → Some f ≡ cond x (Some EmptyRing) (cond y (Some LongRing) None)
        → Some (Rule f) ≡ cond x (Some (Rule EmptyRing)) (cond y (Some (Rule LongRing)) (stray_or_short (first_stray q d) (length d * m) room))
    by true y h = cc
    by false true h = cc
    by false false h = let z : ◌≡◌ {A = ℕ} 0 1 = cc in absurd (omega arith)

  -- a top ring of few enough cells is refused for a stray code or for a short buffer alone
  pub decode_fault_else : eqb (length d) 0 ≡ false → length d ≤ max_cells / m → stray_or_short (first_stray q d) (length d * m) room ≡ decode_fault q m d room
  decode_fault_else e l = rw e (rw (more_than max_cells (length d) m some) (rw (le-ltb (max_cells / m) (length d) l)))

pub record Accepted (q : ℕ) (ring : List ℕ) (cells room : ℕ) : Type 0 where
  pub codes : Codes q ring
  pub fits : cells ≤ room

accepted : (q : ℕ) (ring : List ℕ) (cells room : ℕ) → None ≡ stray_or_short (first_stray q ring) cells room → Accepted q ring cells room
accepted q ring cells room = by (first_stray q ring) (ltb room cells) (is_first_stray q ring) refl where
  by : (o : Option ℕ) (b : Bool) → IsFirstStray q ring o → ltb room cells ≡ b → None ≡ stray_or_short o cells room → Accepted q ring cells room
  by (Some i) b s e h = let z : ◌≡◌ {A = ℕ} 0 1 = cc in absurd (omega arith)
  by None true s e h = let z : ◌≡◌ {A = ℕ} 0 1 = cc in absurd (omega arith)
  by None false s e h = record { codes = s; fits = ltb-false _ _ e }

-- a ring of any length that is decoded and turned
pub record Rotatable (q m : ℕ) (d : List ℕ) (room : ℕ) : Type 0 where
  pub ring : Ring q d
  pub fits : length d * m ≤ room

pub rotatable : (q m : ℕ) (d : List ℕ) (room : ℕ) → 1 ≤ m → eqb (length d) 0 ≡ false → None ≡ stray_or_short (first_stray q d) (length d) (room / m) → Rotatable q m d room
rotatable q m d room some e h =
    let a = accepted q d (length d) (room / m) h in
    let k : length d * m ≤ room / m * m = mul-le-mul_right m a.fits in
    record { ring = record { some = omega (arith, eqb-false _ _ e); codes = a.codes }; fits = omega (arith, div-add-mod' room m) }

pub record Encodable (q m : ℕ) (c : List ℕ) (room : ℕ) : Type 0 where
  pub some : 1 ≤ length c
  pub few : length c ≤ 2048
  pub whole : length c % m ≡ 0
  pub accepts : Accepted q c (length c / m) room

pub encodable : (q m : ℕ) (c : List ℕ) (room : ℕ) → None ≡ encode_fault q m c room → Encodable q m c room
encodable q m c room = by (eqb (length c) 0) (ltb 2048 (length c)) (eqb (length c % m) 0) refl refl refl where
  by : (x y z : Bool) → eqb (length c) 0 ≡ x → ltb 2048 (length c) ≡ y → eqb (length c % m) 0 ≡ z
      → None ≡ cond x (Some (Rule EmptyRing)) (cond y (Some (Rule LongRing)) (cond z (stray_or_short (first_stray q c) (length c / m) room) (Some Ragged))) → Encodable q m c room
  by true y z ex ey ez h = let e : ◌≡◌ {A = ℕ} 0 1 = cc in absurd (omega arith)
  by false true z ex ey ez h = let e : ◌≡◌ {A = ℕ} 0 1 = cc in absurd (omega arith)
  by false false false ex ey ez h = let e : ◌≡◌ {A = ℕ} 0 1 = cc in absurd (omega arith)
  by false false true ex ey ez h = record { some = omega (arith, eqb-false _ _ ex); few = ltb-false _ _ ey; whole = eqb-true _ _ ez; accepts = accepted q c (length c / m) room h }

pub record Decodable (q m : ℕ) (d : List ℕ) (room : ℕ) : Type 0 where
  pub some : 1 ≤ length d
  pub few : length d * m ≤ 2048
  pub accepts : Accepted q d (length d * m) room

pub decodable : (q m : ℕ) (d : List ℕ) (room : ℕ) → None ≡ decode_fault q m d room → Decodable q m d room
decodable q m d room = by (eqb (length d) 0) (ltb 2048 (length d * m)) refl refl where
  by : (x y : Bool) → eqb (length d) 0 ≡ x → ltb 2048 (length d * m) ≡ y
      → None ≡ cond x (Some (Rule EmptyRing)) (cond y (Some (Rule LongRing)) (stray_or_short (first_stray q d) (length d * m) room)) → Decodable q m d room
  by true y ex ey h = let e : ◌≡◌ {A = ℕ} 0 1 = cc in absurd (omega arith)
  by false true ex ey h = let e : ◌≡◌ {A = ℕ} 0 1 = cc in absurd (omega arith)
  by false false ex ey h = record { some = omega (arith, eqb-false _ _ ex); few = ltb-false _ _ ey; accepts = accepted q d (length d * m) room h }

-- the place that is told of a cell of a ring of k blocks
pub record PlaceIn (t : Tower) (k n j q : ℕ) (p : Place) : Type 0 where
  pub cell_is : p.cell ≡ (t.place n j).0
  pub digit_is : p.digit ≡ (t.place n j).1
  pub inside : p.cell < k
  pub some : 1 ≤ q
  pub power : q ^ p.digit ≤ 16777216

module _ (t : Tower) (s : Standing t) (k n j q : ℕ) (some : 1 ≤ k) (size : n ≡ k * t.block) (inside : j < n) (states : q ≡ t.bottom.states) where
  pub place_in : (p : Place) → Ok p ≡ place_answer t n j → PlaceIn t k n j q p
  place_in p e =
      let is : p ≡ told t n j = (answered (eqb n 0) (eqb (n % t.block) 0) (leb n j) (told t n j) p e).place in
      let b = place_bounds t s.laws k n j some size inside in
      let digit : p.digit ≡ (t.place n j).1 = ap (λ x. x.digit) is in
      let one : 1 ≤ q = omega (arith, s.laws.bottom.some) in
      let less : p.digit ≤ t.block = omega (arith, b.1) in
      let more : q ^ p.digit ≤ q ^ t.block = pow-le-pow_right one less in
      let top : t.top.states ≡ q ^ t.block = s.laws.states ∙ ap (λ x. x ^ t.block) (sym states) in
      record { cell_is = ap (λ x. x.cell) is; digit_is = digit; inside = rw (ap (λ x. x.cell) is) b.0; some = one; power = omega (arith, s.top.few) }

  pub place_is_told : place_answer t n j ≡ Ok (told t n j)
  place_is_told =
      let whole : n % t.block ≡ 0 = ap (λ x. x % t.block) size ∙ mod-eq-zero_of_dvd t.block (dvd-mul_left t.block k) in
      let e1 : eqb n 0 ≡ false = ne_eqb n 0 (omega arith) in
      let e2 : eqb (n % t.block) 0 ≡ true = eq-eqb (n % t.block) 0 whole in
      let e3 : leb n j ≡ false = lt-leb n j inside in
      rw e1 (rw e2 (rw e3))

-- the next digit of an encoded ring
module _ (t : Tower) (s : Standing t) (k : ℕ) (c : List ℕ) (w : Fitting t k c) (cells : List ℕ) (j : ℕ) (inside : j < length c) (before : Written t k c cells j)
    (q r : ℕ) (p : Place) (found : PlaceIn t k (length c) j q p) (states : q ≡ t.bottom.states) (power : r ≡ q ^ p.digit) where
  value : ℕ
  value = get_or cells (t.place (length c) j).0 0 + get_or c j 0 * t.bottom.states ^ (t.place (length c) j).1

  value_is : get_or cells p.cell 0 + get_or c j 0 * r ≡ value
  unfolding value
  value_is =
      ap (λ i. get_or cells i 0 + get_or c j 0 * r) found.cell_is
      ∙ ap (λ m. get_or cells (t.place (length c) j).0 0 + get_or c j 0 * m) (power ∙ ap (λ m. m ^ p.digit) states ∙ ap (λ d. t.bottom.states ^ d) found.digit_is)

  pub sum_small : get_or cells p.cell 0 + get_or c j 0 * r ≤ 16777216
  unfolding value
  sum_small =
      let less : value < t.bottom.states ^ t.block = (added t s.laws k c w cells j inside before).less in
      omega (arith, value_is, s.laws.states, s.top.few)

  pub written_next : Written t k c (set cells p.cell (get_or cells p.cell 0 + get_or c j 0 * r)) (j + 1)
  unfolding value
  written_next = subst (λ i. Written t k c (set cells i (get_or cells p.cell 0 + get_or c j 0 * r)) (j + 1)) (sym found.cell_is)
      (subst (λ v. Written t k c (set cells (t.place (length c) j).0 v) (j + 1)) (sym value_is) (written_more t s.laws k c w cells j inside before))

-- a ring that is encoded fits
pub fitting_of : (t : Tower) → Standing t → (c : List ℕ) (room : ℕ) → Encodable t.bottom.states t.block c room → Fitting t (length c / t.block) c
fitting_of t s c room e =
    let size : length c ≡ length c / t.block * t.block = omega (arith, div-add-mod' (length c) t.block, e.whole) in
    let some : 1 ≤ length c / t.block = ⊎_elim
    (λ (l : length c / t.block < 1).
    let z : length c / t.block ≡ 0 = omega arith in
    absurd (omega (arith, e.some, size, ap (λ k. k * t.block) z)))
    (λ (l : 1 ≤ length c / t.block). l)
    (cases_lt (length c / t.block) 1) in
    record { some = some; ring = record { some = e.some; codes = e.accepts.codes }; size = size }
