-- Lemmas on packing: numbers and their digits, packed lines, and the blocks of a ring.
use Rattle.std.proofs.Common.{◌≡◌, ℕ, zero, suc, ◌+◌, ◌-◌, ◌*◌, ◌/◌, ◌%◌, ◌^◌, ◌<◌, ◌≤◌, List, length, get_or, ℤ, pos, ◌+ℤ◌, ◌*ℤ◌, sym, refl, ap, ◌∙◌, subst, ap₂, ⊎_elim, mul-le-mul_right, mod-lt, mod-eq_of_lt, mul_comm, add_comm, mul-pos, pow-suc, mul-zero, mul-div_cancel, arith, pow-add}
use mathlib.Core.Path.{fun_ext}
use lib.Arith.{mod-mul, digits_div, digits_mod, digits_lt}
use native.Mathlib.Nat.{div-div-eq-div-mul, dvd-mul_right, mod-mod_of_dvd, mod-one, one-le-pow, pow-zero}
use Rattle.std.proofs.lemmas.Nat.{div_below}
use Rattle.std.proofs.lemmas.Int.{ints}
use Rattle.std.proofs.lemmas.Bool.{cases_lt}
use Rattle.rings.specs.Integers.{floor_div, floor_mod}
use Rattle.rings.specs.Line.{Line, window, rotate_line, Periodic, Below}
use Rattle.rings.specs.Ring.{at, Ring, rotate}
use Rattle.rings.specs.Packing.{number, digit, pack_line, unpack_line, blocks, unblocks}
use Rattle.rings.proofs.Integers.{times_sum, floor_mod_lt, floor_div_mod, floor_mod_is, floor_div_is, floor_mod_turns, floor_div_turns, floor_mod_add, floor_div_add}
use Rattle.rings.proofs.Line.{length-tabulate, slice_index-tabulate, is_tabulate}
use Rattle.rings.proofs.Ring.{at_cut, same-ring, periodic_at, at_pos, below_at, length_cut, slice_index-cut, ring_cut, length-rotate, at-rotate}

-- powers

pub pow_mul : (q a b : ℕ) → q ^ (a * b) ≡ (q ^ a) ^ b
pow_mul q a zero = ap (λ n. q ^ n) (mul-zero a) ∙ pow-zero q ∙ sym (pow-zero (q ^ a))
pow_mul q a (suc b) =
    let e : a * suc b ≡ a * b + a = omega arith in
    ap (λ n. q ^ n) e ∙ pow-add q (a * b) a ∙ ap (λ n. n * q ^ a) (pow_mul q a b) ∙ sym (pow-suc (q ^ a) b)

-- numbers and their digits

pub number_same : (q m : ℕ) (f g : ℕ → ℕ) → ((j : ℕ) → j < m → f j ≡ g j) → number q f m ≡ number q g m
unfolding number
number_same q zero f g h = refl
number_same q (suc m) f g h = ap₂ (λ (a b : ℕ). a + b * q ^ m) (number_same q m f g (λ j l. h j (omega arith))) (h m (omega arith))

pub number_lt : (q m : ℕ) (f : ℕ → ℕ) → ((j : ℕ) → j < m → f j < q) → number q f m < q ^ m
unfolding number
number_lt q zero f h = rw pow-zero (omega arith)
number_lt q (suc m) f h =
    let r = number_lt q m f (λ j l. h j (omega arith)) in
    rw pow-suc (omega (arith, mul-le-mul_right (q ^ m) (h m (omega arith))))

pub number-digit : (q m v : ℕ) → 0 < q → number q (digit q v) m ≡ v % q ^ m
unfolding number
number-digit q zero v some = sym (ap (λ k. v % k) (pow-zero q) ∙ mod-one v)
number-digit q (suc m) v some =
    let top = v / q ^ m % q * q ^ m in
    ap (λ k. k + top) (number-digit q m v some) ∙ add_comm (v % q ^ m) top ∙
    sym (ap (λ k. v % k) (pow-suc q m ∙ mul_comm (q ^ m) q) ∙ mod-mul v some (one-le-pow m q some))

-- the digits below the place m are those of the remainder
pub digit_mod : (q m v j : ℕ) → 0 < q → j < m → digit q (v % q ^ m) j ≡ digit q v j
digit_mod q m v j some h =
    let rest = m - 1 - j in
    let parts : m ≡ suc rest + j = omega arith in
    let whole : q ^ m ≡ q * q ^ rest * q ^ j = ap (λ k. q ^ k) parts ∙ pow-add q (suc rest) j ∙ ap (λ k. k * q ^ j) (pow-suc q rest ∙ mul_comm (q ^ rest) q) in
    let unit : 1 ≤ q ^ j = one-le-pow j q some in
    ap (λ k. v % k / q ^ j % q) whole ∙
    ap (λ k. k / q ^ j % q) (mod-mul v (mul-pos some (one-le-pow rest q some)) unit) ∙
    ap (λ k. k % q) (digits_div (v / q ^ j % (q * q ^ rest)) (mod-lt v unit)) ∙
    mod-mod_of_dvd q (v / q ^ j) (dvd-mul_right q (q ^ rest))

pub digit-number : (q m : ℕ) (f : ℕ → ℕ) → ((j : ℕ) → j < m → f j < q) → (j : ℕ) → j < m → digit q (number q f m) j ≡ f j
unfolding number
digit-number q zero f below j l = absurd (omega arith)
digit-number q (suc m) f below j l =
    let less : number q f m < q ^ m = number_lt q m f (λ i h. below i (omega arith)) in
    let order : number q f m + f m * q ^ m ≡ f m * q ^ m + number q f m = omega arith in
    ap (λ v. digit q v j) order ∙
    ⊎_elim
    (λ h. sym (digit_mod q m (f m * q ^ m + number q f m) j (omega (arith, below j l)) h) ∙
    ap (λ v. digit q v j) (digits_mod (f m) less) ∙ digit-number q m f (λ i k. below i (omega arith)) j h)
    (λ h. let e : j ≡ m = omega arith in
    ap (digit q (f m * q ^ m + number q f m)) e ∙ ap (λ k. k % q) (digits_div (f m) less) ∙ mod-eq_of_lt (below m (omega arith)) ∙ ap f (sym e))
    (cases_lt j m)

-- a digit in base q of a digit in base q ^ m
pub digit-digit : (q m v i j : ℕ) → 0 < q → j < m → digit q (digit (q ^ m) v i) j ≡ digit q v (i * m + j)
digit-digit q m v i j some h =
    let e : q ^ (i * m + j) ≡ (q ^ m) ^ i * q ^ j = pow-add q (i * m) j ∙ ap (λ k. k * q ^ j) (ap (λ k. q ^ k) (mul_comm i m) ∙ pow_mul q m i) in
    digit_mod q m (v / (q ^ m) ^ i) j some h ∙ ap (λ k. k % q) (div-div-eq-div-mul v ((q ^ m) ^ i) (q ^ j)) ∙ ap (λ k. v / k % q) (sym e)

-- lines

pub pack_line-unpack_line : (q m : ℕ) (y : Line) → 0 < q → Below (q ^ m) y → pack_line q m (unpack_line q m y) ≡ y
pack_line-unpack_line q m y some b = fun_ext (λ i.
    number_same q m (λ j. unpack_line q m y (i *ℤ pos m +ℤ pos j)) (digit q (y i)) (λ j l. ap₂ (λ (k : ℤ) (d : ℕ). digit q (y k) d) (floor_div_is i m j l) (floor_mod_is i m j l)) ∙
    number-digit q m (y i) some ∙ mod-eq_of_lt (b i))

pub unpack_line-pack_line : (q m : ℕ) (x : Line) → 0 < m → Below q x → unpack_line q m (pack_line q m x) ≡ x
unpack_line-pack_line q m x positive b = fun_ext (λ i.
    digit-number q m (λ j. x (floor_div i m *ℤ pos m +ℤ pos j)) (λ j l. b (floor_div i m *ℤ pos m +ℤ pos j)) (floor_mod i m) (floor_mod_lt i m positive) ∙
    ap x (sym (floor_div_mod i m positive)))

pub rotate_line-pack_line : (q m : ℕ) (s : ℤ) (x : Line) → rotate_line s (pack_line q m x) ≡ pack_line q m (rotate_line (s *ℤ pos m) x)
rotate_line-pack_line q m s x = fun_ext (λ i.
    number_same q m (λ j. x ((i +ℤ s) *ℤ pos m +ℤ pos j)) (λ j. x (i *ℤ pos m +ℤ pos j +ℤ s *ℤ pos m)) (λ j l. ap x (omega (arith, ints, times_sum i s m))))

pub rotate_line-unpack_line : (q m : ℕ) (s : ℤ) (y : Line) → 0 < m → rotate_line (s *ℤ pos m) (unpack_line q m y) ≡ unpack_line q m (rotate_line s y)
rotate_line-unpack_line q m s y positive = fun_ext (λ i.
    ap₂ (λ (z : ℤ) (d : ℕ). digit q (y z) d) (floor_div_turns i s m positive) (floor_mod_turns i s m positive))

pub below_pack_line : (q m : ℕ) (x : Line) → Below q x → Below (q ^ m) (pack_line q m x)
below_pack_line q m x b i = number_lt q m (λ j. x (i *ℤ pos m +ℤ pos j)) (λ j l. b (i *ℤ pos m +ℤ pos j))

pub below_unpack_line : (q m : ℕ) (y : Line) → 0 < q → Below q (unpack_line q m y)
below_unpack_line q m y some i = mod-lt (y (floor_div i m) / q ^ floor_mod i m) some

pub periodic_pack_line : (n q m : ℕ) (x : Line) → Periodic (n * m) x → Periodic n (pack_line q m x)
periodic_pack_line n q m x e = rotate_line-pack_line q m (pos n) x ∙ ap (pack_line q m) e

pub periodic_unpack_line : (n q m : ℕ) (y : Line) → 0 < m → Periodic n y → Periodic (n * m) (unpack_line q m y)
periodic_unpack_line n q m y positive e = rotate_line-unpack_line q m (pos n) y positive ∙ ap (unpack_line q m) e

-- the ring whose blocks are given

pub length-unblocks : (q m : ℕ) (c : List ℕ) → length (unblocks q m c) ≡ length c * m
unfolding unblocks
length-unblocks q m c = length_cut (length c * m) (unpack_line q m (at c))

module _ (q m : ℕ) (c : List ℕ) (positive : 0 < m) where
  pub slice_index-unblocks : (j : ℕ) → j < length c * m → get_or (unblocks q m c) j 0 ≡ digit q (get_or c (j / m) 0) (j % m)
  unfolding unblocks floor_div floor_mod
  slice_index-unblocks j h =
      slice_index-cut (length c * m) (unpack_line q m (at c)) j h ∙ ap (λ v. digit q v (j % m)) (at_pos c (j / m) (div_below j m (length c) positive h))

  pub at-unblocks : 1 ≤ length c → at (unblocks q m c) ≡ unpack_line q m (at c)
  unfolding unblocks
  at-unblocks some = at_cut (length c * m) (unpack_line q m (at c)) (mul-pos some positive) (periodic_unpack_line (length c) q m (at c) positive (periodic_at c some))

  pub ring-unblocks : 0 < q → 1 ≤ length c → Ring q (unblocks q m c)
  unfolding unblocks
  ring-unblocks states some = ring_cut q (length c * m) (unpack_line q m (at c)) (mul-pos some positive) (below_unpack_line q m (at c) states)

-- a window of a packed line
pub unblocks-window : (q m : ℕ) (y : Line) (p : ℤ) (w : ℕ) → 0 < m → unblocks q m (window y p w) ≡ window (unpack_line q m y) (p *ℤ pos m) (w * m)
unblocks-window q m y p w positive =
    let n : length (window y p w) ≡ w = length-tabulate (λ j. y (p +ℤ pos j)) w in
    is_tabulate (λ j. unpack_line q m y (p *ℤ pos m +ℤ pos j)) (w * m) (unblocks q m (window y p w)) (length-unblocks q m (window y p w) ∙ ap (λ k. k * m) n)
    (λ j l. slice_index-unblocks q m (window y p w) positive j (rw n l) ∙
    ap₂ (λ (v d : ℕ). digit q v d)
    (slice_index-tabulate (λ i. y (p +ℤ pos i)) w (j / m) (div_below j m w positive l) ∙ ap y (sym (floor_div_add p m j positive)))
    (sym (floor_mod_add p m j positive)))

-- the blocks of a ring of k blocks

module _ (q m k : ℕ) (c : List ℕ) (positive : 0 < m) (some : 1 ≤ k) (size : length c ≡ k * m) where
  count : length c / m ≡ k
  count = ap (λ n. n / m) size ∙ mul-div_cancel k positive

  cells : 1 ≤ length c
  cells = omega (arith, size, mul-pos {m = k} {n = m} some positive)

  pub length-blocks : length (blocks q m c) ≡ k
  unfolding blocks
  length-blocks = length_cut (length c / m) (pack_line q m (at c)) ∙ count

  pub slice_index-blocks : (i : ℕ) → i < k → get_or (blocks q m c) i 0 ≡ number q (λ j. get_or c (i * m + j) 0) m
  unfolding blocks
  slice_index-blocks i h =
      slice_index-cut (length c / m) (pack_line q m (at c)) i (rw count h) ∙
      number_same q m (λ j. at c (pos (i * m) +ℤ pos j)) (λ j. get_or c (i * m + j) 0) (λ j l. at_pos c (i * m + j) (rw size (digits_lt h l)))

  pub at-blocks : at (blocks q m c) ≡ pack_line q m (at c)
  unfolding blocks
  at-blocks =
      at_cut (length c / m) (pack_line q m (at c)) (rw count some)
      (periodic_pack_line (length c / m) q m (at c) (subst (λ n. Periodic n (at c)) (size ∙ ap (λ n. n * m) (sym count)) (periodic_at c cells)))

  pub ring-blocks : Ring q c → Ring (q ^ m) (blocks q m c)
  unfolding blocks
  ring-blocks r = ring_cut (q ^ m) (length c / m) (pack_line q m (at c)) (rw count some) (below_pack_line q m (at c) (below_at q c r))

  pub digit-blocks : Ring q c → (i j : ℕ) → i < k → j < m → digit q (get_or (blocks q m c) i 0) j ≡ get_or c (i * m + j) 0
  digit-blocks r i j h l =
      ap (λ v. digit q v j) (slice_index-blocks i h) ∙
      digit-number q m (λ n. get_or c (i * m + n) 0) (λ n s. r.codes (i * m + n) (rw size (digits_lt h s))) j l

  pub unblocks-blocks : Ring q c → unblocks q m (blocks q m c) ≡ c
  unblocks-blocks r =
      same-ring (unblocks q m (blocks q m c)) c (length-unblocks q m (blocks q m c) ∙ ap (λ n. n * m) length-blocks ∙ sym size)
      (at-unblocks q m (blocks q m c) positive (rw length-blocks some) ∙ ap (unpack_line q m) at-blocks ∙ unpack_line-pack_line q m (at c) positive (below_at q c r))

pub rotate-blocks : (q m k : ℕ) (c : List ℕ) → 0 < m → 1 ≤ k → length c ≡ k * m → (s : ℤ) → rotate s (blocks q m c) ≡ blocks q m (rotate (s *ℤ pos m) c)
rotate-blocks q m k c positive some size s =
    let t = rotate (s *ℤ pos m) c in
    let n : length (blocks q m c) ≡ k = length-blocks q m k c positive some size in
    let turned : length t ≡ k * m = length-rotate (s *ℤ pos m) c ∙ size in
    same-ring (rotate s (blocks q m c)) (blocks q m t)
    (length-rotate s (blocks q m c) ∙ n ∙ sym (length-blocks q m k t positive some turned))
    (at-rotate s (blocks q m c) (rw n some) ∙ ap (rotate_line s) (at-blocks q m k c positive some size) ∙ rotate_line-pack_line q m s (at c) ∙
    sym (at-blocks q m k t positive some turned ∙ ap (pack_line q m) (at-rotate (s *ℤ pos m) c (cells q m k c positive some size))))

pub blocks-unblocks : (q m : ℕ) (c : List ℕ) → 0 < m → 0 < q → Ring (q ^ m) c → blocks q m (unblocks q m c) ≡ c
blocks-unblocks q m c positive states r =
    let u = unblocks q m c in
    let size : length u ≡ length c * m = length-unblocks q m c in
    same-ring (blocks q m u) c (length-blocks q m (length c) u positive r.some size)
    (at-blocks q m (length c) u positive r.some size ∙ ap (pack_line q m) (at-unblocks q m c positive r.some) ∙ pack_line-unpack_line q m (at c) states (below_at (q ^ m) c r))
