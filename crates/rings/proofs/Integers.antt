-- Lemmas on division of an integer by a natural number, rounded towards minus infinity.
use Rattle.std.proofs.Common.{◌≡◌, ℕ, ◌+◌, ◌-◌, ◌*◌, ◌/◌, ◌%◌, ◌<◌, ◌≤◌, ℤ, nat_abs, pos, negsuc, ◌+ℤ◌, ◌*ℤ◌, ◌≤ℤ◌, refl, sym, ap, ◌∙◌, mul-le-mul_right, mod-lt, div-add-mod', arith}
use lib.IntN.{+ℤ_comm}
use lib.Arith.{digits_div, digits_mod}
use Rattle.std.proofs.lemmas.Int.{ints, by_lt_z}
use borrow.Author.Differences.{up, down, sum_is_lem}
use Rattle.std.specs.Int.{int_rem_euclid}
use Rattle.rings.specs.Integers.{floor_div, floor_mod}

pub times_sum : (a b : ℤ) (m : ℕ) → (a +ℤ b) *ℤ pos m ≡ a *ℤ pos m +ℤ b *ℤ pos m
times_sum a b m = omega (arith, ints, ap (λ k. k * m) (sum_is_lem a b))

pub floor_mod_lt : (z : ℤ) (m : ℕ) → 0 < m → floor_mod z m < m
unfolding floor_mod
floor_mod_lt (pos a) m h = mod-lt a h
floor_mod_lt (negsuc a) m h = omega (arith, mod-lt a h)

pub floor_div_mod : (z : ℤ) (m : ℕ) → 0 < m → z ≡ floor_div z m *ℤ pos m +ℤ pos (floor_mod z m)
unfolding floor_mod floor_div
floor_div_mod (pos a) m h = ap pos (sym (div-add-mod' a m))
floor_div_mod (negsuc a) m h = omega (arith, ints, div-add-mod' a m, mod-lt a h)

-- a negative block, counted from its end
below_zero : (a m j : ℕ) → j < m → negsuc a *ℤ pos m +ℤ pos j ≡ negsuc (a * m + (m - 1 - j))
below_zero a m j h = omega (arith, ints)

pub floor_mod_is : (k : ℤ) (m j : ℕ) → j < m → floor_mod (k *ℤ pos m +ℤ pos j) m ≡ j
unfolding floor_mod
floor_mod_is (pos a) m j h = digits_mod a h
floor_mod_is (negsuc a) m j h =
    let r : m - 1 - j < m = omega arith in
    ap (λ z. floor_mod z m) (below_zero a m j h) ∙ ap (λ k. m - 1 - k) (digits_mod a r) ∙ omega arith

pub floor_div_is : (k : ℤ) (m j : ℕ) → j < m → floor_div (k *ℤ pos m +ℤ pos j) m ≡ k
unfolding floor_div
floor_div_is (pos a) m j h = ap pos (digits_div a h)
floor_div_is (negsuc a) m j h =
    let r : m - 1 - j < m = omega arith in
    ap (λ z. floor_div z m) (below_zero a m j h) ∙ ap negsuc (digits_div a r)

-- adding multiples of the divisor changes nothing
pub floor_mod_turns : (z k : ℤ) (n : ℕ) → 0 < n → floor_mod (z +ℤ k *ℤ pos n) n ≡ floor_mod z n
floor_mod_turns z k n h =
    let e : z +ℤ k *ℤ pos n ≡ (floor_div z n +ℤ k) *ℤ pos n +ℤ pos (floor_mod z n) = omega (arith, ints, floor_div_mod z n h, times_sum (floor_div z n) k n) in
    ap (λ y. floor_mod y n) e ∙ floor_mod_is (floor_div z n +ℤ k) n (floor_mod z n) (floor_mod_lt z n h)

-- the next remainder: one more, or 0 at the end
pub floor_mod_up : (z : ℤ) (n : ℕ) → floor_mod z n + 1 < n → floor_mod (z +ℤ pos 1) n ≡ floor_mod z n + 1
floor_mod_up z n h =
    let some : 0 < n = omega arith in
    let e : z +ℤ pos 1 ≡ floor_div z n *ℤ pos n +ℤ pos (floor_mod z n + 1) = omega (arith, ints, floor_div_mod z n some) in
    ap (λ y. floor_mod y n) e ∙ floor_mod_is (floor_div z n) n (floor_mod z n + 1) h

pub floor_mod_round : (z : ℤ) (n : ℕ) → 0 < n → n ≤ floor_mod z n + 1 → floor_mod (z +ℤ pos 1) n ≡ 0
floor_mod_round z n some h =
    let last : floor_mod z n + 1 ≡ n = omega (arith, floor_mod_lt z n some) in
    let e : z +ℤ pos 1 ≡ (floor_div z n +ℤ pos 1) *ℤ pos n +ℤ pos 0 = omega (arith, ints, floor_div_mod z n some, times_sum (floor_div z n) (pos 1) n) in
    ap (λ y. floor_mod y n) e ∙ floor_mod_is (floor_div z n +ℤ pos 1) n 0 some

-- adding multiples of the divisor adds to the quotient
pub floor_div_turns : (z k : ℤ) (n : ℕ) → 0 < n → floor_div (z +ℤ k *ℤ pos n) n ≡ floor_div z n +ℤ k
floor_div_turns z k n h =
    let e : z +ℤ k *ℤ pos n ≡ (floor_div z n +ℤ k) *ℤ pos n +ℤ pos (floor_mod z n) = omega (arith, ints, floor_div_mod z n h, times_sum (floor_div z n) k n) in
    ap (λ y. floor_div y n) e ∙ floor_div_is (floor_div z n +ℤ k) n (floor_mod z n) (floor_mod_lt z n h)

-- a multiple of the divisor and any natural number
pub floor_mod_add : (k : ℤ) (m j : ℕ) → 0 < m → floor_mod (k *ℤ pos m +ℤ pos j) m ≡ j % m
unfolding floor_mod
floor_mod_add k m j h = ap (λ z. floor_mod z m) (+ℤ_comm (k *ℤ pos m) (pos j)) ∙ floor_mod_turns (pos j) k m h

pub floor_div_add : (k : ℤ) (m j : ℕ) → 0 < m → floor_div (k *ℤ pos m +ℤ pos j) m ≡ k +ℤ pos (j / m)
unfolding floor_div
floor_div_add k m j h = ap (λ z. floor_div z m) (+ℤ_comm (k *ℤ pos m) (pos j)) ∙ floor_div_turns (pos j) k m h ∙ +ℤ_comm (pos (j / m)) k

-- the quotient keeps the order
pub floor_div_le : (a b : ℤ) (m : ℕ) → 0 < m → a ≤ℤ b → floor_div a m ≤ℤ floor_div b m
floor_div_le a b m h o = by_parts (floor_div a m) (floor_div b m) (floor_mod a m) (floor_mod b m) (floor_div_mod a m h) (floor_div_mod b m h) (floor_mod_lt b m h) where
  by_parts : (j k : ℤ) (r s : ℕ) → a ≡ j *ℤ pos m +ℤ pos r → b ≡ k *ℤ pos m +ℤ pos s → s < m → j ≤ℤ k
  by_parts j k r s e f l = by_lt_z k j
      (λ lt. let t : up k + down j + 1 ≤ up j + down k = omega (arith, ints) in absurd (omega (arith, ints, mul-le-mul_right m t)))
      (λ le. le)

-- the remainder that the machine computes
pub rem_euclid_floor_mod : (z : ℤ) (n : ℕ) → nat_abs (int_rem_euclid z (pos n)) ≡ floor_mod z n
unfolding floor_mod
rem_euclid_floor_mod (pos a) n = refl
rem_euclid_floor_mod (negsuc a) n = refl
