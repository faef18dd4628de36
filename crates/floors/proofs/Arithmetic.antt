-- Lemmas on the arithmetic of the code: products, sums and negations that fit their type, and quotients and remainders.
use Rattle.std.proofs.Common.{◌≡◌, ℕ, Bool, true, false, ◌+◌, ◌*◌, ◌^◌, ◌<◌, ◌≤◌, ℤ, pos, negsuc, ◌+ℤ◌, ◌-ℤ◌, ◌*ℤ◌, neg_ℤ, nat_abs, refl, ◌∙◌, ap₂, mul-le-mul, arith, w32, SFits, to_z, of_z, rules}
use Rattle.std.proofs.lemmas.Int.{ints, to_z-of_z, to_z_pos}
use Rattle.std.specs.Int.{int_div_euclid, int_rem_euclid}
use Rattle.towers.specs.Towers.{signed}
use Rattle.rings.specs.Integers.{floor_div, floor_mod}

-- products

-- the bound of a product is the product of the bounds
pub product_small : (z : ℤ) (n a b : ℕ) → nat_abs z ≤ a → n ≤ b → nat_abs (z *ℤ pos n) ≤ a * b
product_small (pos k) n a b h l = omega (arith, ints, mul-le-mul h l)
product_small (negsuc k) n a b h l = omega (arith, ints, mul-le-mul h l)

-- a small number fits
pub fits_small : (z : ℤ) → nat_abs z < 2 ^ 31 → SFits w32 z
fits_small z h = search rules

-- the product of a number and a count, as the code forms it
module _ (z : ℤ) (n a b : ℕ) (h : nat_abs z ≤ a) (l : n ≤ b) (below : b < 2 ^ 31) (small : a * b < 2 ^ 31) (fits : SFits w32 z) where
  plain : to_z w32 (of_z w32 z) *ℤ to_z w32 n ≡ z *ℤ pos n
  plain = ap₂ (λ (x y : ℤ). x *ℤ y) (to_z-of_z w32 z fits) (to_z_pos w32 n (omega arith))

  pub product_fits : SFits w32 (to_z w32 (of_z w32 z) *ℤ to_z w32 n)
  product_fits = rw plain (fits_small (z *ℤ pos n) (omega (arith, product_small z n a b h l)))

  pub product_is : to_z w32 (of_z w32 (to_z w32 (of_z w32 z) *ℤ to_z w32 n)) ≡ z *ℤ pos n
  product_is = to_z-of_z w32 (to_z w32 (of_z w32 z) *ℤ to_z w32 n) product_fits ∙ plain

-- the sum of two numbers, as the code forms it
module _ (x y a b : ℤ) (e : a ≡ x) (f : b ≡ y) (small : nat_abs x + nat_abs y < 2 ^ 31) where
  pub sum_fits : SFits w32 (a +ℤ b)
  sum_fits = fits_small (a +ℤ b) (omega (arith, ints))

  pub sum_is : to_z w32 (of_z w32 (a +ℤ b)) ≡ x +ℤ y
  sum_is = to_z-of_z w32 (a +ℤ b) sum_fits ∙ ap₂ (λ (m n : ℤ). m +ℤ n) e f

-- a number of cells, or its negation in a mirrored tower
pub signed_small : (v : Bool) (s : ℤ) → nat_abs s ≤ 128 → nat_abs (signed v s) ≤ 128
signed_small true s small = omega (arith, ints)
signed_small false s small = small

-- the negation of an end, as the code forms it
pub negation_is : (z : ℤ) → nat_abs z ≤ 128 → to_z w32 (of_z w32 (pos 0 -ℤ to_z w32 (of_z w32 z))) ≡ neg_ℤ z
negation_is z h = omega (arith, ints)

-- quotients and remainders

-- the code's division by a positive number rounds towards minus infinity
div_euclid_floor : (z : ℤ) (m : ℕ) → int_div_euclid z (pos m) ≡ floor_div z m
unfolding floor_div
div_euclid_floor (pos a) m = refl
div_euclid_floor (negsuc a) m = refl

-- the code's remainder is from 0 on
rem_euclid_floor : (z : ℤ) (m : ℕ) → int_rem_euclid z (pos m) ≡ pos (floor_mod z m)
unfolding floor_mod
rem_euclid_floor (pos a) m = refl
rem_euclid_floor (negsuc a) m = refl

-- the quotient and the remainder of numbers that the code has in another form
pub quotient_is : (z y d r : ℤ) (m : ℕ) → r ≡ int_div_euclid y d → y ≡ z → d ≡ pos m → r ≡ floor_div z m
quotient_is z y d r m e f h = e ∙ ap₂ int_div_euclid f h ∙ div_euclid_floor z m

pub remainder_is : (z y d r : ℤ) (m : ℕ) → r ≡ int_rem_euclid y d → y ≡ z → d ≡ pos m → r ≡ pos (floor_mod z m)
remainder_is z y d r m e f h = e ∙ ap₂ int_rem_euclid f h ∙ rem_euclid_floor z m
