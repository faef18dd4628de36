-- Lemmas on towers: the ground stands, and what a tower that stands does with rotations and with steps.
use Rattle.std.specs.Prelude.{◌≡◌, ℕ, zero, suc, ◌+◌, ◌*◌, ◌/◌, ◌%◌, ◌≤◌, Bool, true, false, List, length, ℤ, pos, ◌+ℤ◌, ◌*ℤ◌, neg_ℤ, slice_index, refl}
use Rattle.std.proofs.Common.{sym, ◌∙◌, div-one, mod-eq_of_lt, mul-one, one-mul, pow-suc}
use Rattle.std.proofs.Math.Path.{ap, ap₂}
use Rattle.std.proofs.Math.IntN.{+ℤ_invl, +ℤ_invr, ℤ_ind}
use native.Mathlib.Omega.{arith}
use Rattle.std.proofs.Math.Nat.{pow-zero}
use Rattle.std.proofs.lemmas.Int.{ints}
use Rattle.rings.specs.Line.{power}
use Rattle.rings.specs.Ring.{rotate}
use Rattle.rings.specs.Local.{ring_map}
use Rattle.rings.specs.Automaton.{Automaton, Sound}
use Rattle.rings.proofs.Integers.{times_sum}
use Rattle.rings.proofs.Ring.{length-rotate, ring-rotate, rotate-rotate, rotate_zero}
use Rattle.rings.proofs.Local.{length-ring_map, length-power, ring-power, power-rotate}
use Rattle.rings.proofs.Automaton.{power_add}
use Rattle.towers.specs.Towers.{Tower, signed, Fitting, Stands, ground}

-- signs

signed_add : (v : Bool) (s t : ℤ) → signed v s +ℤ signed v t ≡ signed v (s +ℤ t)
signed_add false s t = refl
signed_add true s t = omega (arith, ints)

signed_zero : (v : Bool) → signed v (pos 0) ≡ pos 0
signed_zero false = refl
signed_zero true = refl

-- the ground

pub stands_ground : (a : Automaton) → Sound a → Stands (ground a)
unfolding power
stands_ground a s = record {
  block = omega arith;
  steps = omega arith;
  top = s;
  bottom = s;
  inverse = refl;
  states = sym (pow-suc a.states 0 ∙ ap (λ n. n * a.states) (pow-zero a.states) ∙ one-mul a.states);
  ring_encode = λ k c w. w.ring;
  length_encode = λ k c w. w.size ∙ mul-one k;
  fitting_decode = λ d r. record { some = r.some; ring = r; size = sym (mul-one (length d)) };
  decode_encode = λ k c w. refl;
  encode_decode = λ d r. refl;
  step = λ k c w. sym (rotate_zero (ring_map a.forward c) (omega (arith, w.ring.some, length-ring_map a.forward c)));
  rotation = λ k c w. refl;
  found = λ k c w j l. record {
    cell = omega (arith, w.size);
    place = omega arith;
    code = ap (λ v. slice_index c j / v % a.states) (pow-zero a.states) ∙ ap (λ v. v % a.states) (div-one (slice_index c j)) ∙ mod-eq_of_lt (w.ring.codes j l);
  };
  apart = λ k c w i j h l e. ap (λ (p : ℕ × ℕ). p.0) e;
}

-- rings of a tower that stands

module _ (t : Tower) (stands : Stands t) where
  -- rings with equal encodings are equal
  pub encode-apart : (j k : ℕ) (c d : List ℕ) → Fitting t j c → Fitting t k d → t.encode c ≡ t.encode d → c ≡ d
  encode-apart j k c d v w e = sym (stands.decode_encode j c v) ∙ ap t.decode e ∙ stands.decode_encode k d w

  pub fitting-rotate : (s : ℤ) (k : ℕ) (c : List ℕ) → Fitting t k c → Fitting t k (rotate s c)
  fitting-rotate s k c w = record { some = w.some; ring = ring-rotate t.bottom.states s c w.ring; size = length-rotate s c ∙ w.size }

  pub fitting-power : (n k : ℕ) (c : List ℕ) → Fitting t k c → Fitting t k (power (ring_map t.bottom.forward) n c)
  fitting-power n k c w = record {
    some = w.some;
    ring = ring-power t.bottom.states t.bottom.forward stands.bottom.forward.closed n c w.ring;
    size = length-power t.bottom.forward n c ∙ w.size;
  }

  pub some-encode : (k : ℕ) (c : List ℕ) → Fitting t k c → 1 ≤ length (t.encode c)
  some-encode k c w = (stands.ring_encode k c w).some

  -- the law of rotation, for any number of blocks

  abbrev Rotates : ℤ → Type 0
  Rotates s = (k : ℕ) (c : List ℕ) → Fitting t k c → t.encode (rotate (s *ℤ pos t.block) c) ≡ rotate (signed t.mirrored s) (t.encode c)

  rotates_zero : Rotates (pos 0)
  rotates_zero k c w =
      let none : pos 0 *ℤ pos t.block ≡ pos 0 = omega (arith, ints) in
      ap t.encode (ap (λ z. rotate z c) none ∙ rotate_zero c w.ring.some) ∙
      sym (ap (λ z. rotate z (t.encode c)) (signed_zero t.mirrored) ∙ rotate_zero (t.encode c) (some-encode k c w))

  rotates_one : Rotates (pos 1)
  rotates_one k c w =
      let once : pos 1 *ℤ pos t.block ≡ pos t.block = omega (arith, ints) in
      ap (λ z. t.encode (rotate z c)) once ∙ stands.rotation k c w

  rotates_sum : (r s : ℤ) → Rotates r → Rotates s → Rotates (r +ℤ s)
  rotates_sum r s by-r by-s k c w =
      let m = pos t.block in
      let v = t.mirrored in
      ap t.encode (ap (λ z. rotate z c) (times_sum r s t.block) ∙ sym (rotate-rotate (r *ℤ m) (s *ℤ m) c w.ring.some)) ∙
      by-r k (rotate (s *ℤ m) c) (fitting-rotate (s *ℤ m) k c w) ∙ ap (rotate (signed v r)) (by-s k c w) ∙
      rotate-rotate (signed v r) (signed v s) (t.encode c) (some-encode k c w) ∙ ap (λ z. rotate z (t.encode c)) (signed_add v r s)

  rotates_back : (s : ℤ) → Rotates s → Rotates (neg_ℤ s)
  rotates_back s by-s k c w =
      let m = pos t.block in
      let v = t.mirrored in
      let d = rotate (neg_ℤ s *ℤ m) c in
      let w_d = fitting-rotate (neg_ℤ s *ℤ m) k c w in
      let none : s *ℤ m +ℤ neg_ℤ s *ℤ m ≡ pos 0 = sym (times_sum s (neg_ℤ s) t.block) ∙ ap (λ z. z *ℤ m) (+ℤ_invr s) ∙ omega (arith, ints) in
      let there : t.encode c ≡ rotate (signed v s) (t.encode d) =
      ap t.encode (sym (rotate-rotate (s *ℤ m) (neg_ℤ s *ℤ m) c w.ring.some ∙ ap (λ z. rotate z c) none ∙ rotate_zero c w.ring.some)) ∙ by-s k d w_d in
      let still : signed v (neg_ℤ s) +ℤ signed v s ≡ pos 0 = signed_add v (neg_ℤ s) s ∙ ap (signed v) (+ℤ_invl s) ∙ signed_zero v in
      sym (ap (rotate (signed v (neg_ℤ s))) there ∙ rotate-rotate (signed v (neg_ℤ s)) (signed v s) (t.encode d) (some-encode k d w_d) ∙
      ap (λ z. rotate z (t.encode d)) still ∙ rotate_zero (t.encode d) (some-encode k d w_d))

  pub encode-rotate : (s : ℤ) (k : ℕ) (c : List ℕ) → Fitting t k c → t.encode (rotate (s *ℤ pos t.block) c) ≡ rotate (signed t.mirrored s) (t.encode c)
  encode-rotate s = ℤ_ind Rotates rotates_zero
      (λ n r. rotates_sum (pos n) (pos 1) r rotates_one)
      (λ n r. rotates_sum (neg_ℤ (pos n)) (neg_ℤ (pos 1)) r (rotates_back (pos 1) rotates_one)) s

  -- the law of steps, for any number of steps forward
  pub power-encode : (u k : ℕ) (c : List ℕ) → Fitting t k c
      → power (ring_map t.top.forward) u (t.encode c) ≡ t.encode (rotate (t.drift *ℤ pos u) (power (ring_map t.bottom.forward) (t.steps * u) c))
  unfolding power
  power-encode zero k c w =
      let none : t.drift *ℤ pos 0 ≡ pos 0 = omega (arith, ints) in
      let still : t.steps * 0 ≡ 0 = omega arith in
      ap t.encode (sym (ap₂ (λ (z : ℤ) (n : ℕ). rotate z (power (ring_map t.bottom.forward) n c)) none still ∙ rotate_zero c w.ring.some))
  power-encode (suc u) k c w =
      let f = ring_map t.bottom.forward in
      let y = power f t.steps c in
      let w_y = fitting-power t.steps k c w in
      let z = power f (t.steps * u) y in
      let w_z = fitting-power (t.steps * u) k y w_y in
      let drifts : t.drift *ℤ pos u +ℤ t.drift ≡ t.drift *ℤ pos (suc u) = omega (arith, ints) in
      let counts : t.steps * u + t.steps ≡ t.steps * suc u = omega arith in
      ap (power (ring_map t.top.forward) u) (stands.step k c w) ∙
      power-encode u k (rotate t.drift y) (fitting-rotate t.drift k y w_y) ∙
      ap t.encode (ap (rotate (t.drift *ℤ pos u)) (power-rotate t.bottom.forward (t.steps * u) t.drift y w_y.ring.some) ∙
      rotate-rotate (t.drift *ℤ pos u) t.drift z w_z.ring.some ∙
      ap₂ rotate drifts (power_add f (t.steps * u) t.steps c ∙ ap (λ n. power f n c) counts))
