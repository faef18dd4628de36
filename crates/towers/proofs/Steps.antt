-- The law of a tower for any number of steps, forward and back, and what is read off an encoded ring after them.
use Rattle.std.proofs.Common.{◌≡◌, ℕ, suc, ◌*◌, List, ℤ, pos, negsuc, ◌+ℤ◌, ◌*ℤ◌, neg_ℤ, is_some, IfNone, Some, None, Option, sym, ap, ◌∙◌, arith}
use lib.IntN.{+ℤ_invl}
use Rattle.std.proofs.lemmas.Int.{ints}
use Rattle.std.proofs.lemmas.Bool.{true≢false}
use Rattle.rings.specs.Ring.{rotate}
use Rattle.rings.specs.Local.{Local}
use Rattle.rings.specs.Automaton.{Automaton, after, Goes}
use Rattle.rings.proofs.Ring.{rotate-rotate, rotate_zero}
use Rattle.rings.proofs.Local.{power-rotate}
use Rattle.rings.proofs.Automaton.{after_undoes, length-after, ring-after, goes_any}
use Rattle.towers.specs.Towers.{Tower, Fitting, Stands}
use Rattle.towers.specs.TowersLemmas.{fitting-rotate, power-encode}

-- automata that both have an inverse, or both have none, can go the same numbers of steps
pub goes_same : (a b : Automaton) → is_some a.inverse ≡ is_some b.inverse → (k : ℤ) → Goes b k → Goes a k
goes_same a b e (pos n) g = tt
goes_same a b e (negsuc n) g = by a.inverse b.inverse e g where
  by : (o p : Option Local) → is_some o ≡ is_some p → IfNone p ⊥ → IfNone o ⊥
  by None None e g = g
  by None (Some m) e g = absurd (true≢false (sym e))
  by (Some l) p e g = tt

module _ (t : Tower) (stands : Stands t) where
  pub fitting-after : (z : ℤ) (n : ℕ) (c : List ℕ) → Fitting t n c → Fitting t n (after t.bottom z c)
  fitting-after z n c w = record { some = w.some; ring = ring-after t.bottom stands.bottom z c w.ring; size = length-after t.bottom z c ∙ w.size }

  pub after-encode : (k : ℤ) (n : ℕ) (c : List ℕ) → Fitting t n c → Goes t.bottom k
      → after t.top k (t.encode c) ≡ t.encode (rotate (t.drift *ℤ k) (after t.bottom (pos t.steps *ℤ k) c))
  after-encode (pos m) n c w g = power-encode t stands m n c w
  after-encode (negsuc m) n c w g =
      let k = negsuc m in
      let up = pos (suc m) in
      let back = pos t.steps *ℤ k in
      let forth = pos t.steps *ℤ up in
      let y = after t.bottom back c in
      let w_y = fitting-after back n c w in
      let d = rotate (t.drift *ℤ k) y in
      let w_d = fitting-rotate t stands (t.drift *ℤ k) n y w_y in
      let no_steps : forth +ℤ back ≡ pos 0 = omega (arith, ints) in
      let no_drift : t.drift *ℤ up +ℤ t.drift *ℤ k ≡ pos 0 = omega (arith, ints) in
      let forward : after t.bottom forth d ≡ rotate (t.drift *ℤ k) c =
      power-rotate t.bottom.forward (t.steps * suc m) (t.drift *ℤ k) y w_y.ring.some ∙
      ap (rotate (t.drift *ℤ k)) (after_undoes t.bottom stands.bottom forth back no_steps c w.ring tt (goes_any t.bottom m g back)) in
      let there : after t.top up (t.encode d) ≡ t.encode c =
      power-encode t stands (suc m) n d w_d ∙
      ap t.encode (ap (rotate (t.drift *ℤ up)) forward ∙ rotate-rotate (t.drift *ℤ up) (t.drift *ℤ k) c w.ring.some ∙ ap (λ z. rotate z c) no_drift ∙ rotate_zero c w.ring.some) in
      ap (after t.top k) (sym there) ∙
      after_undoes t.top stands.top k up (+ℤ_invl up) (t.encode d) (stands.ring_encode n d w_d) (goes_same t.top t.bottom stands.inverse k g) tt

  pub rotate-decode-after : (k : ℤ) (n : ℕ) (c : List ℕ) → Fitting t n c → Goes t.bottom k
      → rotate (neg_ℤ (t.drift *ℤ k)) (t.decode (after t.top k (t.encode c))) ≡ after t.bottom (pos t.steps *ℤ k) c
  rotate-decode-after k n c w g =
      let s = t.drift *ℤ k in
      let y = after t.bottom (pos t.steps *ℤ k) c in
      let w_y = fitting-after (pos t.steps *ℤ k) n c w in
      ap (λ d. rotate (neg_ℤ s) (t.decode d)) (after-encode k n c w g) ∙
      ap (rotate (neg_ℤ s)) (stands.decode_encode n (rotate s y) (fitting-rotate t stands s n y w_y)) ∙
      rotate-rotate (neg_ℤ s) s y w_y.ring.some ∙ ap (λ z. rotate z y) (+ℤ_invl s) ∙ rotate_zero y w_y.ring.some
