-- Lemmas on ring maps, from those on maps of lines.
use Rattle.std.proofs.Common.{◌≡◌, ℕ, zero, suc, ◌<◌, ◌≤◌, List, length, get_or, ℤ, pos, ◌+ℤ◌, neg_ℤ, sym, refl, ap, ◌∙◌, subst, ap₂, arith}
use lib.IntN.{+ℤ_invl}
use Rattle.rings.specs.Line.{Line, window, rotate_line, Below, power}
use Rattle.rings.specs.Ring.{at, Codes, Ring, rotate}
use Rattle.rings.specs.Local.{Local, width, line_map, ring_map, Closed, Undoes, CommutesWithRotation}
use Rattle.rings.proofs.Line.{length-tabulate, slice_index-tabulate, map_windows-rotate_line, periodic_map_windows}
use Rattle.rings.proofs.Ring.{at_cut, cut_at, same-ring, periodic_at, below_at, length_cut, slice_index-cut, ring_cut, length-rotate, at-rotate}

-- windows of a ring

pub length-window : (x : Line) (p : ℤ) (w : ℕ) → length (window x p w) ≡ w
length-window x p w = length-tabulate (λ j. x (p +ℤ pos j)) w

pub codes-window : (q : ℕ) (x : Line) (p : ℤ) (w : ℕ) → Below q x → Codes q (window x p w)
codes-window q x p w b k h =
    let s : k < w = rw (length-window x p w) at h in
    rw (slice_index-tabulate (λ j. x (p +ℤ pos j)) w k s) (b (p +ℤ pos k))

-- the ring map

pub length-ring_map : (l : Local) (c : List ℕ) → length (ring_map l c) ≡ length c
unfolding ring_map
length-ring_map l c = length_cut (length c) (line_map l (at c))

pub slice_index-ring_map : (l : Local) (c : List ℕ) (i : ℕ) → i < length c → get_or (ring_map l c) i 0 ≡ l.value (window (at c) (pos i +ℤ l.lo) (width l))
unfolding ring_map
slice_index-ring_map l c i h = slice_index-cut (length c) (line_map l (at c)) i h

pub at-ring_map : (l : Local) (c : List ℕ) → 1 ≤ length c → at (ring_map l c) ≡ line_map l (at c)
unfolding ring_map
at-ring_map l c h = at_cut (length c) (line_map l (at c)) h (periodic_map_windows (length c) l.value l.lo (width l) (at c) (periodic_at c h))

pub ring_map-rotate : (l : Local) → CommutesWithRotation l
ring_map-rotate l s c h =
    let n : 1 ≤ length (rotate s c) = omega (arith, length-rotate s c) in
    let k : 1 ≤ length (ring_map l c) = omega (arith, length-ring_map l c) in
    same-ring (ring_map l (rotate s c)) (rotate s (ring_map l c)) (length-ring_map l (rotate s c) ∙ length-rotate s c ∙ sym (length-rotate s (ring_map l c) ∙ length-ring_map l c))
    (at-ring_map l (rotate s c) n ∙ ap (line_map l) (at-rotate s c h) ∙ map_windows-rotate_line l.value l.lo (width l) s (at c) ∙ sym (at-rotate s (ring_map l c) k ∙ ap (rotate_line s) (at-ring_map l c h)))

-- rings stay rings

pub below_line_map : (q : ℕ) (l : Local) → Closed q l → (x : Line) → Below q x → Below q (line_map l x)
below_line_map q l closed x b i = closed (window x (i +ℤ l.lo) (width l)) (length-window x (i +ℤ l.lo) (width l)) (codes-window q x (i +ℤ l.lo) (width l) b)

-- a window is the first cells of the line that repeats it
line_map-at : (l : Local) (ws : List ℕ) → length ws ≡ width l → line_map l (at ws) (neg_ℤ l.lo) ≡ l.value ws
line_map-at l ws e = ap l.value (ap₂ (window (at ws)) (+ℤ_invl l.lo) (sym e) ∙ cut_at ws)

-- the converse of below_line_map
pub closed-line_map : (q : ℕ) (l : Local) → ((x : Line) → Below q x → Below q (line_map l x)) → Closed q l
closed-line_map q l keeps ws e codes =
    let r : Ring q ws = record { some = omega arith; codes = codes } in
    subst (λ v. v < q) (line_map-at l ws e) (keeps (at ws) (below_at q ws r) (neg_ℤ l.lo))

pub ring-ring_map : (q : ℕ) (l : Local) → Closed q l → (c : List ℕ) → Ring q c → Ring q (ring_map l c)
unfolding ring_map
ring-ring_map q l closed c r = ring_cut q (length c) (line_map l (at c)) r.some (below_line_map q l closed (at c) (below_at q c r))

-- many steps

pub power_out : {X : Type 0} (f : X → X) (n : ℕ) (x : X) → power f n (f x) ≡ f (power f n x)
unfolding power
power_out f zero x = refl
power_out f (suc n) x = power_out f n (f x)

pub length-power : (l : Local) (n : ℕ) (c : List ℕ) → length (power (ring_map l) n c) ≡ length c
unfolding power
length-power l zero c = refl
length-power l (suc n) c = length-power l n (ring_map l c) ∙ length-ring_map l c

pub at-power : (l : Local) (n : ℕ) (c : List ℕ) → 1 ≤ length c → at (power (ring_map l) n c) ≡ power (line_map l) n (at c)
unfolding power
at-power l zero c h = refl
at-power l (suc n) c h =
    let k : 1 ≤ length (ring_map l c) = omega (arith, length-ring_map l c) in
    at-power l n (ring_map l c) k ∙ ap (power (line_map l) n) (at-ring_map l c h)

pub power-rotate : (l : Local) (n : ℕ) (s : ℤ) (c : List ℕ) → 1 ≤ length c → power (ring_map l) n (rotate s c) ≡ rotate s (power (ring_map l) n c)
unfolding power
power-rotate l zero s c h = refl
power-rotate l (suc n) s c h =
    let k : 1 ≤ length (ring_map l c) = omega (arith, length-ring_map l c) in
    ap (power (ring_map l) n) (ring_map-rotate l s c h) ∙ power-rotate l n s (ring_map l c) k

pub below_power : (q : ℕ) (l : Local) → Closed q l → (n : ℕ) (x : Line) → Below q x → Below q (power (line_map l) n x)
unfolding power
below_power q l closed zero x b = b
below_power q l closed (suc n) x b = below_power q l closed n (line_map l x) (below_line_map q l closed x b)

pub ring-power : (q : ℕ) (l : Local) → Closed q l → (n : ℕ) (c : List ℕ) → Ring q c → Ring q (power (ring_map l) n c)
unfolding power
ring-power q l closed zero c r = r
ring-power q l closed (suc n) c r = ring-power q l closed n (ring_map l c) (ring-ring_map q l closed c r)

pub power_undoes : (q : ℕ) (g f : Local) → Closed q f → Undoes q g f → (n : ℕ) (c : List ℕ) → Ring q c → power (ring_map g) n (power (ring_map f) n c) ≡ c
unfolding power
power_undoes q g f closed u zero c r = refl
power_undoes q g f closed u (suc n) c r =
    ap (λ d. power (ring_map g) n (ring_map g d)) (power_out (ring_map f) n c) ∙ ap (power (ring_map g) n) (u (power (ring_map f) n c) (ring-power q f closed n c r)) ∙ power_undoes q g f closed u n c r
