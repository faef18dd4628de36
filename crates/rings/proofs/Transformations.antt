-- Lemmas on transformations: their ring maps in the subject's words, their intervals, and that they keep the laws of an automaton.
use Rattle.std.proofs.Common.{◌≡◌, ℕ, zero, suc, ◌+◌, ◌-◌, ◌*◌, ◌^◌, ◌<◌, ◌≤◌, List, reverse, length, get_or, take, drop, ℤ, pos, ◌+ℤ◌, ◌-ℤ◌, ◌*ℤ◌, neg_ℤ, nat_abs, ◌≤ℤ◌, IfSome, Some, None, Option, sym, ap, ◌∙◌, subst, ap₂, mul-le-mul_right, mul-pos, arith}
use mathlib.Core.Path.{fun_ext}
use lib.IntN.{+ℤ_invl, +ℤ_invr}
use native.Mathlib.Nat.{one-le-pow}
use borrow.Author.Differences.{up, down, sum_is_lem, neg_is}
use Rattle.std.proofs.lemmas.Int.{ints}
use Rattle.std.specs.Option.{option_map}
use Rattle.rings.specs.Integers.{floor_div, floor_mod}
use Rattle.rings.specs.Line.{Line, tabulate, window, rotate_line, reflect_line, Below, power}
use Rattle.rings.specs.Ring.{at, Ring, rotate, reflect}
use Rattle.rings.specs.Local.{Local, width, map_windows, line_map, ring_map, Undoes}
use Rattle.rings.specs.Automaton.{Automaton, Proper, Inverse, Sound}
use Rattle.rings.specs.Packing.{pack_line, unpack_line, blocks, unblocks}
use Rattle.rings.specs.Transformations.{map_list_windows, iterate_value, pack_value, iterate_local, shift_local, mirror_local, pack_local, iterate, shift, mirror, pack}
use Rattle.rings.proofs.Integers.{times_sum, floor_mod_lt, floor_div_mod, floor_div_le}
use Rattle.rings.proofs.Line.{length-tabulate, slice_index-tabulate, tabulate-same, reverse-tabulate, window_same, part_of_window}
use Rattle.rings.proofs.Ring.{same-ring, length-rotate, at-rotate, rotate-rotate, rotate_zero, length-reflect, at-reflect, ring-reflect, reflect-reflect}
use Rattle.rings.proofs.Local.{length-ring_map, at-ring_map, ring_map-rotate, below_line_map, closed-line_map, ring-ring_map, length-power, at-power, below_power, power_undoes}
use Rattle.rings.proofs.Packing.{number_same, below_pack_line, below_unpack_line, length-unblocks, at-unblocks, ring-unblocks, unblocks-window, length-blocks, at-blocks, unblocks-blocks, blocks-unblocks}

-- iterate

pub width-iterate : (t : ℕ) (l : Local) → l.lo ≤ℤ l.hi → width (iterate_local t l) ≡ t * (width l - 1) + 1
width-iterate t l ordered =
    let d : l.hi ≡ l.lo +ℤ pos (width l - 1) = omega (arith, ints) in
    let e : l.hi *ℤ pos t -ℤ l.lo *ℤ pos t ≡ pos (t * (width l - 1)) = omega (arith, ints, ap (λ z. z *ℤ pos t) d, times_sum l.lo (pos (width l - 1)) t) in
    omega (arith, ap nat_abs e)

-- the triangle of applications over a window of a line
module _ (f : List ℕ → ℕ) (lo : ℤ) (w : ℕ) (some : 1 ≤ w) where
  map_list_windows-window : (x : Line) (p : ℤ) (k : ℕ) → map_list_windows f w (window x (p +ℤ lo) (k + (w - 1))) ≡ window (map_windows f lo w x) p k
  unfolding map_list_windows
  map_list_windows-window x p k =
      let n = k + (w - 1) in
      let e : length (window x (p +ℤ lo) n) + 1 - w ≡ k = omega (arith, length-tabulate (λ j. x (p +ℤ lo +ℤ pos j)) n) in
      ap (tabulate (λ j. f (take w (drop j (window x (p +ℤ lo) n))))) e ∙
      tabulate-same (λ j. f (take w (drop j (window x (p +ℤ lo) n)))) (λ j. map_windows f lo w x (p +ℤ pos j)) k
      (λ j l. ap f (part_of_window x (p +ℤ lo) n j w (omega arith) ∙ ap (λ z. window x z w) (omega (arith, ints))))

  power-window : (t : ℕ) (x : Line) (p : ℤ) (k : ℕ) → power (map_list_windows f w) t (window x (p +ℤ lo *ℤ pos t) (k + t * (w - 1))) ≡ window (power (map_windows f lo w) t x) p k
  unfolding power
  power-window zero x p k = ap₂ (window x) (omega (arith, ints)) (omega arith)
  power-window (suc t) x p k =
      ap (λ c. power (map_list_windows f w) t (map_list_windows f w c)) (ap₂ (window x) (omega (arith, ints)) (omega arith)) ∙
      ap (power (map_list_windows f w) t) (map_list_windows-window x (p +ℤ lo *ℤ pos t) (k + t * (w - 1))) ∙
      power-window t (map_windows f lo w x) p k

  map_windows-iterate : (t : ℕ) (x : Line) → map_windows (iterate_value f w t) (lo *ℤ pos t) (t * (w - 1) + 1) x ≡ power (map_windows f lo w) t x
  unfolding iterate_value
  map_windows-iterate t x = fun_ext (λ i.
      ap (λ n. get_or (power (map_list_windows f w) t (window x (i +ℤ lo *ℤ pos t) n)) 0 0) (omega arith) ∙
      ap (λ c. get_or c 0 0) (power-window t x i 1) ∙
      slice_index-tabulate (λ j. power (map_windows f lo w) t x (i +ℤ pos j)) 1 0 (omega arith) ∙
      ap (power (map_windows f lo w) t x) (omega (arith, ints)))

line_map-iterate : (t : ℕ) (l : Local) (x : Line) → l.lo ≤ℤ l.hi → line_map (iterate_local t l) x ≡ power (line_map l) t x
line_map-iterate t l x ordered =
    ap (λ w. map_windows (iterate_value l.value (width l) t) (l.lo *ℤ pos t) w x) (width-iterate t l ordered) ∙
    map_windows-iterate l.value l.lo (width l) (omega arith) t x

pub ring_map-iterate : (t : ℕ) (l : Local) (c : List ℕ) → l.lo ≤ℤ l.hi → 1 ≤ length c → ring_map (iterate_local t l) c ≡ power (ring_map l) t c
ring_map-iterate t l c ordered some =
    same-ring (ring_map (iterate_local t l) c) (power (ring_map l) t c) (length-ring_map (iterate_local t l) c ∙ sym (length-power l t c))
    (at-ring_map (iterate_local t l) c some ∙ line_map-iterate t l (at c) ordered ∙ sym (at-power l t c some))

-- shift

pub width-shift : (s : ℤ) (l : Local) → width (shift_local s l) ≡ width l
width-shift s l =
    let e : (l.hi +ℤ s) -ℤ (l.lo +ℤ s) ≡ l.hi -ℤ l.lo = omega (arith, ints) in
    ap (λ z. suc (nat_abs z)) e

line_map-shift : (s : ℤ) (l : Local) (x : Line) → line_map (shift_local s l) x ≡ rotate_line s (line_map l x)
line_map-shift s l x =
    ap (λ w. map_windows l.value (l.lo +ℤ s) w x) (width-shift s l) ∙
    fun_ext (λ i. ap l.value (window_same x x (i +ℤ (l.lo +ℤ s)) (i +ℤ s +ℤ l.lo) (width l) (λ j h. ap x (omega (arith, ints)))))

pub ring_map-shift : (s : ℤ) (l : Local) (c : List ℕ) → 1 ≤ length c → ring_map (shift_local s l) c ≡ rotate s (ring_map l c)
ring_map-shift s l c some =
    let k : 1 ≤ length (ring_map l c) = omega (arith, length-ring_map l c) in
    same-ring (ring_map (shift_local s l) c) (rotate s (ring_map l c)) (length-ring_map (shift_local s l) c ∙ sym (length-rotate s (ring_map l c) ∙ length-ring_map l c))
    (at-ring_map (shift_local s l) c some ∙ line_map-shift s l (at c) ∙ sym (at-rotate s (ring_map l c) k ∙ ap (rotate_line s) (at-ring_map l c some)))

-- mirror

pub width-mirror : (l : Local) → width (mirror_local l) ≡ width l
width-mirror l =
    let e : neg_ℤ l.lo -ℤ neg_ℤ l.hi ≡ l.hi -ℤ l.lo = omega (arith, ints) in
    ap (λ z. suc (nat_abs z)) e

line_map-mirror : (l : Local) (x : Line) → l.lo ≤ℤ l.hi → line_map (mirror_local l) x ≡ reflect_line (line_map l (reflect_line x))
line_map-mirror l x ordered =
    let end : l.hi +ℤ pos 1 ≡ l.lo +ℤ pos (width l) = omega (arith, ints) in
    ap (λ w. map_windows (λ ws. l.value (reverse ws)) (neg_ℤ l.hi) w x) (width-mirror l) ∙
    fun_ext (λ i. ap l.value (reverse-tabulate (λ j. x (i +ℤ neg_ℤ l.hi +ℤ pos j)) (width l) ∙ reversed l.lo l.hi (width l) end i)) where
      reversed : (lo hi : ℤ) (w : ℕ) → hi +ℤ pos 1 ≡ lo +ℤ pos w → (i : ℤ) → tabulate (λ j. x (i +ℤ neg_ℤ hi +ℤ pos (w - 1 - j))) w ≡ window (reflect_line x) (neg_ℤ (i +ℤ pos 1) +ℤ lo) w
      reversed lo hi w end i =
          tabulate-same (λ j. x (i +ℤ neg_ℤ hi +ℤ pos (w - 1 - j))) (λ j. reflect_line x (neg_ℤ (i +ℤ pos 1) +ℤ lo +ℤ pos j)) w (λ j h. ap x (omega (arith, ints)))

pub ring_map-mirror : (l : Local) (c : List ℕ) → l.lo ≤ℤ l.hi → 1 ≤ length c → ring_map (mirror_local l) c ≡ reflect (ring_map l (reflect c))
ring_map-mirror l c ordered some =
    let d = ring_map l (reflect c) in
    let n : 1 ≤ length (reflect c) = omega (arith, length-reflect c) in
    let k : 1 ≤ length d = omega (arith, length-ring_map l (reflect c)) in
    same-ring (ring_map (mirror_local l) c) (reflect d) (length-ring_map (mirror_local l) c ∙ sym (length-reflect d ∙ length-ring_map l (reflect c) ∙ length-reflect c))
    (at-ring_map (mirror_local l) c some ∙ line_map-mirror l (at c) ordered ∙ sym (at-reflect d k ∙ ap reflect_line (at-ring_map l (reflect c) n ∙ ap (line_map l) (at-reflect c some))))

-- pack

-- the unpacked window holds the windows of all cells of a block
pub pack_covers : (q m : ℕ) (l : Local) → 0 < m → l.lo ≤ℤ l.hi → m - 1 + floor_mod l.lo m + width l ≤ width (pack_local q m l) * m
pack_covers q m l positive ordered =
    by_parts (floor_div l.lo m) (floor_div (pos (m - 1) +ℤ l.hi) m) l.lo l.hi (floor_mod l.lo m) (floor_mod (pos (m - 1) +ℤ l.hi) m)
    (floor_div_mod l.lo m positive) (floor_div_mod (pos (m - 1) +ℤ l.hi) m positive) (floor_mod_lt (pos (m - 1) +ℤ l.hi) m positive) ordered where
      by_parts : (a b lo hi : ℤ) (r s : ℕ) → lo ≡ a *ℤ pos m +ℤ pos r → pos (m - 1) +ℤ hi ≡ b *ℤ pos m +ℤ pos s → s < m → lo ≤ℤ hi → m - 1 + r + suc (nat_abs (hi -ℤ lo)) ≤ suc (nat_abs (b -ℤ a)) * m
      by_parts a b lo hi r s e f h o =
          let big : up (b -ℤ a) ≤ nat_abs (b -ℤ a) + down (b -ℤ a) = omega (arith, ints) in
          omega (arith, ints, mul-le-mul_right m big, ap (λ k. k * m) (sum_is_lem b (neg_ℤ a)), ap (λ k. k * m) (neg_is a).0, ap (λ k. k * m) (neg_is a).1)

line_map-pack : (q m : ℕ) (l : Local) (y : Line) → 0 < m → l.lo ≤ℤ l.hi → line_map (pack_local q m l) y ≡ pack_line q m (line_map l (unpack_line q m y))
unfolding pack_value
line_map-pack q m l y positive ordered = fun_ext (λ i.
    let skip = floor_mod l.lo m in
    let base = i +ℤ floor_div l.lo m in
    let w = width (pack_local q m l) in
    let x = unpack_line q m y in
    number_same q m (λ j. l.value (take (width l) (drop (j + skip) (unblocks q m (window y base w))))) (λ j. line_map l x (i *ℤ pos m +ℤ pos j))
    (λ j h. ap l.value (ap (λ u. take (width l) (drop (j + skip) u)) (unblocks-window q m y base w positive) ∙
    part_of_window x (base *ℤ pos m) (w * m) (j + skip) (width l) (omega (arith, pack_covers q m l positive ordered)) ∙
    ap (λ z. window x z (width l)) (omega (arith, ints, times_sum i (floor_div l.lo m) m, floor_div_mod l.lo m positive)))))

pub ring_map-pack : (q m : ℕ) (l : Local) (c : List ℕ) → 0 < m → l.lo ≤ℤ l.hi → 1 ≤ length c → ring_map (pack_local q m l) c ≡ blocks q m (ring_map l (unblocks q m c))
ring_map-pack q m l c positive ordered some =
    let u = unblocks q m c in
    let n : 1 ≤ length u = omega (arith, length-unblocks q m c, mul-pos {m = length c} {n = m} some positive) in
    let size : length (ring_map l u) ≡ length c * m = length-ring_map l u ∙ length-unblocks q m c in
    same-ring (ring_map (pack_local q m l) c) (blocks q m (ring_map l u))
    (length-ring_map (pack_local q m l) c ∙ sym (length-blocks q m (length c) (ring_map l u) positive some size))
    (at-ring_map (pack_local q m l) c some ∙ line_map-pack q m l (at c) positive ordered ∙
    sym (at-blocks q m (length c) (ring_map l u) positive some size ∙ ap (pack_line q m) (at-ring_map l u n ∙ ap (line_map l) (at-unblocks q m c positive some))))

-- what keeps the laws of local functions

-- h takes proper local functions on q states to proper ones on r states, and if k undoes l, then g k undoes h l
record KeepsLaws (q r : ℕ) (h g : Local → Local) : Type 0 where
  proper : (l : Local) → Proper q l → Proper r (h l)
  undoes : (k l : Local) → Proper q k → Proper q l → Undoes q k l → Undoes r (g k) (h l)

keeps_iterate : (q t : ℕ) → KeepsLaws q q (iterate_local t) (iterate_local t)
keeps_iterate q t = record {
  proper = λ l p. record {
    ordered = ordered l.lo l.hi p.ordered;
    closed = closed-line_map q (iterate_local t l) (λ x b. subst (Below q) (sym (line_map-iterate t l x p.ordered)) (below_power q l p.closed t x b));
  };
  undoes = λ k l p r u c ring.
      let n : 1 ≤ length (power (ring_map l) t c) = omega (arith, ring.some, length-power l t c) in
      ap (ring_map (iterate_local t k)) (ring_map-iterate t l c r.ordered ring.some) ∙ ring_map-iterate t k (power (ring_map l) t c) p.ordered n ∙ power_undoes q k l r.closed u t c ring;
} where
  ordered : (a b : ℤ) → a ≤ℤ b → (a *ℤ pos t) ≤ℤ (b *ℤ pos t)
  ordered a b o = let h : up a + down b ≤ up b + down a = omega (arith, ints) in omega (arith, ints, mul-le-mul_right t h)

keeps_shift : (q : ℕ) (s t : ℤ) → t +ℤ s ≡ pos 0 → KeepsLaws q q (shift_local s) (shift_local t)
keeps_shift q s t back = record {
  proper = λ l p. record {
    ordered = let o = p.ordered in omega (arith, ints);
    closed = closed-line_map q (shift_local s l) (λ x b. subst (Below q) (sym (line_map-shift s l x)) (λ i. below_line_map q l p.closed x b (i +ℤ s)));
  };
  undoes = λ k l p r u c ring.
      let d = ring_map l c in
      let n : 1 ≤ length d = omega (arith, ring.some, length-ring_map l c) in
      let m : 1 ≤ length (rotate s d) = omega (arith, length-rotate s d) in
      ap (ring_map (shift_local t k)) (ring_map-shift s l c ring.some) ∙ ring_map-shift t k (rotate s d) m ∙
      ap (rotate t) (ring_map-rotate k s d n ∙ ap (rotate s) (u c ring)) ∙
      rotate-rotate t s c ring.some ∙ ap (λ z. rotate z c) back ∙ rotate_zero c ring.some;
}

keeps_mirror : (q : ℕ) → KeepsLaws q q mirror_local mirror_local
keeps_mirror q = record {
  proper = λ l p. record {
    ordered = let o = p.ordered in omega (arith, ints);
    closed = closed-line_map q (mirror_local l) (λ x b. subst (Below q) (sym (line_map-mirror l x p.ordered))
        (λ i. below_line_map q l p.closed (reflect_line x) (λ j. b (neg_ℤ (j +ℤ pos 1))) (neg_ℤ (i +ℤ pos 1))));
  };
  undoes = λ k l p r u c ring.
      let d = ring_map l (reflect c) in
      let n : 1 ≤ length d = omega (arith, ring.some, length-ring_map l (reflect c), length-reflect c) in
      let m : 1 ≤ length (reflect d) = omega (arith, length-reflect d) in
      ap (ring_map (mirror_local k)) (ring_map-mirror l c r.ordered ring.some) ∙ ring_map-mirror k (reflect d) p.ordered m ∙
      ap (λ y. reflect (ring_map k y)) (reflect-reflect d n) ∙ ap reflect (u (reflect c) (ring-reflect q c ring)) ∙ reflect-reflect c ring.some;
}

keeps_pack : (q m : ℕ) → 0 < q → 0 < m → KeepsLaws q (q ^ m) (pack_local q m) (pack_local q m)
keeps_pack q m states positive = record {
  proper = λ l p. record {
    ordered = let o = p.ordered in floor_div_le l.lo (pos (m - 1) +ℤ l.hi) m positive (omega (arith, ints));
    closed = closed-line_map (q ^ m) (pack_local q m l) (λ y b. subst (Below (q ^ m)) (sym (line_map-pack q m l y positive p.ordered))
        (below_pack_line q m (line_map l (unpack_line q m y)) (below_line_map q l p.closed (unpack_line q m y) (below_unpack_line q m y states))));
  };
  undoes = λ k l p r u c ring.
      let b = unblocks q m c in
      let ring_b : Ring q b = ring-unblocks q m c positive states ring.some in
      let d = ring_map l b in
      let size : length d ≡ length c * m = length-ring_map l b ∙ length-unblocks q m c in
      let n : length (blocks q m d) ≡ length c = length-blocks q m (length c) d positive ring.some size in
      ap (ring_map (pack_local q m k)) (ring_map-pack q m l c positive r.ordered ring.some) ∙
      ring_map-pack q m k (blocks q m d) positive p.ordered (omega (arith, ring.some)) ∙
      ap (λ y. blocks q m (ring_map k y)) (unblocks-blocks q m (length c) d positive ring.some size (ring-ring_map q l r.closed b ring_b)) ∙
      ap (blocks q m) (u b ring_b) ∙ blocks-unblocks q m c positive states ring;
}

-- what keeps the laws of automata

sound-by : (a : Automaton) (r : ℕ) (h g : Local → Local) → 1 ≤ r → KeepsLaws a.states r h g → KeepsLaws a.states r g h → Sound a
    → Sound (record { states = r; forward = h a.forward; inverse = option_map g a.inverse })
sound-by a r h g some keeps-h keeps-g s = record {
  some = some;
  forward = keeps-h.proper a.forward s.forward;
  inverse = inverts a.inverse s.inverse;
} where
  inverts : (o : Option Local) → IfSome o (Inverse a.states a.forward) → IfSome (option_map g o) (Inverse r (h a.forward))
  inverts None i = tt
  inverts (Some l) i = record {
    proper = keeps-g.proper l i.proper;
    after = keeps-h.undoes l a.forward i.proper s.forward i.after;
    before = keeps-g.undoes a.forward l s.forward i.proper i.before;
  }

pub sound-iterate : (t : ℕ) (a : Automaton) → Sound a → Sound (iterate t a)
sound-iterate t a s = sound-by a a.states (iterate_local t) (iterate_local t) s.some (keeps_iterate a.states t) (keeps_iterate a.states t) s

pub sound-shift : (t : ℤ) (a : Automaton) → Sound a → Sound (shift t a)
sound-shift t a s =
    sound-by a a.states (shift_local t) (shift_local (neg_ℤ t)) s.some (keeps_shift a.states t (neg_ℤ t) (+ℤ_invl t)) (keeps_shift a.states (neg_ℤ t) t (+ℤ_invr t)) s

pub sound-mirror : (a : Automaton) → Sound a → Sound (mirror a)
sound-mirror a s = sound-by a a.states mirror_local mirror_local s.some (keeps_mirror a.states) (keeps_mirror a.states) s

pub sound-pack : (m : ℕ) (a : Automaton) → 1 ≤ m → Sound a → Sound (pack m a)
sound-pack m a positive s =
    let keeps = keeps_pack a.states m s.some positive in
    sound-by a (a.states ^ m) (pack_local a.states m) (pack_local a.states m) (one-le-pow m a.states s.some) keeps keeps s
