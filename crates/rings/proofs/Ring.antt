-- Lemmas on rings, from those on lines: a ring is the first cells of the line that repeats it.
use Rattle.std.proofs.Common.{◌≡◌, ℕ, zero, suc, ◌+◌, ◌-◌, ◌%◌, ◌<◌, ◌≤◌, Bool, true, false, cond, ltb, List, [], ◌∷◌, reverse, length, get_or, take, drop, ℤ, pos, negsuc, ◌+ℤ◌, ◌*ℤ◌, neg_ℤ, Some, None, Option, sym, refl, ap, ◌∙◌, subst, ap₂, mod-eq_of_lt, zero-add, arith}
use mathlib.Core.Path.{fun_ext}
use Rattle.std.proofs.lemmas.List.{get_or-reverse, length-reverse, at_drop_more, at_drop_all}
use Rattle.std.proofs.lemmas.Int.{ints}
use Rattle.std.proofs.lemmas.Bool.{ne_eqb, lt-ltb, le-ltb, ltb-true, ltb-false}
use Rattle.rings.specs.Integers.{floor_div, floor_mod}
use Rattle.rings.specs.Line.{Line, rotate_line, reflect_line, Periodic, Below}
use Rattle.rings.specs.Ring.{at, cut, Codes, Ring, rotate, reflect, stray_from, first_stray, StrayAt, IsFirstStray, cell_at}
use Rattle.rings.proofs.Integers.{floor_mod_lt, floor_mod_turns, floor_div_mod, floor_mod_add}
use Rattle.rings.proofs.Line

-- a ring as a line, and back

pub at_cut : (n : ℕ) (x : Line) → 1 ≤ n → Periodic n x → at (cut n x) ≡ x
at_cut n x p e = fun_ext (λ z.
    ap (λ k. get_or (cut n x) (floor_mod z k) 0) (Line.length-tabulate (λ j. x (pos 0 +ℤ pos j)) n) ∙
    Line.slice_index-tabulate (λ j. x (pos 0 +ℤ pos j)) n (floor_mod z n) (floor_mod_lt z n p) ∙
    ap x (omega (arith, ints)) ∙ sym (Line.periodic_floor_mod n x p e z))

pub cut_at : (c : List ℕ) → cut (length c) (at c) ≡ c
unfolding floor_mod
cut_at c = sym (Line.is_tabulate (λ j. at c (pos 0 +ℤ pos j)) (length c) c refl (λ i l. ap (λ k. get_or c k 0) (sym (ap (λ k. k % length c) (omega arith) ∙ mod-eq_of_lt l))))

pub same-ring : (a b : List ℕ) → length a ≡ length b → at a ≡ at b → a ≡ b
same-ring a b e h = sym (cut_at a) ∙ ap₂ cut e h ∙ cut_at b

pub periodic_at : (c : List ℕ) → 1 ≤ length c → Periodic (length c) (at c)
periodic_at c p = fun_ext (λ z.
    let once : z +ℤ pos (length c) ≡ z +ℤ pos 1 *ℤ pos (length c) = omega (arith, ints) in
    ap (λ y. get_or c (floor_mod y (length c)) 0) once ∙ ap (λ k. get_or c k 0) (floor_mod_turns z (pos 1) (length c) p))

pub at_pos : (c : List ℕ) (i : ℕ) → i < length c → at c (pos i) ≡ get_or c i 0
unfolding floor_mod
at_pos c i h = ap (λ k. get_or c k 0) (mod-eq_of_lt h)

pub below_at : (q : ℕ) (c : List ℕ) → Ring q c → Below q (at c)
below_at q c r z = r.codes (floor_mod z (length c)) (floor_mod_lt z (length c) r.some)

pub length_cut : (n : ℕ) (x : Line) → length (cut n x) ≡ n
length_cut n x = Line.length-tabulate (λ j. x (pos 0 +ℤ pos j)) n

pub slice_index-cut : (n : ℕ) (x : Line) (i : ℕ) → i < n → get_or (cut n x) i 0 ≡ x (pos i)
slice_index-cut n x i h = Line.slice_index-tabulate (λ j. x (pos 0 +ℤ pos j)) n i h ∙ ap (λ k. x (pos k)) (zero-add i)

pub ring_cut : (q n : ℕ) (x : Line) → 1 ≤ n → Below q x → Ring q (cut n x)
ring_cut q n x h b = record {
  some = omega (arith, length_cut n x);
  codes = λ k l. let s : k < n = omega (arith, length_cut n x) in rw (slice_index-cut n x k s) (b (pos k));
}

-- rotation

pub length-rotate : (s : ℤ) (c : List ℕ) → length (rotate s c) ≡ length c
unfolding rotate
length-rotate s c = length_cut (length c) (rotate_line s (at c))

pub at-rotate : (s : ℤ) (c : List ℕ) → 1 ≤ length c → at (rotate s c) ≡ rotate_line s (at c)
unfolding rotate
at-rotate s c h = at_cut (length c) (rotate_line s (at c)) h (Line.periodic_rotate_line (length c) s (at c) (periodic_at c h))

pub ring-rotate : (q : ℕ) (s : ℤ) (c : List ℕ) → Ring q c → Ring q (rotate s c)
unfolding rotate
ring-rotate q s c r = ring_cut q (length c) (rotate_line s (at c)) r.some (λ i. below_at q c r (i +ℤ s))

pub rotate-rotate : (s t : ℤ) (c : List ℕ) → 1 ≤ length c → rotate s (rotate t c) ≡ rotate (s +ℤ t) c
rotate-rotate s t c h =
    let n : 1 ≤ length (rotate t c) = omega (arith, length-rotate t c) in
    same-ring (rotate s (rotate t c)) (rotate (s +ℤ t) c) (length-rotate s (rotate t c) ∙ length-rotate t c ∙ sym (length-rotate (s +ℤ t) c))
    (at-rotate s (rotate t c) n ∙ ap (rotate_line s) (at-rotate t c h) ∙ Line.rotate_line-rotate_line s t (at c) ∙ sym (at-rotate (s +ℤ t) c h))

pub rotate_zero : (c : List ℕ) → 1 ≤ length c → rotate (pos 0) c ≡ c
rotate_zero c h = same-ring (rotate (pos 0) c) c (length-rotate (pos 0) c) (at-rotate (pos 0) c h ∙ Line.rotate_line_zero (at c))

pub slice_index-rotate : (s : ℤ) (c : List ℕ) (i : ℕ) → i < length c → get_or (rotate s c) i 0 ≡ get_or c ((i + floor_mod s (length c)) % length c) 0
unfolding rotate
slice_index-rotate s c i h =
    let n = length c in
    let place : pos i +ℤ s ≡ floor_div s n *ℤ pos n +ℤ pos (i + floor_mod s n) = omega (arith, ints, floor_div_mod s n (omega arith)) in
    slice_index-cut n (rotate_line s (at c)) i h ∙ ap (λ z. get_or c (floor_mod z n) 0) place ∙ ap (λ j. get_or c j 0) (floor_mod_add (floor_div s n) n (i + floor_mod s n) (omega arith))

-- reflection

pub length-reflect : (c : List ℕ) → length (reflect c) ≡ length c
unfolding reflect
length-reflect c = length_cut (length c) (reflect_line (at c))

pub at-reflect : (c : List ℕ) → 1 ≤ length c → at (reflect c) ≡ reflect_line (at c)
unfolding reflect
at-reflect c h = at_cut (length c) (reflect_line (at c)) h (Line.periodic_reflect_line (length c) (at c) (periodic_at c h))

pub ring-reflect : (q : ℕ) (c : List ℕ) → Ring q c → Ring q (reflect c)
unfolding reflect
ring-reflect q c r = ring_cut q (length c) (reflect_line (at c)) r.some (λ i. below_at q c r (neg_ℤ (i +ℤ pos 1)))

pub reflect-reflect : (c : List ℕ) → 1 ≤ length c → reflect (reflect c) ≡ c
reflect-reflect c h =
    let n : 1 ≤ length (reflect c) = omega (arith, length-reflect c) in
    same-ring (reflect (reflect c)) c (length-reflect (reflect c) ∙ length-reflect c) (at-reflect (reflect c) n ∙ ap reflect_line (at-reflect c h) ∙ Line.reflect_line-reflect_line (at c))

pub rotate-reflect : (s : ℤ) (c : List ℕ) → 1 ≤ length c → rotate s (reflect c) ≡ reflect (rotate (neg_ℤ s) c)
rotate-reflect s c h =
    let n : 1 ≤ length (reflect c) = omega (arith, length-reflect c) in
    let k : 1 ≤ length (rotate (neg_ℤ s) c) = omega (arith, length-rotate (neg_ℤ s) c) in
    same-ring (rotate s (reflect c)) (reflect (rotate (neg_ℤ s) c)) (length-rotate s (reflect c) ∙ length-reflect c ∙ sym (length-reflect (rotate (neg_ℤ s) c) ∙ length-rotate (neg_ℤ s) c))
    (at-rotate s (reflect c) n ∙ ap (rotate_line s) (at-reflect c h) ∙ Line.rotate_line-reflect_line s (at c) ∙ sym (at-reflect (rotate (neg_ℤ s) c) k ∙ ap reflect_line (at-rotate (neg_ℤ s) c h)))

-- a mirror image is the list read from its end
pub reflect_is_reverse : (c : List ℕ) → reflect c ≡ reverse c
unfolding reflect floor_mod
reflect_is_reverse c = sym (Line.is_tabulate (λ j. reflect_line (at c) (pos 0 +ℤ pos j)) (length c) (reverse c) (length-reverse c)
    (λ i h. let e : neg_ℤ (pos 0 +ℤ pos i +ℤ pos 1) ≡ negsuc i = omega (arith, ints) in
    get_or-reverse c i 0 h ∙ ap (λ k. get_or c (length c - 1 - k) 0) (sym (mod-eq_of_lt h)) ∙ ap (at c) (sym e)))

-- the first stray code

codes_cons : (q x : ℕ) (xs : List ℕ) → x < q → Codes q xs → Codes q (x ∷ xs)
codes_cons q x xs h codes zero l = h
codes_cons q x xs h codes (suc k) l = codes k (omega arith)

-- the law of the first stray code where the cells are counted from i on
Found : ℕ → ℕ → List ℕ → Option ℕ → Type 0
Found i q c None = Codes q c
Found i q c (Some k) = (i ≤ k) × StrayAt q c (k - i)

found : (i q : ℕ) (c : List ℕ) → Found i q c (stray_from i q c)
unfolding Found
found i q [] = λ k l. absurd (omega arith)
found i q (x ∷ xs) = step (ltb x q) refl (found (i + 1) q xs) where
  later : (o : Option ℕ) → x < q → Found (i + 1) q xs o → Found i q (x ∷ xs) o
  later None h codes = codes_cons q x xs h codes
  later (Some k) h (l, s) =
      let e : k - i ≡ suc (k - (i + 1)) = omega arith in
      (omega arith, subst (StrayAt q (x ∷ xs)) (sym e) (record { inside = omega (arith, s.inside); stray = s.stray; first = codes_cons q x (take (k - (i + 1)) xs) h s.first }))

  step : (b : Bool) → ltb x q ≡ b → Found (i + 1) q xs (stray_from (i + 1) q xs) → Found i q (x ∷ xs) (cond b (stray_from (i + 1) q xs) (Some i))
  step true e rest = later (stray_from (i + 1) q xs) (ltb-true x q e) rest
  step false e rest =
      let z : i - i ≡ 0 = omega arith in
      (omega arith, subst (StrayAt q (x ∷ xs)) (sym z) (record { inside = omega arith; stray = ltb-false x q e; first = λ k l. absurd (omega arith) }))

pub is_first_stray : (q : ℕ) (c : List ℕ) → IsFirstStray q c (first_stray q c)
unfolding Found
is_first_stray q c = from (first_stray q c) (found 0 q c) where
  from : (o : Option ℕ) → Found 0 q c o → IsFirstStray q c o
  from None codes = codes
  from (Some k) (l, s) = let e : k - 0 ≡ k = omega arith in subst (StrayAt q c) e s

pub first_stray-codes : (i q : ℕ) (c : List ℕ) → Codes q c → stray_from i q c ≡ None
first_stray-codes i q [] codes = refl
first_stray-codes i q (x ∷ xs) codes = rw (lt-ltb x q (codes 0 (omega arith))) (first_stray-codes (i + 1) q xs (λ k l. codes (suc k) (omega arith)))

-- one more cell of a scan, and its end
pub stray_from-drop : (i q : ℕ) (c : List ℕ) → i < length c → get_or c i 0 < q → stray_from i q (drop i c) ≡ stray_from (i + 1) q (drop (i + 1) c)
stray_from-drop i q c h l = at_drop_more (stray_from i q) c i 0 h ∙ rw (lt-ltb (get_or c i 0) q l)

pub stray_from-found : (i q : ℕ) (c : List ℕ) → i < length c → q ≤ get_or c i 0 → stray_from i q (drop i c) ≡ Some i
stray_from-found i q c h l = at_drop_more (stray_from i q) c i 0 h ∙ rw (le-ltb (get_or c i 0) q l)

pub stray_from_end : (i q : ℕ) (c : List ℕ) → length c ≤ i → stray_from i q (drop i c) ≡ None
stray_from_end i q c h = at_drop_all (stray_from i q) c i h

-- in a ring that has a cell
pub cell_at-some : (z : ℤ) (n : ℕ) → 0 < n → cell_at z n ≡ Some (floor_mod z n)
cell_at-some z n h = rw (ne_eqb n 0 (λ e. omega (arith, e)))

-- the cell that is told
pub cell_at-is : (z : ℤ) (n i : ℕ) → 0 < n → Some i ≡ cell_at z n → i ≡ floor_mod z n
cell_at-is z n i some e = is (e ∙ cell_at-some z n some) where
  is : Some i ≡ Some (floor_mod z n) → i ≡ floor_mod z n
  is h = cc
