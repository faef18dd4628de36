-- Lemmas on lines: windows, rotation, reflection, maps of lines, and what keeps a period.
use Rattle.std.proofs.Common.{◌≡◌, ℕ, zero, suc, ◌+◌, ◌-◌, ◌<◌, ◌≤◌, List, reverse, length, get_or, take, drop, ℤ, pos, negsuc, ◌+ℤ◌, ◌*ℤ◌, neg_ℤ, sym, ap, ◌∙◌, arith}
use mathlib.Core.Path.{fun_ext}
use lib.IntN.{+ℤ_assoc}
use Rattle.std.proofs.lemmas.List.FromFn.{length-map-range_with_len, get_or-map-range_with_len, fill_by_all}
use Rattle.std.proofs.lemmas.List.{get_or-take, get_or-drop, get_or-reverse, length-take, length-drop, length-reverse}
use Rattle.std.proofs.lemmas.Int.{ints}
use Rattle.rings.specs.Integers.{floor_div, floor_mod}
use Rattle.rings.specs.Line.{Line, tabulate, window, rotate_line, reflect_line, Periodic}
use Rattle.rings.specs.Local.{map_windows}
use Rattle.rings.proofs.Integers.{floor_div_mod}

-- tabulated lists

pub length-tabulate : (f : ℕ → ℕ) (n : ℕ) → length (tabulate f n) ≡ n
unfolding tabulate
length-tabulate f n = length-map-range_with_len f 0 n

pub slice_index-tabulate : (f : ℕ → ℕ) (n i : ℕ) → i < n → get_or (tabulate f n) i 0 ≡ f i
unfolding tabulate
slice_index-tabulate f n i h = get_or-map-range_with_len f 0 n i i 0 h (omega arith)

pub is_tabulate : (f : ℕ → ℕ) (n : ℕ) (xs : List ℕ) → length xs ≡ n → ((i : ℕ) → i < n → get_or xs i 0 ≡ f i) → xs ≡ tabulate f n
unfolding tabulate
is_tabulate f n xs e h = fill_by_all f xs n 0 e h

pub tabulate-same : (f g : ℕ → ℕ) (n : ℕ) → ((i : ℕ) → i < n → f i ≡ g i) → tabulate f n ≡ tabulate g n
tabulate-same f g n h = is_tabulate g n (tabulate f n) (length-tabulate f n) (λ i l. slice_index-tabulate f n i l ∙ h i l)

pub reverse-tabulate : (f : ℕ → ℕ) (n : ℕ) → reverse (tabulate f n) ≡ tabulate (λ i. f (n - 1 - i)) n
reverse-tabulate f n =
    is_tabulate (λ i. f (n - 1 - i)) n (reverse (tabulate f n)) (length-reverse (tabulate f n) ∙ length-tabulate f n)
    (λ i l. let s : i < length (tabulate f n) = rw (length-tabulate f n) l in
    get_or-reverse (tabulate f n) i 0 s ∙ ap (λ k. get_or (tabulate f n) (k - 1 - i) 0) (length-tabulate f n) ∙ slice_index-tabulate f n (n - 1 - i) (omega arith))

-- windows

pub window_same : (x y : Line) (p r : ℤ) (w : ℕ) → ((j : ℕ) → j < w → x (p +ℤ pos j) ≡ y (r +ℤ pos j)) → window x p w ≡ window y r w
window_same x y p r w h = tabulate-same (λ j. x (p +ℤ pos j)) (λ j. y (r +ℤ pos j)) w h

-- a part of a window is a window
pub part_of_window : (x : Line) (p : ℤ) (n j w : ℕ) → j + w ≤ n → take w (drop j (window x p n)) ≡ window x (p +ℤ pos j) w
part_of_window x p n j w fits =
    is_tabulate (λ i. x ((p +ℤ pos j) +ℤ pos i)) w (take w (drop j (window x p n)))
    (simp (length-take, length-drop, length-tabulate) (omega arith))
    (λ i l. get_or-take w (drop j (window x p n)) i 0 l ∙ get_or-drop j (window x p n) i 0 ∙ slice_index-tabulate (λ k. x (p +ℤ pos k)) n (j + i) (omega arith) ∙ ap x (omega (arith, ints)))

-- rotation and reflection

pub rotate_line-rotate_line : (s t : ℤ) (x : Line) → rotate_line s (rotate_line t x) ≡ rotate_line (s +ℤ t) x
rotate_line-rotate_line s t x = fun_ext (λ i. ap x (+ℤ_assoc i s t))

pub rotate_line_zero : (x : Line) → rotate_line (pos 0) x ≡ x
rotate_line_zero x = fun_ext (λ i. ap x (omega (arith, ints)))

pub reflect_line-reflect_line : (x : Line) → reflect_line (reflect_line x) ≡ x
reflect_line-reflect_line x = fun_ext (λ i. ap x (omega (arith, ints)))

pub rotate_line-reflect_line : (s : ℤ) (x : Line) → rotate_line s (reflect_line x) ≡ reflect_line (rotate_line (neg_ℤ s) x)
rotate_line-reflect_line s x = fun_ext (λ i. ap x (omega (arith, ints)))

-- a map of windows commutes with every rotation
pub map_windows-rotate_line : (f : List ℕ → ℕ) (lo : ℤ) (w : ℕ) (s : ℤ) (x : Line) → map_windows f lo w (rotate_line s x) ≡ rotate_line s (map_windows f lo w x)
map_windows-rotate_line f lo w s x = fun_ext (λ i. ap f (window_same (rotate_line s x) x (i +ℤ lo) (i +ℤ s +ℤ lo) w (λ j l. ap x (omega (arith, ints)))))

-- periods

pub periodic_rotate_line : (n : ℕ) (s : ℤ) (x : Line) → Periodic n x → Periodic n (rotate_line s x)
periodic_rotate_line n s x e =
    let swap : rotate_line (pos n) (rotate_line s x) ≡ rotate_line s (rotate_line (pos n) x) = fun_ext (λ i. ap x (omega (arith, ints))) in
    swap ∙ ap (rotate_line s) e

pub periodic_reflect_line : (n : ℕ) (x : Line) → Periodic n x → Periodic n (reflect_line x)
periodic_reflect_line n x e =
    let back : rotate_line (neg_ℤ (pos n)) (rotate_line (pos n) x) ≡ x = fun_ext (λ i. ap x (omega (arith, ints))) in
    rotate_line-reflect_line (pos n) x ∙ ap reflect_line (ap (rotate_line (neg_ℤ (pos n))) (sym e) ∙ back)

pub periodic_map_windows : (n : ℕ) (f : List ℕ → ℕ) (lo : ℤ) (w : ℕ) (x : Line) → Periodic n x → Periodic n (map_windows f lo w x)
periodic_map_windows n f lo w x e = sym (map_windows-rotate_line f lo w (pos n) x) ∙ ap (map_windows f lo w) e

pub periodic_times : (n : ℕ) (x : Line) → Periodic n x → (k : ℤ) (r : ℤ) → x (k *ℤ pos n +ℤ r) ≡ x r
periodic_times n x e (pos zero) r = ap x (omega (arith, ints))
periodic_times n x e (pos (suc k)) r =
    ap x (omega (arith, ints)) ∙ ap (λ (y : Line). y (pos k *ℤ pos n +ℤ r)) e ∙ periodic_times n x e (pos k) r
periodic_times n x e (negsuc zero) r =
    sym (ap (λ (y : Line). y (negsuc 0 *ℤ pos n +ℤ r)) e) ∙ ap x (omega (arith, ints))
periodic_times n x e (negsuc (suc k)) r =
    sym (ap (λ (y : Line). y (negsuc (suc k) *ℤ pos n +ℤ r)) e) ∙ ap x (omega (arith, ints)) ∙ periodic_times n x e (negsuc k) r

pub periodic_floor_mod : (n : ℕ) (x : Line) → 1 ≤ n → Periodic n x → (z : ℤ) → x z ≡ x (pos (floor_mod z n))
periodic_floor_mod n x p e z = ap x (floor_div_mod z n p) ∙ periodic_times n x e (floor_div z n) (pos (floor_mod z n))
