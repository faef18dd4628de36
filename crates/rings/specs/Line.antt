-- Lines: a code at every integer. A ring is studied as the line that repeats it.
use Rattle.std.specs.Prelude.{◌≡◌, ℕ, zero, suc, ◌<◌, List, map, ℤ, pos, ◌+ℤ◌, neg_ℤ}
use Rattle.std.specs.List.{range_with_len}

abbrev pub Line : Type 0
Line = ℤ → ℕ

-- The list f 0, .., f (n - 1).
unfoldable pub tabulate : (ℕ → ℕ) → ℕ → List ℕ
tabulate f n = map f (range_with_len 0 n)

-- The w cells of a line from the place p on.
abbrev pub window : Line → ℤ → ℕ → List ℕ
window x p w = tabulate (λ j. x (p +ℤ pos j)) w

-- The line turned by s cells: what stood at i + s stands at i.
abbrev pub rotate_line : ℤ → Line → Line
rotate_line s x i = x (i +ℤ s)

-- The mirror image of a line: what stood at -1 - i stands at i.
abbrev pub reflect_line : Line → Line
reflect_line x i = x (neg_ℤ (i +ℤ pos 1))

-- The line repeats itself after n cells.
abbrev pub Periodic : ℕ → Line → Type 0
Periodic n x = rotate_line (pos n) x ≡ x

-- Every code of the line is below q.
abbrev pub Below : ℕ → Line → Type 0
Below q x = (i : ℤ) → x i < q

-- A map done n times.
unfoldable pub power : {X : Type 0} → (X → X) → ℕ → X → X
power f zero x = x
power f (suc n) x = power f n (f x)
