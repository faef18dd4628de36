-- Rings: lists of codes, indexed modulo their length.
use Rattle.std.specs.Prelude.{ℕ, ◌+◌, ◌<◌, ◌≤◌, cond, List, [], ◌∷◌, length, take, ℤ, pos, Some, None, Option, ◌==◌, nat_lt, slice_index}
use Rattle.rings.specs.Integers.{floor_mod}
use Rattle.rings.specs.Line.{Line, window, rotate_line, reflect_line}

-- The cell of a ring at any integer: the line that repeats the ring.
abbrev pub at : List ℕ → Line
at c z = slice_index c (floor_mod z (length c))

-- The first n cells of a line, from 0 on.
abbrev pub cut : ℕ → Line → List ℕ
cut n x = window x (pos 0) n

-- The index of the cell that lies z cells after the first one of a ring of n cells; none where there is no cell.
abbrev pub cell_at : ℤ → ℕ → Option ℕ
cell_at z n = cond (n == 0) None (Some (floor_mod z n))

-- Every code of the list is below q.
abbrev pub Codes : ℕ → List ℕ → Type 0
Codes q c = (k : ℕ) → k < length c → slice_index c k < q

-- A ring of an automaton with q states: at least one cell, and only codes below q.
pub record Ring (q : ℕ) (c : List ℕ) : Type 0 where
  pub some : 1 ≤ length c
  pub codes : Codes q c

-- The ring turned by s cells, the other way round where s is negative.
unfoldable pub rotate : ℤ → List ℕ → List ℕ
rotate s c = cut (length c) (rotate_line s (at c))

-- The mirror image of a ring: cell i is what cell n - 1 - i was.
unfoldable pub reflect : List ℕ → List ℕ
reflect c = cut (length c) (reflect_line (at c))

-- The index of the first code of q or more, where the cells are counted from i on.
abbrev pub stray_from : ℕ → ℕ → List ℕ → Option ℕ
stray_from i q [] = None
stray_from i q (x ∷ xs) = cond (nat_lt x q) (stray_from (i + 1) q xs) (Some i)

-- The index of the first stray code, one of q or more; none if every code is below q.
abbrev pub first_stray : ℕ → List ℕ → Option ℕ
first_stray q c = stray_from 0 q c

-- What the index of a first stray cell is: it is inside, its code is stray, and no code before it is.
pub record StrayAt (q : ℕ) (c : List ℕ) (i : ℕ) : Type 0 where
  pub inside : i < length c
  pub stray : q ≤ slice_index c i
  pub first : Codes q (take i c)

-- What it means that an index, or none, is that of the first stray code.
abbrev pub IsFirstStray : ℕ → List ℕ → Option ℕ → Type 0
IsFirstStray q c None = Codes q c
IsFirstStray q c (Some i) = StrayAt q c i
