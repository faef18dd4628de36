-- Local functions with the interval of cells that they read, and their maps of rings.
use Rattle.std.specs.Prelude.{◌≡◌, ℕ, suc, ◌<◌, ◌≤◌, List, length, ℤ, ◌+ℤ◌, ◌-ℤ◌, unsigned_abs}
use Rattle.rings.specs.Line.{Line, window}
use Rattle.rings.specs.Ring.{at, cut, Codes, Ring, rotate}

-- A local function: the next code of a cell, from the window of the cells lo to hi beside it.
pub record Local : Type 0 where
  pub lo : ℤ
  pub hi : ℤ
  pub value : List ℕ → ℕ

-- How many cells the interval from lo to hi has.
abbrev pub span : ℤ → ℤ → ℕ
span lo hi = suc (unsigned_abs (hi -ℤ lo))

abbrev pub width : Local → ℕ
width l = span l.lo l.hi

-- A function f of windows of w cells, the first of them at lo, done at every cell of a line.
abbrev pub map_windows : (List ℕ → ℕ) → ℤ → ℕ → Line → Line
map_windows f lo w x i = f (window x (i +ℤ lo) w)

-- The local function done at every cell of a line.
abbrev pub line_map : Local → Line → Line
line_map l = map_windows l.value l.lo (width l)

-- The ring map: the local function done at every cell of a ring.
unfoldable pub ring_map : Local → List ℕ → List ℕ
ring_map l c = cut (length c) (line_map l (at c))

-- The local function takes windows of codes below q to codes below q.
abbrev pub Closed : ℕ → Local → Type 0
Closed q l = (ws : List ℕ) → length ws ≡ width l → Codes q ws → l.value ws < q

-- The ring map of g undoes that of f, on every ring.
abbrev pub Undoes : ℕ → Local → Local → Type 0
Undoes q g f = (c : List ℕ) → Ring q c → ring_map g (ring_map f c) ≡ c

-- The ring map commutes with every rotation.
abbrev pub CommutesWithRotation : Local → Type 0
CommutesWithRotation l = (s : ℤ) (c : List ℕ) → 1 ≤ length c → ring_map l (rotate s c) ≡ rotate s (ring_map l c)
