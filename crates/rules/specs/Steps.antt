-- Words for the inner functions of the calls that apply a rule.
use Rattle.std.specs.Prelude.{◌≡◌, ℕ, List, length, take, drop, Some, None, Option, MatchOption}
use Rattle.rings.specs.Ring.{Codes}
use Rattle.rings.specs.Local.{Local, width}

-- The value of a local function at a window; without a function it is 0.
abbrev pub value_of : Option Local → List ℕ → ℕ
value_of None ws = 0
value_of (Some l) ws = l.value ws

-- There is a local function, and the window is one of its windows.
abbrev pub Reads : ℕ → Option Local → List ℕ → Type 0
Reads q o ws = MatchOption o ⊥ (λ l. (length ws ≡ width l) × Codes q ws)

-- The w cells of a list from the place i on.
abbrev pub part : List ℕ → ℕ → ℕ → List ℕ
part cells i w = take w (drop i cells)
