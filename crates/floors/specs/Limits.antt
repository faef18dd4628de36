-- The limits of actions.
use Rattle.std.specs.Prelude.{ℕ, ◌*◌, ℤ, negsuc}
use Rattle.rings.specs.Limits.{max_width}

-- The greatest argument of an action: so many cells in a block, so many steps at once.
abbrev pub max_argument : ℕ
max_argument = 16

-- The least argument of a shift, -16. (negsuc a is -1 - a.)
abbrev pub min_shift : ℤ
min_shift = negsuc 15

-- The most cells by which numbers are shifted: reduction takes an end of an interval to 0.
abbrev pub max_turn : ℕ
max_turn = 128

-- The most digits of a window.
abbrev pub max_digits : ℕ
max_digits = max_width * max_argument
