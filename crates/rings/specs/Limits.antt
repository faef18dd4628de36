-- The limits of rings and of automata.
use Rattle.std.specs.Prelude.{ℕ, Bool, ◌&&◌, ℤ, pos, negsuc, int_le, nat_le}
use Rattle.rings.specs.Local.{span}

-- The most cells of a ring.
abbrev pub max_cells : ℕ
max_cells = 2048

-- The most states of an automaton, 2 to the power 24.
abbrev pub max_states : ℕ
max_states = 16777216

-- The least end of an interval, -128, and the greatest. (negsuc a is -1 - a.)
abbrev pub min_end : ℤ
min_end = negsuc 127

abbrev pub max_end : ℤ
max_end = pos 128

-- The most cells of an interval.
abbrev pub max_width : ℕ
max_width = 64

-- The low end is not below the least, the high end not above the greatest, and the width is within its limit.
abbrev pub ends_fit : ℤ → ℤ → Bool
ends_fit lo hi = int_le min_end lo && (int_le hi max_end && nat_le (span lo hi) max_width)
