-- Division of an integer by a natural number, rounded towards minus infinity.
use Rattle.std.specs.Prelude.{ℕ, ◌-◌, ◌/◌, ◌%◌, ℤ, pos, negsuc}

-- The quotient. (negsuc a is -1 - a.)
unfoldable pub floor_div : ℤ → ℕ → ℤ
floor_div (pos a) m = pos (a / m)
floor_div (negsuc a) m = negsuc (a / m)

-- The remainder, from 0 to m - 1.
unfoldable pub floor_mod : ℤ → ℕ → ℕ
floor_mod (pos a) m = a % m
floor_mod (negsuc a) m = m - 1 - a % m
