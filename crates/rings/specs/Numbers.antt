-- Powers up to a limit.
use Rattle.std.specs.Prelude.{ℕ, ◌^◌, if◌then◌else◌, Some, None, Option, nat_le}

-- The power, if it is at most the limit.
abbrev pub power_within : ℕ → ℕ → ℕ → Option ℕ
power_within base exponent limit = if nat_le (base ^ exponent) limit then Some (base ^ exponent) else None
