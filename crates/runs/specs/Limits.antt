-- The limits of a run.
use Rattle.std.specs.Prelude.{ℕ}

-- The most steps that one call makes.
abbrev pub max_count : ℕ
max_count = 65536

-- The most steps that a run goes, either way.
abbrev pub max_steps : ℕ
max_steps = 1000000000
