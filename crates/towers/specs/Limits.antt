-- The limits of towers.
use Rattle.std.specs.Prelude.{ℕ}

-- The most bottom cells in a top cell.
abbrev pub max_block : ℕ
max_block = 65536

-- The most bottom steps in a top step.
abbrev pub max_steps : ℕ
max_steps = 65536

-- The most cells by which a top step turns the bottom ring, either way.
abbrev pub max_drift : ℕ
max_drift = 16777216
