-- The sizes of a machine, and their limits.
use Rattle.std.specs.Prelude.{ℕ, ◌*◌, Bool, ◌&&◌, nat_le}

-- The most symbols of a machine.
abbrev pub max_symbols : ℕ
max_symbols = 64

-- The most states of a head.
abbrev pub max_heads : ℕ
max_heads = 64

-- The most transitions of a machine.
abbrev pub max_transitions : ℕ
max_transitions = 512

-- The sizes of a machine: 1 to 64 symbols, 1 to 64 states of a head, and at most 512 transitions.
abbrev pub machine_fits : ℕ → ℕ → Bool
machine_fits a h = nat_le 1 a && (nat_le a max_symbols && (nat_le 1 h && (nat_le h max_heads && nat_le (a * h) max_transitions)))
