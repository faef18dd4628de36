-- The number of a floor.
use Rattle.std.specs.Prelude.{ℕ}

abbrev pub floor_kind : ℕ
floor_kind = 0x0030
