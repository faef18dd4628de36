-- The number of a tower without floors.
use Rattle.std.specs.Prelude.{ℕ}

abbrev pub ground_kind : ℕ
ground_kind = 0x0001
