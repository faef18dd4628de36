-- The number of a table.
use Rattle.std.specs.Prelude.{ℕ}

abbrev pub table_kind : ℕ
table_kind = 0x0010
