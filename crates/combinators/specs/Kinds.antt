-- The numbers of the rules that are made of other rules.
use Rattle.std.specs.Prelude.{ℕ}

-- The number of lifts.
abbrev pub lift_kind : ℕ
lift_kind = 0x0020

-- The number of choices.
abbrev pub choice_kind : ℕ
choice_kind = 0x0000
