-- Comparisons, counted.
use Rattle.std.specs.Prelude.{ℕ, ◌+◌, ◌^◌, ◌-◌, min, Bool, true, false}
use Rattle.comparisons.specs.declared.Totals.{Totals}

-- A number, or the greatest that a total can be.
abbrev pub at_most : ℕ → ℕ
at_most n = min n (2 ^ 32 - 1)

-- The totals with one more comparison.
abbrev pub counted : Bool → Totals → Totals
counted true t = record t { same = at_most (t.same + 1) }
counted false t = record t { different = at_most (t.different + 1) }

-- How many comparisons there were.
abbrev pub sum_of : Totals → ℕ
sum_of t = at_most (t.same + t.different)
