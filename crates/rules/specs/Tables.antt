-- Automata given by a table of entries.
use Rattle.std.specs.Prelude.{ℕ, ◌+◌, ◌*◌, ◌^◌, Bool, cond, ◌&&◌, List, [], ◌∷◌, length, take, ℤ, Some, None, Option, ◌==◌, int_le, nat_le, slice_index}
use Rattle.std.specs.Option.{option_map}
use Rattle.rings.specs.Limits.{ends_fit}
use Rattle.rings.specs.Ring.{first_stray}
use Rattle.rings.specs.Local.{span}
use Rattle.rings.specs.Automaton.{Automaton}
use Rattle.rules.specs.declared.Shape.{Shape}
use Rattle.rules.specs.declared.fault.RuleFault.{RuleFault}
use Rattle.rules.specs.declared.fault.RuleFault.TheVariants.{WrongLength, OutOfRange, BadEntry}

-- The index of a window's entry: of w cells, cell j counts q to the power w - 1 - j.
unfoldable pub entry_index : ℕ → List ℕ → ℕ
entry_index q [] = 0
entry_index q (x ∷ xs) = x * q ^ length xs + entry_index q xs

-- The automaton with q states and the interval from lo to hi whose local function reads these entries. It has no inverse.
abbrev pub table : ℕ → ℤ → ℤ → List ℕ → Automaton
table q lo hi entries = record {
  states = q;
  forward = record { lo = lo; hi = hi; value = λ ws. slice_index entries (entry_index q ws) };
  inverse = None;
}

-- The most states of a table.
abbrev pub max_table_states : ℕ
max_table_states = 1024

-- The most entries of a table.
abbrev pub max_entries : ℕ
max_entries = 1024

-- The interval of a rule: its ends are in order and within their limits.
abbrev pub interval_fits : ℤ → ℤ → Bool
interval_fits lo hi = int_le lo hi && ends_fit lo hi

-- The sizes of a table: its states, the interval of a rule, and its entries.
abbrev pub table_fits : ℕ → ℤ → ℤ → Bool
table_fits q lo hi = nat_le 1 q && (nat_le q max_table_states && (interval_fits lo hi && nat_le (q ^ span lo hi) max_entries))

-- Why these parts make no table, if they make none: a size, then the number of entries, then the first entry that is no state.
abbrev pub table_fault : ℕ → ℤ → ℤ → List ℕ → Option RuleFault
table_fault q lo hi entries =
    cond (table_fits q lo hi)
    (cond (length entries == q ^ span lo hi) (option_map BadEntry (first_stray q entries)) (Some WrongLength))
    (Some OutOfRange)

-- The entries, which stand at the front of a table's store.
abbrev pub stored : Shape → List ℕ → List ℕ
stored s store = take (s.states ^ span s.lo s.hi) store

-- The automaton of a table of this shape with this store.
abbrev pub stored_table : Shape → List ℕ → Automaton
stored_table s store = table s.states s.lo s.hi (stored s store)
