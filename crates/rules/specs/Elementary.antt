-- The elementary automata: two states, the cell and its two neighbours, numbered by Wolfram.
use Rattle.std.specs.Prelude.{◌≡◌, ℕ, ◌+◌, ◌*◌, ◌/◌, ◌%◌, ◌^◌, ◌<◌, List, length, pos, negsuc, ◌+ℤ◌, slice_index}
use Rattle.rings.specs.Line.{tabulate}
use Rattle.rings.specs.Ring.{at, Ring}
use Rattle.rings.specs.Local.{ring_map}
use Rattle.rings.specs.Automaton.{Automaton}
use Rattle.rules.specs.Tables.{table}

-- The bit of a number that counts 2 to the power i.
abbrev pub bit : ℕ → ℕ → ℕ
bit n i = n / 2 ^ i % 2

abbrev pub elementary : ℕ → Automaton
elementary n = table 2 (negsuc 0) (pos 1) (tabulate (bit n) 8)

-- Wolfram's numbering: at every cell of every ring, the next code is bit 4 left + 2 own + right of the number.
abbrev pub WolframNumbered : ℕ → Automaton → Type 0
WolframNumbered n a =
    (c : List ℕ) → Ring 2 c → (i : ℕ) → i < length c
    → slice_index (ring_map a.forward c) i ≡ bit n (4 * at c (pos i +ℤ negsuc 0) + 2 * at c (pos i) + at c (pos i +ℤ pos 1))
