-- Packing: each block of m cells becomes one cell, whose code has the codes of the block as its digits in base q.
use Rattle.std.specs.Prelude.{ℕ, zero, suc, ◌+◌, ◌*◌, ◌/◌, ◌%◌, ◌^◌, List, length, pos, ◌+ℤ◌, ◌*ℤ◌}
use Rattle.rings.specs.Integers.{floor_div, floor_mod}
use Rattle.rings.specs.Line.{Line}
use Rattle.rings.specs.Ring.{at, cut}

-- numbers and their digits

-- The number with the m digits f 0, .., f (m - 1) in base q: the sum of f j × q ^ j over j below m.
unfoldable pub number : ℕ → (ℕ → ℕ) → ℕ → ℕ
number q f zero = 0
number q f (suc m) = number q f m + f m * q ^ m

-- The digit of a number v in base q that counts q ^ j.
abbrev pub digit : ℕ → ℕ → ℕ → ℕ
digit q v j = v / q ^ j % q

-- lines

-- The packed line: cell i has the digits x (i × m), .., x (i × m + m - 1), where x is the line.
abbrev pub pack_line : ℕ → ℕ → Line → Line
pack_line q m x i = number q (λ j. x (i *ℤ pos m +ℤ pos j)) m

-- The line whose packed line is y: cell i is the digit i modulo m of the code at ⌊i / m⌋.
abbrev pub unpack_line : ℕ → ℕ → Line → Line
unpack_line q m y i = digit q (y (floor_div i m)) (floor_mod i m)

-- rings

-- The ring of the blocks of m cells of a ring: block i has the code Σ c (i × m + j) × q ^ j over j below m.
unfoldable pub blocks : ℕ → ℕ → List ℕ → List ℕ
blocks q m c = cut (length c / m) (pack_line q m (at c))

-- The ring whose blocks of m cells have these codes.
unfoldable pub unblocks : ℕ → ℕ → List ℕ → List ℕ
unblocks q m c = cut (length c * m) (unpack_line q m (at c))
