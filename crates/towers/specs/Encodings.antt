-- What the calls that encode and decode a ring answer and write, and the laws of a tower for any number of steps.
use Rattle.std.specs.Prelude.{◌≡◌, ℕ, ◌*◌, ◌/◌, ◌%◌, cond, List, length, ℤ, pos, ◌*ℤ◌, neg_ℤ, Some, None, Option, Result, ◌==◌, nat_lt}
use Rattle.rings.specs.Limits.{max_cells}
use Rattle.rings.specs.Ring.{first_stray, rotate}
use Rattle.rings.specs.Automaton.{after, Goes}
use Rattle.rings.specs.Refusals.{outcome, unless_refused}
use Rattle.rules.specs.declared.fault.RuleFault.TheVariants.{EmptyRing, LongRing, StrayCode, ShortBuffer}
use Rattle.rules.specs.Maps.{written_over}
use Rattle.towers.specs.declared.fault.TowerFault.{TowerFault}
use Rattle.towers.specs.declared.fault.TowerFault.TheVariants.{Rule, Ragged}
use Rattle.towers.specs.Towers.{Tower, Fitting}

-- The first stray code, and else a buffer that has fewer than the cells needed.
abbrev pub stray_or_short : Option ℕ → ℕ → ℕ → Option TowerFault
stray_or_short (Some i) cells room = Some (Rule (StrayCode i))
stray_or_short None cells room = cond (nat_lt room cells) (Some (Rule ShortBuffer)) None

-- Why a bottom ring of codes below q is not encoded in blocks of m cells into a buffer of so many cells, if it is not: no cell, too many
-- cells, a number of cells that is not a multiple of the block, a stray code, a short buffer.
abbrev pub encode_fault : ℕ → ℕ → List ℕ → ℕ → Option TowerFault
encode_fault q m c room =
    cond (length c == 0) (Some (Rule EmptyRing))
    (cond (nat_lt max_cells (length c)) (Some (Rule LongRing))
    (cond (length c % m == 0) (stray_or_short (first_stray q c) (length c / m) room) (Some Ragged)))

-- Why a top ring of codes below q is not decoded into a buffer of so many cells, if it is not: no cell, too many bottom cells, a stray
-- code, a short buffer.
abbrev pub decode_fault : ℕ → ℕ → List ℕ → ℕ → Option TowerFault
decode_fault q m d room =
    cond (length d == 0) (Some (Rule EmptyRing))
    (cond (nat_lt max_cells (length d * m)) (Some (Rule LongRing))
    (stray_or_short (first_stray q d) (length d * m) room))

abbrev pub encode_answer : Tower → List ℕ → List ℕ → Result (Unit {0}) TowerFault
encode_answer t c buffer = outcome (encode_fault t.bottom.states t.block c (length buffer))

-- What the buffer holds afterwards: the encoded ring and the cells behind it, or all as before where the call is refused.
abbrev pub encode_buffer : Tower → List ℕ → List ℕ → List ℕ
encode_buffer t c buffer = unless_refused (encode_fault t.bottom.states t.block c (length buffer)) (written_over (t.encode c) buffer) buffer

abbrev pub decode_answer : Tower → List ℕ → List ℕ → Result (Unit {0}) TowerFault
decode_answer t d buffer = outcome (decode_fault t.top.states t.block d (length buffer))

abbrev pub decode_buffer : Tower → List ℕ → List ℕ → List ℕ
decode_buffer t d buffer = unless_refused (decode_fault t.top.states t.block d (length buffer)) (written_over (t.decode d) buffer) buffer

-- Why a top ring is not decoded and turned into a buffer of so many cells, if it is not: no cell, a stray code, a short buffer.
abbrev pub rotated_fault : ℕ → ℕ → List ℕ → ℕ → Option TowerFault
rotated_fault q m d room = cond (length d == 0) (Some (Rule EmptyRing)) (stray_or_short (first_stray q d) (length d * m) room)

abbrev pub rotated_answer : Tower → List ℕ → List ℕ → Result (Unit {0}) TowerFault
rotated_answer t d buffer = outcome (rotated_fault t.top.states t.block d (length buffer))

-- What the buffer holds afterwards: the decoded ring, turned by s cells, and the cells behind it.
abbrev pub rotated_buffer : Tower → List ℕ → ℤ → List ℕ → List ℕ
rotated_buffer t d s buffer = unless_refused (rotated_fault t.top.states t.block d (length buffer)) (written_over (rotate s (t.decode d)) buffer) buffer

-- The top after k steps from an encoded ring, for every integer k that the bottom can go: the encoding of what the bottom reaches in
-- k × T steps, turned by k × S cells. So decoding it and turning back shows what the bottom reaches.
pub record Simulates (t : Tower) : Type 0 where
  pub steps : (k : ℤ) (n : ℕ) (c : List ℕ) → Fitting t n c → Goes t.bottom k → after t.top k (t.encode c) ≡ t.encode (rotate (t.drift *ℤ k) (after t.bottom (pos t.steps *ℤ k) c))
  pub reading : (k : ℤ) (n : ℕ) (c : List ℕ) → Fitting t n c → Goes t.bottom k → rotate (neg_ℤ (t.drift *ℤ k)) (t.decode (after t.top k (t.encode c))) ≡ after t.bottom (pos t.steps *ℤ k) c
  pub apart : (j k : ℕ) (c d : List ℕ) → Fitting t j c → Fitting t k d → t.encode c ≡ t.encode d → c ≡ d
