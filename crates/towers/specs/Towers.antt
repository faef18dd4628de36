-- Towers: an automaton over another, by an encoding of rings, and the laws of a tower.
use Rattle.std.specs.Prelude.{◌≡◌, ℕ, ◌*◌, ◌^◌, ◌<◌, ◌≤◌, Bool, true, false, List, length, ℤ, pos, neg_ℤ, is_some, slice_index}
use Rattle.rings.specs.Line.{power}
use Rattle.rings.specs.Ring.{Ring, rotate}
use Rattle.rings.specs.Local.{ring_map}
use Rattle.rings.specs.Automaton.{Automaton, Sound}
use Rattle.rings.specs.Packing.{digit}

-- what a tower is

-- A top automaton over a bottom automaton, with an encoding of bottom rings as top rings.
-- A top cell holds `block` bottom cells, a top step is `steps` bottom steps, and it turns the bottom ring by `drift` cells.
-- In a mirrored tower the top ring runs the other way round.
-- Of a bottom ring of n cells, `place n j` is the top cell in which the bottom cell j stands, and as which digit in the base of the bottom's states.
pub record Tower : Type 0 where
  pub top : Automaton
  pub bottom : Automaton
  pub block : ℕ
  pub steps : ℕ
  pub drift : ℤ
  pub mirrored : Bool
  pub encode : List ℕ → List ℕ
  pub decode : List ℕ → List ℕ
  pub place : ℕ → ℕ → ℕ × ℕ

-- s, or -s in a mirrored tower.
abbrev pub signed : Bool → ℤ → ℤ
signed false s = s
signed true s = neg_ℤ s

-- A ring of codes below q that has k blocks of m cells.
pub record InBlocks (q m k : ℕ) (c : List ℕ) : Type 0 where
  pub some : 1 ≤ k
  pub ring : Ring q c
  pub size : length c ≡ k * m

-- A bottom ring of fitting length: it has the cells of k top cells.
abbrev pub Fitting : Tower → ℕ → List ℕ → Type 0
Fitting t k c = InBlocks t.bottom.states t.block k c

-- The code v stands in a ring d of k cells: in the cell p.0, and there as the digit p.1 of m digits in base q.
pub record DigitAt (q m k : ℕ) (d : List ℕ) (p : ℕ × ℕ) (v : ℕ) : Type 0 where
  pub cell : p.0 < k
  pub place : p.1 < m
  pub code : digit q (slice_index d p.0) p.1 ≡ v

-- The code of the bottom cell j of c stands in the encoded ring of k cells where `place` says.
abbrev pub Found : Tower → ℕ → List ℕ → ℕ → Type 0
Found t k c j = DigitAt t.bottom.states t.block k (t.encode c) (t.place (length c) j) (slice_index c j)

-- the laws of a tower

-- Top and bottom are sound, and the top has an inverse exactly if the bottom has.
-- A code of the top has `block` digits, each a code of the bottom.
-- Encoding takes the bottom rings of fitting length one-to-one onto the rings of the top, and decoding undoes it.
-- A top step on an encoded ring is `steps` bottom steps and a rotation by `drift`, encoded.
-- Rotation of the bottom ring by a block rotates the encoded ring by one cell, the other way round in a mirrored tower.
-- Every bottom cell is found where `place` says, and different cells at different places.
pub record Stands (t : Tower) : Type 0 where
  pub block : 1 ≤ t.block
  pub steps : 1 ≤ t.steps
  pub top : Sound t.top
  pub bottom : Sound t.bottom
  pub inverse : is_some t.top.inverse ≡ is_some t.bottom.inverse
  pub states : t.top.states ≡ t.bottom.states ^ t.block
  pub ring_encode : (k : ℕ) (c : List ℕ) → Fitting t k c → Ring t.top.states (t.encode c)
  pub length_encode : (k : ℕ) (c : List ℕ) → Fitting t k c → length (t.encode c) ≡ k
  pub fitting_decode : (d : List ℕ) → Ring t.top.states d → Fitting t (length d) (t.decode d)
  pub decode_encode : (k : ℕ) (c : List ℕ) → Fitting t k c → t.decode (t.encode c) ≡ c
  pub encode_decode : (d : List ℕ) → Ring t.top.states d → t.encode (t.decode d) ≡ d
  pub step : (k : ℕ) (c : List ℕ) → Fitting t k c → ring_map t.top.forward (t.encode c) ≡ t.encode (rotate t.drift (power (ring_map t.bottom.forward) t.steps c))
  pub rotation : (k : ℕ) (c : List ℕ) → Fitting t k c → t.encode (rotate (pos t.block) c) ≡ rotate (signed t.mirrored (pos 1)) (t.encode c)
  pub found : (k : ℕ) (c : List ℕ) → Fitting t k c → (j : ℕ) → j < length c → Found t k c j
  pub apart : (k : ℕ) (c : List ℕ) → Fitting t k c → (i j : ℕ) → i < length c → j < length c → t.place (length c) i ≡ t.place (length c) j → i ≡ j

-- the ground

-- The tower without transformations: the top is the bottom.
abbrev pub ground : Automaton → Tower
ground a = record {
  top = a;
  bottom = a;
  block = 1;
  steps = 1;
  drift = pos 0;
  mirrored = false;
  encode = λ c. c;
  decode = λ d. d;
  place = λ n j. (j, 0);
}
