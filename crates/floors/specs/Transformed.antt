-- The towers that transformations of a tower make.
use Rattle.std.specs.Prelude.{ℕ, ◌+◌, ◌-◌, ◌*◌, ◌/◌, ◌%◌, max, not, ℤ, pos, ◌+ℤ◌, ◌*ℤ◌, neg_ℤ}
use Rattle.rings.specs.Ring.{reflect}
use Rattle.rings.specs.Local.{width}
use Rattle.rings.specs.Automaton.{Automaton}
use Rattle.rings.specs.Packing.{blocks, unblocks}
use Rattle.rings.specs.Transformations.{iterate, shift, mirror, pack}
use Rattle.towers.specs.Towers.{Tower, signed}

-- The tower with another top over the same encoding, and the steps and drift of that top.
abbrev pub with_top : Automaton → ℕ → ℤ → Tower → Tower
with_top a steps drift t = record {
  top = a;
  bottom = t.bottom;
  block = t.block;
  steps = steps;
  drift = drift;
  mirrored = t.mirrored;
  encode = t.encode;
  decode = t.decode;
  place = t.place;
}

-- The tower of which a top step is u top steps of t.
abbrev pub iterate_tower : ℕ → Tower → Tower
iterate_tower u t = with_top (iterate u t.top) (t.steps * u) (t.drift *ℤ pos u) t

-- The tower of which a top step is one of t and a rotation of the top ring by s cells.
abbrev pub shift_tower : ℤ → Tower → Tower
shift_tower s t = with_top (shift s t.top) t.steps (t.drift +ℤ signed t.mirrored s *ℤ pos t.block) t

-- The tower with the top seen in a mirror: the encoded rings are reflected.
abbrev pub mirror_tower : Tower → Tower
mirror_tower t = record {
  top = mirror t.top;
  bottom = t.bottom;
  block = t.block;
  steps = t.steps;
  drift = t.drift;
  mirrored = not t.mirrored;
  encode = λ c. reflect (t.encode c);
  decode = λ d. t.decode (reflect d);
  place = λ n j. (n / t.block - 1 - (t.place n j).0, (t.place n j).1);
}

-- The tower with the top on blocks of m cells: the encoded rings are packed.
abbrev pub pack_tower : ℕ → Tower → Tower
pack_tower m t = record {
  top = pack m t.top;
  bottom = t.bottom;
  block = t.block * m;
  steps = t.steps;
  drift = t.drift;
  mirrored = t.mirrored;
  encode = λ c. blocks t.top.states m (t.encode c);
  decode = λ d. t.decode (unblocks t.top.states m d);
  place = λ n j. ((t.place n j).0 / m, (t.place n j).0 % m * t.block + (t.place n j).1);
}

-- The tower with the top shifted so that its interval begins at 0, and then packed so that it has at most two cells:
-- with w cells in the interval, the blocks have w - 1 cells, and at least one.
abbrev pub reduce_tower : Tower → Tower
reduce_tower t = pack_tower (max 1 (width t.top.forward - 1)) (shift_tower (neg_ℤ t.top.forward.lo) t)
