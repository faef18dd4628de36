-- Worked rings: facts about the definitions at written numbers, together.
use Rattle.std.specs.Prelude.{◌≡◌, ℕ, true, false, List, [], ◌∷◌, ℤ, pos, negsuc, ◌*ℤ◌, neg_ℤ}
use Rattle.rings.specs.Ring.{Ring, rotate}
use Rattle.rings.specs.Local.{ring_map}
use Rattle.rings.specs.Automaton.{Automaton, after}
use Rattle.rules.specs.Tables.{table}
use Rattle.rules.specs.Elementary.{elementary}
use Rattle.combinators.specs.Lifts.{lift_or}
use Rattle.machines.specs.Turing.{turing}
use Rattle.machines.specs.Worked.{identity_of_three, swapping_machine}
use Rattle.towers.specs.Towers.{Tower, ground}
use Rattle.towers.specs.Numbers.{numbers_of}
use Rattle.floors.specs.declared.action.Action.TheVariants.{Pack, Iterate, Shift, Mirror, Reduce}
use Rattle.floors.specs.Actions.{fits, floor_or}

-- The identity on eight states.
abbrev pub identity_of_eight : Automaton
identity_of_eight = table 8 (pos 0) (pos 0) (0 ∷ 1 ∷ 2 ∷ 3 ∷ 4 ∷ 5 ∷ 6 ∷ 7 ∷ [])

-- Rule 110 reduced.
abbrev pub reduced_110 : Tower
reduced_110 = floor_or Reduce (ground (elementary 110))

-- Four floors over rule 110: pack 2, mirror, shift 3, iterate 4.
abbrev pub four_floors : Tower
four_floors = floor_or (Iterate 4) (floor_or (Shift (pos 3)) (floor_or Mirror (floor_or (Pack 2) (ground (elementary 110)))))

-- What a top ring tells of the bottom k top steps after it was encoded: decoded, and turned back by the drift of k steps.
abbrev pub read : Tower → ℤ → List ℕ → List ℕ
read t k d = rotate (neg_ℤ (t.drift *ℤ k)) (t.decode d)

pub record WorkedRings : Type 0 where
  -- rule 110 takes 0 0 0 1 to 0 0 1 1, and then to 0 1 1 1
  pub first_step : after (elementary 110) (pos 1) (0 ∷ 0 ∷ 0 ∷ 1 ∷ []) ≡ 0 ∷ 0 ∷ 1 ∷ 1 ∷ []
  pub second_step : after (elementary 110) (pos 2) (0 ∷ 0 ∷ 0 ∷ 1 ∷ []) ≡ 0 ∷ 1 ∷ 1 ∷ 1 ∷ []
  -- rule 110 takes the one-cell ring 1 to 0
  pub one_cell : after (elementary 110) (pos 1) (1 ∷ []) ≡ 0 ∷ []
  -- rule 110 mirrored is rule 124: the same map of every ring
  pub mirrored : (c : List ℕ) → Ring 2 c → ring_map (floor_or Mirror (ground (elementary 110))).top.forward c ≡ ring_map (elementary 124).forward c
  -- rule 110 reduced encodes 0 0 0 1 as 0 2, takes that to 2 1, and reads 0 0 1 1
  pub reduced_code : reduced_110.encode (0 ∷ 0 ∷ 0 ∷ 1 ∷ []) ≡ 0 ∷ 2 ∷ []
  pub reduced_step : after reduced_110.top (pos 1) (0 ∷ 2 ∷ []) ≡ 2 ∷ 1 ∷ []
  pub reduced_reading : read reduced_110 (pos 1) (2 ∷ 1 ∷ []) ≡ 0 ∷ 0 ∷ 1 ∷ 1 ∷ []
  -- a top cell of the four floors over rule 110 has 2 bottom cells, a top step is 4 bottom steps and turns the ring by -24 cells, and the top runs the other way round
  pub floors_block : four_floors.block ≡ 2
  pub floors_steps : four_floors.steps ≡ 4
  pub floors_drift : four_floors.drift ≡ negsuc 23
  pub floors_mirrored : four_floors.mirrored ≡ true
  -- packs of 8 cells with 8 states fit, packs of 9 do not
  pub packs_of_eight : fits (Pack 8) (numbers_of (ground identity_of_eight)) ≡ true
  pub packs_of_nine : fits (Pack 9) (numbers_of (ground identity_of_eight)) ≡ false
  -- the identity on three states, lifted, takes 7 to 5, and back to 7
  pub lift : after (lift_or identity_of_three) (pos 1) (7 ∷ []) ≡ 5 ∷ []
  pub lift_back : after (lift_or identity_of_three) (negsuc 0) (5 ∷ []) ≡ 7 ∷ []
  -- the swapping machine takes 2 0 to 1 2, and the one-cell ring 2 to 3
  pub machine : after (turing swapping_machine) (pos 1) (2 ∷ 0 ∷ []) ≡ 1 ∷ 2 ∷ []
  pub machine_one_cell : after (turing swapping_machine) (pos 1) (2 ∷ []) ≡ 3 ∷ []
