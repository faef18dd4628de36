-- The worked rings, by computation; that rule 110 mirrored is rule 124, from the eight windows.
use Rattle.std.proofs.Common.{◌≡◌, ℕ, zero, suc, ◌<◌, List, [], ◌∷◌, length, ℤ, pos, negsuc, ◌+ℤ◌, refl, arith}
use Rattle.rings.specs.Integers.{floor_div, floor_mod}
use Rattle.rings.specs.Line.{Line, tabulate, power}
use Rattle.rings.specs.Ring.{at, Ring, rotate}
use Rattle.rings.specs.Local.{line_map, ring_map}
use Rattle.rings.specs.Packing.{number, blocks, unblocks}
use Rattle.rings.specs.Transformations.{pack_value, mirror_local}
use Rattle.rings.proofs.Line.{tabulate-same}
use Rattle.rings.proofs.Ring.{below_at}
use Rattle.rules.specs.Tables.{entry_index}
use Rattle.rules.specs.Elementary.{elementary}
use Rattle.combinators.specs.Lifts.{lift_value}
use Rattle.floors.specs.Actions.{within_limits}
use Rattle.worked.specs.Worked.{WorkedRings}

-- what holds of 0 and 1 holds of every code below 2
below_two : (P : ℕ → Type 0) → P 0 → P 1 → (n : ℕ) → n < 2 → P n
below_two P a b zero h = a
below_two P a b (suc zero) h = b
below_two P a b (suc (suc n)) h = absurd (omega arith)

-- rule 110 at a window from its end is rule 124 at the window
eight_windows : (x : ℕ) → x < 2 → (y : ℕ) → y < 2 → (z : ℕ) → z < 2 → (elementary 110).forward.value (z ∷ y ∷ x ∷ []) ≡ (elementary 124).forward.value (x ∷ y ∷ z ∷ [])
unfolding tabulate entry_index
eight_windows =
    below_two (λ x. (y : ℕ) → y < 2 → (z : ℕ) → z < 2 → (elementary 110).forward.value (z ∷ y ∷ x ∷ []) ≡ (elementary 124).forward.value (x ∷ y ∷ z ∷ []))
    (below_two (λ y. (z : ℕ) → z < 2 → (elementary 110).forward.value (z ∷ y ∷ 0 ∷ []) ≡ (elementary 124).forward.value (0 ∷ y ∷ z ∷ []))
    (below_two (λ z. (elementary 110).forward.value (z ∷ 0 ∷ 0 ∷ []) ≡ (elementary 124).forward.value (0 ∷ 0 ∷ z ∷ [])) refl refl)
    (below_two (λ z. (elementary 110).forward.value (z ∷ 1 ∷ 0 ∷ []) ≡ (elementary 124).forward.value (0 ∷ 1 ∷ z ∷ [])) refl refl))
    (below_two (λ y. (z : ℕ) → z < 2 → (elementary 110).forward.value (z ∷ y ∷ 1 ∷ []) ≡ (elementary 124).forward.value (1 ∷ y ∷ z ∷ []))
    (below_two (λ z. (elementary 110).forward.value (z ∷ 0 ∷ 1 ∷ []) ≡ (elementary 124).forward.value (1 ∷ 0 ∷ z ∷ [])) refl refl)
    (below_two (λ z. (elementary 110).forward.value (z ∷ 1 ∷ 1 ∷ []) ≡ (elementary 124).forward.value (1 ∷ 1 ∷ z ∷ [])) refl refl))

-- the same next code at every cell of a line of codes below 2
same_line : (x : Line) → ((i : ℤ) → x i < 2) → (i : ℤ) → line_map (mirror_local (elementary 110).forward) x i ≡ line_map (elementary 124).forward x i
unfolding tabulate
same_line x below i =
    let p = i +ℤ negsuc 0 in
    eight_windows (x (p +ℤ pos 0)) (below (p +ℤ pos 0)) (x (p +ℤ pos 1)) (below (p +ℤ pos 1)) (x (p +ℤ pos 2)) (below (p +ℤ pos 2))

pub mirror_of_110 : (c : List ℕ) → Ring 2 c → ring_map (mirror_local (elementary 110).forward) c ≡ ring_map (elementary 124).forward c
unfolding ring_map
mirror_of_110 c r =
    tabulate-same (λ j. line_map (mirror_local (elementary 110).forward) (at c) (pos 0 +ℤ pos j)) (λ j. line_map (elementary 124).forward (at c) (pos 0 +ℤ pos j)) (length c)
    (λ j h. same_line (at c) (below_at 2 c r) (pos 0 +ℤ pos j))

pub worked_rings : WorkedRings
unfolding ring_map tabulate floor_mod floor_div power entry_index lift_value rotate number blocks unblocks pack_value within_limits
worked_rings = record {
  first_step = refl;
  second_step = refl;
  one_cell = refl;
  mirrored = mirror_of_110;
  reduced_code = refl;
  reduced_step = refl;
  reduced_reading = refl;
  floors_block = refl;
  floors_steps = refl;
  floors_drift = refl;
  floors_mirrored = refl;
  packs_of_eight = refl;
  packs_of_nine = refl;
  lift = refl;
  lift_back = refl;
  machine = refl;
  machine_one_cell = refl;
}
