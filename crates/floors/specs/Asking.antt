-- What is asked where the top of a tower is applied to the windows that a floor makes.
use Rattle.std.specs.Prelude.{◌≡◌, ℕ, ◌+◌, ◌-◌, ◌*◌, ◌^◌, ◌≤◌, ℤ, neg_ℤ, Some, Option, MatchOption}
use Rattle.rings.specs.declared.Direction.{Direction}
use Rattle.rings.specs.declared.Direction.TheVariants.{Forward, Backward}
use Rattle.rings.specs.Integers.{floor_mod}
use Rattle.rings.specs.Limits.{max_states, max_width}
use Rattle.rings.specs.Local.{Local, width}
use Rattle.floors.specs.declared.action.Action.{Action}
use Rattle.floors.specs.declared.action.Action.TheVariants.{Unchanged, Pack, Iterate, Shift, Mirror, Reduce}
use Rattle.towers.specs.declared.numbers.Numbers.{Numbers}
use Rattle.floors.specs.Actions.{shift_numbers, reduced_block}

-- There is a local function, and its windows have w cells.
abbrev pub HasWidth : Option Local → ℕ → Type 0
HasWidth o w = MatchOption o ⊥ (λ l. w ≡ width l)

-- Windows of w cells of q states, the first of them at lo, can be done on blocks of m cells: those of a whole block lie on so many packed
-- cells, and these have no more codes and cells than a rule may have.
pub record Packing (q m : ℕ) (lo : ℤ) (w cells : ℕ) : Type 0 where
  pub inside : m - 1 + floor_mod lo m + w ≤ cells * m
  pub few : q ^ m ≤ max_states
  pub fits : cells ≤ max_width

-- The ends of the interval of a direction.
abbrev pub interval : Direction → Numbers → Option (ℤ × ℤ)
interval Forward x = Some (x.lo, x.hi)
interval Backward x = x.inverse

-- The numbers that an action packs, if it packs: reduction shifts them first.
abbrev pub packed_numbers : Action → Numbers → Numbers
packed_numbers Unchanged x = x
packed_numbers (Pack m) x = x
packed_numbers (Iterate u) x = x
packed_numbers (Shift s) x = x
packed_numbers Mirror x = x
packed_numbers Reduce x = shift_numbers (neg_ℤ x.lo) x

-- How many cells an action packs into one; 1 where it does not pack.
abbrev pub block_of : Action → Numbers → ℕ
block_of Unchanged x = 1
block_of (Pack m) x = m
block_of (Iterate u) x = 1
block_of (Shift s) x = 1
block_of Mirror x = 1
block_of Reduce x = reduced_block x
