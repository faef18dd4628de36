-- The six actions of a floor: their numbers and ranges, what each makes of a tower and of its numbers, and when it fits.
use Rattle.std.specs.Prelude.{ℕ, ◌-◌, ◌*◌, ◌^◌, max, Bool, true, cond, not, ◌&&◌, ℤ, pos, ◌+ℤ◌, ◌*ℤ◌, neg_ℤ, Some, None, Option, ◌==◌, int_le, nat_le, unsigned_abs}
use Rattle.std.specs.Option.{option_map}
use Rattle.rings.specs.Integers.{floor_div}
use Rattle.rings.specs.Limits.{max_states, ends_fit}
use Rattle.rings.specs.Local.{span}
use Rattle.floors.specs.declared.action.Action.{Action}
use Rattle.floors.specs.declared.action.Action.TheVariants.{Unchanged, Pack, Iterate, Shift, Mirror, Reduce}
use Rattle.towers.specs.declared.numbers.Numbers.{Numbers}
use Rattle.towers.specs.Towers.{Tower, signed}
use Rattle.towers.specs.Limits.{max_block, max_steps, max_drift}
use Rattle.floors.specs.Limits.{max_argument, min_shift}
use Rattle.floors.specs.Transformed.{iterate_tower, shift_tower, mirror_tower, pack_tower, reduce_tower}
use Rattle.towers.specs.Numbers.{numbers_of}

-- what an action makes of a tower

abbrev pub act_on : Action → Tower → Tower
act_on Unchanged t = t
act_on (Pack m) t = pack_tower m t
act_on (Iterate u) t = iterate_tower u t
act_on (Shift s) t = shift_tower s t
act_on Mirror t = mirror_tower t
act_on Reduce t = reduce_tower t

-- what it makes of the numbers

-- The ends of an interval after u steps at once, moved by s cells, seen in a mirror, and on blocks of m cells.
abbrev pub iterate_ends : ℕ → ℤ × ℤ → ℤ × ℤ
iterate_ends u e = (e.0 *ℤ pos u, e.1 *ℤ pos u)

abbrev pub shift_ends : ℤ → ℤ × ℤ → ℤ × ℤ
shift_ends s e = (e.0 +ℤ s, e.1 +ℤ s)

abbrev pub mirror_ends : ℤ × ℤ → ℤ × ℤ
mirror_ends e = (neg_ℤ e.1, neg_ℤ e.0)

abbrev pub pack_ends : ℕ → ℤ × ℤ → ℤ × ℤ
pack_ends m e = (floor_div e.0 m, floor_div (pos (m - 1) +ℤ e.1) m)

abbrev pub iterate_numbers : ℕ → Numbers → Numbers
iterate_numbers u x = record {
  states = x.states;
  lo = x.lo *ℤ pos u;
  hi = x.hi *ℤ pos u;
  inverse = option_map (iterate_ends u) x.inverse;
  block = x.block;
  steps = x.steps * u;
  drift = x.drift *ℤ pos u;
  mirrored = x.mirrored;
  bottom = x.bottom;
}

abbrev pub shift_numbers : ℤ → Numbers → Numbers
shift_numbers s x = record {
  states = x.states;
  lo = x.lo +ℤ s;
  hi = x.hi +ℤ s;
  inverse = option_map (shift_ends (neg_ℤ s)) x.inverse;
  block = x.block;
  steps = x.steps;
  drift = x.drift +ℤ signed x.mirrored s *ℤ pos x.block;
  mirrored = x.mirrored;
  bottom = x.bottom;
}

abbrev pub mirror_numbers : Numbers → Numbers
mirror_numbers x = record {
  states = x.states;
  lo = neg_ℤ x.hi;
  hi = neg_ℤ x.lo;
  inverse = option_map mirror_ends x.inverse;
  block = x.block;
  steps = x.steps;
  drift = x.drift;
  mirrored = not x.mirrored;
  bottom = x.bottom;
}

abbrev pub pack_numbers : ℕ → Numbers → Numbers
pack_numbers m x = record {
  states = x.states ^ m;
  lo = floor_div x.lo m;
  hi = floor_div (pos (m - 1) +ℤ x.hi) m;
  inverse = option_map (pack_ends m) x.inverse;
  block = x.block * m;
  steps = x.steps;
  drift = x.drift;
  mirrored = x.mirrored;
  bottom = x.bottom;
}

-- How many cells reduction packs into one: the width less one, and at least one.
abbrev pub reduced_block : Numbers → ℕ
reduced_block x = max 1 (span x.lo x.hi - 1)

abbrev pub act_numbers : Action → Numbers → Numbers
act_numbers Unchanged x = x
act_numbers (Pack m) x = pack_numbers m x
act_numbers (Iterate u) x = iterate_numbers u x
act_numbers (Shift s) x = shift_numbers s x
act_numbers Mirror x = mirror_numbers x
act_numbers Reduce x = pack_numbers (reduced_block x) (shift_numbers (neg_ℤ x.lo) x)

-- when it is in range, and when it fits

-- The argument of an action is in its range.
abbrev pub in_range : Action → Bool
in_range Unchanged = true
in_range (Pack m) = nat_le 1 m && nat_le m max_argument
in_range (Iterate u) = nat_le 1 u && nat_le u max_argument
in_range (Shift s) = int_le min_shift s && int_le s (pos max_argument)
in_range Mirror = true
in_range Reduce = true

-- The interval of an inverse, if there is one, keeps the laws of a rule.
abbrev pub inverse_fits : Option (ℤ × ℤ) → Bool
inverse_fits None = true
inverse_fits (Some e) = ends_fit e.0 e.1

-- Both intervals keep the laws of a rule.
abbrev pub intervals_fit : Numbers → Bool
intervals_fit x = ends_fit x.lo x.hi && inverse_fits x.inverse

-- The limits, one after the other: states, the two intervals, M, T, S.
unfoldable pub within_limits : Numbers → Bool
within_limits x = nat_le x.states max_states && (intervals_fit x && (nat_le x.block max_block && (nat_le x.steps max_steps && nat_le (unsigned_abs x.drift) max_drift)))

-- What reduction asks besides: a block of few enough cells, and shifted intervals that keep the laws of a rule.
abbrev pub reduces : Action → Numbers → Bool
reduces Unchanged x = true
reduces (Pack m) x = true
reduces (Iterate u) x = true
reduces (Shift s) x = true
reduces Mirror x = true
reduces Reduce x = nat_le (reduced_block x) max_argument && intervals_fit (shift_numbers (neg_ℤ x.lo) x)

-- The outcome keeps the limits.
abbrev pub fits : Action → Numbers → Bool
fits act x = reduces act x && within_limits (act_numbers act x)

-- What a floor means: the tower that its action makes, or the tower below where the action is out of range or does not fit.
abbrev pub floor_or : Action → Tower → Tower
floor_or act t = cond (in_range act && fits act (numbers_of t)) (act_on act t) t

-- The numbers of a floor over a tower with the numbers x.
abbrev pub floor_numbers : Action → Numbers → Numbers
floor_numbers act x = cond (in_range act && fits act x) (act_numbers act x) x

-- the numbers of actions

-- The number of an action.
abbrev pub action_number : Action → ℕ
action_number Unchanged = 0
action_number (Pack m) = 1
action_number (Iterate u) = 2
action_number (Shift s) = 3
action_number Mirror = 4
action_number Reduce = 5

-- The action, where a test holds.
abbrev pub when : Bool → Action → Option Action
when b act = cond b (Some act) None

-- The action, where the argument is 0.
abbrev pub when_zero : ℤ → Action → Option Action
when_zero a act = when (int_le (pos 0) a && int_le a (pos 0)) act

-- The action with a number and an argument, if there is one and the argument is in its range.
abbrev pub numbered_action : ℕ → ℤ → Option Action
numbered_action n a =
    cond (n == 0) (when_zero a Unchanged)
    (cond (n == 1) (when (int_le (pos 1) a && int_le a (pos max_argument)) (Pack (unsigned_abs a)))
    (cond (n == 2) (when (int_le (pos 1) a && int_le a (pos max_argument)) (Iterate (unsigned_abs a)))
    (cond (n == 3) (when (int_le min_shift a && int_le a (pos max_argument)) (Shift a))
    (cond (n == 4) (when_zero a Mirror) (cond (n == 5) (when_zero a Reduce) None)))))
