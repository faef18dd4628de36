-- What an action makes of the ring map of a top.
use Rattle.std.specs.Prelude.{◌≡◌, ℕ, ◌-◌, max, cond, ◌&&◌, List, neg_ℤ}
use Rattle.rings.specs.Line.{power}
use Rattle.rings.specs.Ring.{Ring, rotate, reflect}
use Rattle.rings.specs.Local.{width, ring_map}
use Rattle.rings.specs.Automaton.{Automaton}
use Rattle.rings.specs.Packing.{blocks, unblocks}
use Rattle.floors.specs.declared.action.Action.{Action}
use Rattle.floors.specs.declared.action.Action.TheVariants.{Unchanged, Pack, Iterate, Shift, Mirror, Reduce}
use Rattle.towers.specs.Towers.{Tower}
use Rattle.towers.specs.Numbers.{numbers_of}
use Rattle.floors.specs.Actions.{in_range, fits, floor_or}

-- A ring map on blocks of m cells: unpack, map, pack.
abbrev pub map_blocks : ℕ → ℕ → (List ℕ → List ℕ) → List ℕ → List ℕ
map_blocks q m h c = blocks q m (h (unblocks q m c))

-- The ring map after an action, with the ring map H of the automaton: H itself; H on blocks; H as often as told; H and then a rotation;
-- H seen in a mirror; and for reduction, H and a rotation that lets the interval begin at 0, on blocks.
abbrev pub action_map : Action → Automaton → List ℕ → List ℕ
action_map Unchanged a c = ring_map a.forward c
action_map (Pack m) a c = map_blocks a.states m (ring_map a.forward) c
action_map (Iterate u) a c = power (ring_map a.forward) u c
action_map (Shift s) a c = rotate s (ring_map a.forward c)
action_map Mirror a c = reflect (ring_map a.forward (reflect c))
action_map Reduce a c = map_blocks a.states (max 1 (width a.forward - 1)) (λ d. rotate (neg_ℤ a.forward.lo) (ring_map a.forward d)) c

-- The ring map of a floor's top is that of its action, or that of the top below where the action is out of range or does not fit.
abbrev pub FloorLaw : Action → Tower → Type 0
FloorLaw act t =
    (c : List ℕ)
    → Ring (floor_or act t).top.states c
    → ring_map (floor_or act t).top.forward c ≡ cond (in_range act && fits act (numbers_of t)) (action_map act t.top c) (ring_map t.top.forward c)
