-- Proofs of the laws of an action on ring maps.
use Rattle.std.proofs.Common.{◌≡◌, ℕ, ◌-◌, ◌*◌, ◌≤◌, max, Bool, true, false, cond, ◌&&◌, List, length, ◌+ℤ◌, neg_ℤ, ◌≤ℤ◌, refl, ap, ◌∙◌, mul-pos, arith}
use Rattle.std.proofs.lemmas.Int.{ints}
use Rattle.std.proofs.lemmas.Bool.{and_parts, leb-true}
use Rattle.rings.specs.Ring.{Ring}
use Rattle.rings.specs.Local.{width, ring_map}
use Rattle.rings.specs.Packing.{blocks, unblocks}
use Rattle.rings.specs.Transformations.{shift_local}
use Rattle.rings.proofs.Packing.{length-unblocks}
use Rattle.rings.proofs.Transformations.{ring_map-iterate, ring_map-shift, ring_map-mirror, ring_map-pack}
use Rattle.floors.specs.declared.action.Action.{Action}
use Rattle.floors.specs.declared.action.Action.TheVariants.{Unchanged, Pack, Iterate, Shift, Mirror, Reduce}
use Rattle.towers.specs.Towers.{Tower, Stands}
use Rattle.towers.specs.Numbers.{numbers_of, Standing}
use Rattle.floors.specs.Actions.{act_on, in_range, fits}
use Rattle.floors.specs.Laws.{action_map, FloorLaw}

ring_map-acted : (act : Action) (t : Tower) → Stands t → in_range act ≡ true → (c : List ℕ) → 1 ≤ length c → ring_map (act_on act t).top.forward c ≡ action_map act t.top c
ring_map-acted Unchanged t s h c some = refl
ring_map-acted (Pack m) t s h c some = ring_map-pack t.top.states m t.top.forward c (leb-true 1 m (and_parts _ _ h).0) s.top.forward.ordered some
ring_map-acted (Iterate u) t s h c some = ring_map-iterate u t.top.forward c s.top.forward.ordered some
ring_map-acted (Shift z) t s h c some = ring_map-shift z t.top.forward c some
ring_map-acted Mirror t s h c some = ring_map-mirror t.top.forward c s.top.forward.ordered some
ring_map-acted Reduce t s h c some =
    let q = t.top.states in
    let l = t.top.forward in
    let z = neg_ℤ l.lo in
    let m = max 1 (width l - 1) in
    let one : 1 ≤ m = omega arith in
    let ordered : (l.lo +ℤ z) ≤ℤ (l.hi +ℤ z) = omega (arith, ints, s.top.forward.ordered) in
    let long : 1 ≤ length c * m = mul-pos some one in
    let unpacked : 1 ≤ length (unblocks q m c) = omega (arith, length-unblocks q m c) in
    ring_map-pack q m (shift_local z l) c one ordered some ∙ ap (blocks q m) (ring_map-shift z l (unblocks q m c) unpacked)

pub floor_law : (act : Action) (t : Tower) → Standing t → FloorLaw act t
floor_law act t s = by (in_range act && fits act (numbers_of t)) refl where
  by : (b : Bool) → (in_range act && fits act (numbers_of t)) ≡ b → (c : List ℕ) → Ring (cond b (act_on act t) t).top.states c
      → ring_map (cond b (act_on act t) t).top.forward c ≡ cond b (action_map act t.top c) (ring_map t.top.forward c)
  by true e c r = ring_map-acted act t s.laws (and_parts _ _ e).0 c r.some
  by false e c r = refl
