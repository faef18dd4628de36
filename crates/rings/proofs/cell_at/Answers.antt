use Rattle.std.proofs.Common.{◌≡◌, ◌^◌, ◌<◌, ℕ, ℤ, pos, nat_abs, Some, sym, ap, ◌∙◌, ap₂, w32, w64, SFits, to_z, of_z, rules, arith}
use mir.Syntax.{w128}
use Rattle.std.proofs.lemmas.Int.{to_z-of_z, to_z_pos}
use Rattle.std.specs.Int.{int_rem_euclid}
use Rattle.rings.specs.Ring.{cell_at}
use Rattle.rings.proofs.Integers.{rem_euclid_floor_mod}
use Rattle.rings.proofs.Ring.{cell_at-some}
use Rattle.rings.proofs.cell_at.Goals as goal

-- the cell that a remainder tells, whatever the width of the numbers that were divided
by_remainder : (z : ℤ) (n : ℕ) (r a b : ℤ) → 0 < n → r ≡ int_rem_euclid a b → a ≡ z → b ≡ pos n → Some (nat_abs r) ≡ cell_at z n
by_remainder z n r a b some value offset cells =
    ap Some (ap nat_abs (value ∙ ap₂ int_rem_euclid offset cells) ∙ rem_euclid_floor_mod z n) ∙ sym (cell_at-some z n some)

pub returns-in-Ok-Ok : goal.returns-in-Ok-Ok
returns-in-Ok-Ok c =
    let z = c.args.offset in
    let f : SFits w32 c.rem_euclid.result = search rules in
    let short : SFits w32 c.in-Ok-Ok.offset = search rules in
    let few : SFits w32 c.in-Ok-Ok.cells = search rules in
    let offset = to_z-of_z w32 c.in-Ok-Ok.offset short ∙ c.in-Ok-Ok.ensures.1 ∙ to_z-of_z w64 z c.ranges.offset in
    let cells = to_z-of_z w32 c.in-Ok-Ok.cells few ∙ c.in-Ok-Ok.ensures'.1 in
    ap Some (ap nat_abs (to_z-of_z w32 c.rem_euclid.result f)) ∙
    by_remainder z c.args.cells c.rem_euclid.result _ _ (omega (arith, c.if-cells-eq0.false)) c.rem_euclid.ensures.value offset cells

pub returns-in_default : goal.returns-in_default
returns-in_default c =
    let z = c.args.offset in
    let f : SFits w128 c.rem_euclid-in_default.result = search rules in
    let long : SFits w128 z = search rules in
    let small : c.args.cells < 2 ^ 127 = search rules in
    let offset = ap (λ a. to_z w128 (of_z w128 a)) (c.from.ensures ∙ to_z-of_z w64 z c.ranges.offset) ∙ to_z-of_z w128 z long in
    let cells = to_z_pos w128 c.args.cells small in
    ap Some (ap nat_abs (to_z-of_z w128 c.rem_euclid-in_default.result f)) ∙
    by_remainder z c.args.cells c.rem_euclid-in_default.result _ _ (omega (arith, c.if-cells-eq0.false)) c.rem_euclid-in_default.ensures.value offset cells
