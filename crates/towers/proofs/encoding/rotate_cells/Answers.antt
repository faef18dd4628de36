use Rattle.std.proofs.Common.{◌≡◌, length, sym, ap, ◌∙◌, arith, w64, to_z, of_z}
use Rattle.std.proofs.lemmas.Int.{to_z-of_z}
use Rattle.rings.specs.Integers.{floor_mod}
use Rattle.rings.specs.Ring.{cell_at}
use Rattle.rings.proofs.Integers.{floor_mod_lt}
use Rattle.rings.proofs.Ring.{cell_at-is}
use Rattle.towers.proofs.Calls.{rotated_is}
use Rattle.towers.proofs.encoding.rotate_cells.Goals as goal

pub rotate_left-requires : goal.rotate_left-requires
rotate_left-requires c =
    let z = to_z w64 (of_z w64 c.args.rotation) in
    let n = length c.args.ring.now in
    omega (arith, cell_at-is z n c.unwrap.result c.requires (sym c.unwrap.ensures ∙ c.cell_at.ensures), floor_mod_lt z n c.requires)

pub returns : goal.returns
returns c =
    let ring = c.args.ring.now in
    let n = length ring in
    let e : c.unwrap.result ≡ floor_mod c.args.rotation n =
    cell_at-is c.args.rotation n c.unwrap.result c.requires (sym c.unwrap.ensures ∙ c.cell_at.ensures ∙ ap (λ z. cell_at z n) (to_z-of_z w64 c.args.rotation c.ranges.rotation)) in
    rotated_is c.args.rotation ring c.rotate_left.new.self c.unwrap.result e c.rotate_left.ensures.len c.rotate_left.ensures.by_index.0 c.rotate_left.ensures.by_index.1
