use Rattle.std.proofs.Common.{◌≡◌, ◌*◌, ◌/◌, ◌≤◌, false, eqb, ◌++◌, length, take, drop, None, Ok, Err, sym, ap, ◌∙◌, ap₂, arith, w64, rules}
use Rattle.std.proofs.lemmas.List.{length-take-le}
use Rattle.std.proofs.lemmas.Int.{to_z-of_z}
use Rattle.rings.specs.Ring.{first_stray, rotate}
use Rattle.rings.proofs.Ring.{length-rotate}
use Rattle.rules.specs.Maps.{written_over}
use Rattle.rings.specs.Refusals.{outcome, unless_refused}
use Rattle.rings.proofs.Refusals.{accepted, refused}
use Rattle.towers.specs.Encodings.{stray_or_short, rotated_fault}
use Rattle.towers.proofs.Calls.{Rotatable, rotated_fault_else, rotatable}
use Rattle.towers.proofs.encoding.decode_rotated.Given as given
use Rattle.towers.proofs.encoding.decode_rotated.Goals as goal
use Rattle.towers.proofs.encoding.decode_rotated.Goals.{In_ok-check_cells}

pub returns-in_err-check_cells : goal.returns-in_err-check_cells
returns-in_err-check_cells g c =
    let t = g.T.Tower.tower c.args.tower.now in
    let ring = c.args.ring.now in
    let buffer = c.args.buffer.now in
    let o = stray_or_short (first_stray t.top.states ring) (length ring) (length buffer / t.block) in
    let e : Err c.in_err-check_cells.field-0.0 ≡ outcome o = search rules in
    let told : c.from_residual.result ≡ Err c.in_err-check_cells.field-0.0 = search rules in
    let f = refused o c.in_err-check_cells.field-0.0 e
    ∙ rotated_fault_else t.top.states t.block ring (length buffer) (g.met.T.Tower.stands c.args.tower.now).laws.block (sym c.is_empty.ensures ∙ c.if-is_empty.false) in
    record { answer = told ∙ ap outcome f; buffer = ap (λ r. unless_refused r (written_over (rotate c.args.rotation (t.decode ring)) buffer) buffer) f }

-- what is known once nothing refuses
module _ (g : given.Over) (c : In_ok-check_cells g) where
  unrefused : None ≡ stray_or_short (first_stray (g.T.Tower.tower c.args.tower.now).top.states c.args.ring.now) (length c.args.ring.now) (length c.args.buffer.now / (g.T.Tower.tower c.args.tower.now).block)
  unrefused =
      let t = g.T.Tower.tower c.args.tower.now in
      let o = stray_or_short (first_stray t.top.states c.args.ring.now) (length c.args.ring.now) (length c.args.buffer.now / t.block) in
      let e : Ok tt ≡ outcome o = search rules in
      accepted o e

  some : eqb (length c.args.ring.now) 0 ≡ false
  some = sym c.is_empty.ensures ∙ c.if-is_empty.false

  good : Rotatable (g.T.Tower.tower c.args.tower.now).top.states (g.T.Tower.tower c.args.tower.now).block c.args.ring.now (length c.args.buffer.now)
  good = rotatable _ _ c.args.ring.now (length c.args.buffer.now) (g.met.T.Tower.stands c.args.tower.now).laws.block some unrefused

  size : length c.args.ring.now * c.numbers-numbers.result.block ≡ length c.args.ring.now * (g.T.Tower.tower c.args.tower.now).block
  size = ap (λ x. length c.args.ring.now * x.block) c.numbers-numbers.ensures.answer

  fits : length c.args.ring.now * c.numbers-numbers.result.block ≤ length c.args.buffer.now
  fits = omega (arith, size, good.fits)

pub slice_bounds-cells-end : goal.slice_bounds-cells-end
slice_bounds-cells-end g c = let h = fits g (goal.at.slice_bounds-cells-end g c).In_ok-check_cells in search rules

pub write_decoded-requires : goal.write_decoded-requires
write_decoded-requires g c =
    let t = g.T.Tower.tower c.args.tower.now in
    let ring = c.args.ring.now in
    let buffer = c.args.buffer.now in
    let at = (goal.at.write_decoded-requires g c).In_ok-check_cells in
    let same : length ring * c.numbers-numbers.result.block ≡ length ring * t.block = omega (arith, size g at) in
    record {
      states = ap (λ x. x.bottom) c.numbers-numbers.ensures.answer;
      good = (good g at).ring;
      size = ap (λ k. length (take k buffer)) same ∙ length-take-le (length ring * t.block) buffer (good g at).fits;
    }

pub rotate_cells-requires : goal.rotate_cells-requires
rotate_cells-requires g c =
    let at = (goal.at.rotate_cells-requires g c).In_ok-check_cells in
    omega (arith, ap length c.write_decoded.ensures, ((g.met.T.Tower.stands c.args.tower.now).laws.fitting_decode c.args.ring.now (good g at).ring).ring.some)

pub returns : goal.returns
returns g c =
    let t = g.T.Tower.tower c.args.tower.now in
    let s = g.met.T.Tower.stands c.args.tower.now in
    let ring = c.args.ring.now in
    let buffer = c.args.buffer.now in
    let z = c.args.rotation in
    let at = (goal.at.returns g c).In_ok-check_cells in
    let f : None ≡ rotated_fault t.top.states t.block ring (length buffer) = unrefused g at ∙ rotated_fault_else t.top.states t.block ring (length buffer) s.laws.block (some g at) in
    let turned : c.rotate_cells.new.ring ≡ rotate z (t.decode ring) = c.rotate_cells.ensures ∙ ap₂ rotate (to_z-of_z w64 z c.ranges.rotation) c.write_decoded.ensures in
    let len : length ring * c.numbers-numbers.result.block ≡ length (rotate z (t.decode ring)) = omega (arith, size g at, (s.laws.fitting_decode ring (good g at).ring).size, length-rotate z (t.decode ring)) in
    record {
      answer = ap outcome f;
      buffer = ap₂ ◌++◌ turned (ap (λ k. drop k buffer) len) ∙ ap (λ r. unless_refused r (written_over (rotate z (t.decode ring)) buffer) buffer) f;
    }
