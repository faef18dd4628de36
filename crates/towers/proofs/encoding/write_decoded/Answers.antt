use Rattle.std.proofs.Common.{◌≡◌, ◌/◌, ◌%◌, ◌^◌, length, get_or, sym, ap, ◌∙◌, subst, refl, ap₂, arith}
use native.Mathlib.Nat.{one-le-pow}
use Rattle.std.proofs.lemmas.List.{ext_get_or}
use Rattle.std.specs.Result.{IsOk}
use Rattle.rings.specs.Packing.{digit}
use Rattle.rules.proofs.Maps.{one_more}
use Rattle.towers.proofs.Encodings.{slice_index-decode}
use Rattle.towers.proofs.Calls.{place_in, place_is_told}
use Rattle.towers.proofs.encoding.write_decoded.Goals as goal

pub unwrap-place-requires : goal.unwrap-place-requires
unwrap-place-requires g c =
    let t = g.T.Tower.tower c.args.tower.now in
    subst IsOk
    (sym (c.place.ensures.answer ∙ place_is_told t (g.met.T.Tower.stands c.args.tower.now) (length c.args.ring.now) (length c.args.cells.now) c.loop-j.j c.args.states c.requires.good.some c.requires.size c.loop-j-test.true c.requires.states))
    refl

pub pow-requires : goal.pow-requires
pow-requires g c =
    let t = g.T.Tower.tower c.args.tower.now in
    let p = place_in t (g.met.T.Tower.stands c.args.tower.now) (length c.args.ring.now) (length c.args.cells.now) c.loop-j.j c.args.states c.requires.good.some c.requires.size c.loop-j-test.true c.requires.states c.unwrap-place.result (sym c.unwrap-place.ensures ∙ c.place.ensures.answer) in
    omega (arith, p.power)

pub nonzero_div-cell : goal.nonzero_div-cell
nonzero_div-cell g c =
    let t = g.T.Tower.tower c.args.tower.now in
    let p = place_in t (g.met.T.Tower.stands c.args.tower.now) (length c.args.ring.now) (length c.args.cells.now) c.loop-j.j c.args.states c.requires.good.some c.requires.size c.loop-j-test.true c.requires.states c.unwrap-place.result (sym c.unwrap-place.ensures ∙ c.place.ensures.answer) in
    omega (arith, c.pow.ensures, one-le-pow c.unwrap-place.result.digit c.args.states p.some)

pub loop-j-preserved : goal.loop-j-preserved
loop-j-preserved g c =
    let t = g.T.Tower.tower c.args.tower.now in
    let s = g.met.T.Tower.stands c.args.tower.now in
    let ring = c.args.ring.now in
    let n = length c.args.cells.now in
    let j = c.loop-j.j in
    let p = place_in t s (length ring) n j c.args.states c.requires.good.some c.requires.size c.loop-j-test.true c.requires.states c.unwrap-place.result (sym c.unwrap-place.ensures ∙ c.place.ensures.answer) in
    let value : get_or ring c.unwrap-place.result.cell 0 / c.pow.result % c.args.states ≡ get_or (t.decode ring) j 0 =
    ap₂ (λ x y. get_or ring c.unwrap-place.result.cell 0 / x % y) (c.pow.ensures ∙ ap (λ x. x ^ c.unwrap-place.result.digit) c.requires.states) c.requires.states
    ∙ ap₂ (λ x y. digit t.bottom.states (get_or ring x 0) y) p.cell_is p.digit_is
    ∙ sym (slice_index-decode t s.laws ring c.requires.good j n c.requires.size c.loop-j-test.true) in
    λ k h. one_more (λ i. get_or (t.decode ring) i 0) c.loop-j.cells j _ (omega (arith, c.loop-j.auto.cells, c.loop-j-test.true)) c.loop-j.invariant value k h

pub returns : goal.returns
returns g c =
    let t = g.T.Tower.tower c.args.tower.now in
    let s = g.met.T.Tower.stands c.args.tower.now in
    let ring = c.args.ring.now in
    let size : length c.loop-j.cells ≡ length (t.decode ring) = c.loop-j.auto.cells ∙ c.requires.size ∙ sym (s.laws.fitting_decode ring c.requires.good).size in
    ext_get_or 0 c.loop-j.cells (t.decode ring) size (λ k h. c.loop-j.invariant k (omega (arith, c.loop-j.auto.cells)))
