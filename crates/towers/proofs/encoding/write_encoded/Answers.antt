use Rattle.std.proofs.Common.{◌≡◌, length, sym, ◌∙◌, subst, refl, arith}
use Rattle.std.specs.Result.{IsOk}
use Rattle.towers.proofs.Encodings.{Written, written_all}
use Rattle.towers.proofs.Calls.{place_in, place_is_told, sum_small, written_next}
use Rattle.towers.proofs.encoding.write_encoded.Goals as goal

pub unwrap-place-requires : goal.unwrap-place-requires
unwrap-place-requires g c =
    let t = g.T.Tower.tower c.args.tower.now in
    let w = c.requires.fitting in
    subst IsOk
    (sym (c.place.ensures.answer ∙ place_is_told t (g.met.T.Tower.stands c.args.tower.now) (length c.args.cells.now) (length c.args.ring.now) c.loop-j.j c.args.states w.some w.size c.loop-j-test.true c.requires.states))
    refl

pub pow-requires : goal.pow-requires
pow-requires g c =
    let t = g.T.Tower.tower c.args.tower.now in
    let w = c.requires.fitting in
    let p = place_in t (g.met.T.Tower.stands c.args.tower.now) (length c.args.cells.now) (length c.args.ring.now) c.loop-j.j c.args.states w.some w.size c.loop-j-test.true c.requires.states c.unwrap-place.result (sym c.unwrap-place.ensures ∙ c.place.ensures.answer) in
    omega (arith, p.power)

pub overflow_mul-cells : goal.overflow_mul-cells
overflow_mul-cells g c =
    let t = g.T.Tower.tower c.args.tower.now in
    let w = c.requires.fitting in
    let s = g.met.T.Tower.stands c.args.tower.now in
    let p = place_in t s (length c.args.cells.now) (length c.args.ring.now) c.loop-j.j c.args.states w.some w.size c.loop-j-test.true c.requires.states c.unwrap-place.result (sym c.unwrap-place.ensures ∙ c.place.ensures.answer) in
    let small = sum_small t s (length c.args.cells.now) c.args.ring.now w c.loop-j.cells c.loop-j.j c.loop-j-test.true c.loop-j.invariant c.args.states c.pow.result c.unwrap-place.result p c.requires.states c.pow.ensures in
    omega arith

pub overflow_add-cells : goal.overflow_add-cells
overflow_add-cells g c =
    let t = g.T.Tower.tower c.args.tower.now in
    let w = c.requires.fitting in
    let s = g.met.T.Tower.stands c.args.tower.now in
    let p = place_in t s (length c.args.cells.now) (length c.args.ring.now) c.loop-j.j c.args.states w.some w.size c.loop-j-test.true c.requires.states c.unwrap-place.result (sym c.unwrap-place.ensures ∙ c.place.ensures.answer) in
    let small = sum_small t s (length c.args.cells.now) c.args.ring.now w c.loop-j.cells c.loop-j.j c.loop-j-test.true c.loop-j.invariant c.args.states c.pow.result c.unwrap-place.result p c.requires.states c.pow.ensures in
    omega arith

pub loop-j-preserved : goal.loop-j-preserved
loop-j-preserved g c =
    let t = g.T.Tower.tower c.args.tower.now in
    let w = c.requires.fitting in
    let s = g.met.T.Tower.stands c.args.tower.now in
    let ring = c.args.ring.now in
    let k = length c.args.cells.now in
    let j = c.loop-j.j in
    let p = place_in t s k (length ring) j c.args.states w.some w.size c.loop-j-test.true c.requires.states c.unwrap-place.result (sym c.unwrap-place.ensures ∙ c.place.ensures.answer) in
    written_next t s k ring w c.loop-j.cells j c.loop-j-test.true c.loop-j.invariant c.args.states c.pow.result c.unwrap-place.result p c.requires.states c.pow.ensures

pub returns : goal.returns
returns g c =
    let t = g.T.Tower.tower c.args.tower.now in
    let w = c.requires.fitting in
    let s = g.met.T.Tower.stands c.args.tower.now in
    let ring = c.args.ring.now in
    let k = length c.args.cells.now in
    let all : c.loop-j.j ≡ length ring = omega arith in
    written_all t s.laws k ring w c.loop-j.cells (subst (Written t k ring c.loop-j.cells) all c.loop-j.invariant)
