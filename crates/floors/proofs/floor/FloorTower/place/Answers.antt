use Rattle.std.proofs.Common.{Ok, ap, ◌∙◌}
use Rattle.std.proofs.lemmas.Result.{err_from_is_err_and}
use Rattle.floors.proofs.Places.{block-some, inside, floor_refused, floor_moved}
use Rattle.floors.proofs.floor.FloorTower.place.Goals as goal

pub nonzero_rem-n : goal.nonzero_rem-n
nonzero_rem-n g c =
    let x = c.args.self.now in
    block-some x.action (g.T.Tower.tower x.below) (g.met.T.Tower.stands x.below) c.of-below.result.numbers c.in-Some.top c.of-below.ensures c.in-Some.ensures

pub returns-in_err-place : goal.returns-in_err-place
returns-in_err-place g c =
    let x = c.args.self.now in
    let p = err_from_is_err_and c.from_residual.result c.from_residual.ensures.1 in
    rw (p.1, p.2) (record {
      answer = floor_refused x.action (g.T.Tower.tower x.below) (g.met.T.Tower.stands x.below) c.of-below.result.numbers c.in-Some.top c.of-below.ensures c.in-Some.ensures c.args.n c.args.j c.if-n-top-ne0.false _ c.in_err-place.ensures.answer;
    })

pub moved_place-requires-clause-inside : goal.moved_place-requires-clause-inside
moved_place-requires-clause-inside g c =
    let x = c.args.self.now in
    inside x.action (g.T.Tower.tower x.below) (g.met.T.Tower.stands x.below) c.of-below.result.numbers c.in-Some.top c.of-below.ensures c.in-Some.ensures c.args.n c.args.j c.in_ok-place.place c.in_ok-place.ensures.answer

pub returns : goal.returns
returns g c =
    let x = c.args.self.now in
    record {
      answer = ap Ok c.moved_place.ensures ∙ floor_moved x.action (g.T.Tower.tower x.below) (g.met.T.Tower.stands x.below) c.of-below.result.numbers c.in-Some.top c.of-below.ensures c.in-Some.ensures c.args.n c.args.j c.if-n-top-ne0.false c.in_ok-place.place c.in_ok-place.ensures.answer;
    }
