use Rattle.std.proofs.Common.{◌≡◌, ◌+◌, ◌-◌, ◌<◌, length, take, ap, ◌∙◌, ap₂, arith}
use Rattle.std.proofs.lemmas.List.{length-set}
use Rattle.rings.specs.Automaton.{toward}
use Rattle.rules.specs.Steps.{value_of, part}
use Rattle.rules.proofs.Maps.{one_more}
use Rattle.floors.proofs.Asking.{some-width, drop_more_set, row_done}
use Rattle.floors.proofs.directed.DirectedRule.advance.Goals as goal

pub loop-i-preserved : goal.loop-i-preserved
loop-i-preserved g c =
    let x = c.args.self.now in
    let o = toward x.direction (g.R.Rule.meaning x.rule.now) in
    let w = x.width in
    let i = c.loop-i.i in
    let row = c.args.row.now in
    let n : i + w - i ≡ w = omega arith in
    let inside : i < length c.loop-i.row = omega (arith, c.loop-i-test.true, c.loop-i.invariant.2, some-width o w x.wide) in (
      one_more (λ k. value_of o (part row k w)) c.loop-i.row i c.apply.result inside c.loop-i.invariant.0 (c.apply.ensures.value ∙ ap (value_of o) (ap₂ take n c.loop-i.invariant.1)),
      drop_more_set i c.apply.result c.loop-i.row row c.loop-i.invariant.1,
      length-set c.loop-i.row i c.apply.result ∙ c.loop-i.invariant.2,
    )

pub returns : goal.returns
returns g c =
    let x = c.args.self.now in
    let o = toward x.direction (g.R.Rule.meaning x.rule.now) in
    let row = c.args.row.now in
    row_done (value_of o) x.width (length row + 1 - x.width) row c.loop-i.row (omega arith) (omega (arith, c.loop-i.invariant.2, some-width o x.width x.wide))
    (λ k l. c.loop-i.invariant.0 k (omega (arith, c.loop-i-test.false)))
