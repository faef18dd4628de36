use Rattle.std.proofs.Common.{◌≡◌, get_or, Ok, ap, ◌∙◌, sym, arith}
use Rattle.rules.specs.Answers.{next_answer}
use Rattle.combinators.specs.Lifts.{rejoined}
use Rattle.combinators.specs.Frames.{framed_halves}
use Rattle.combinators.specs.LiftsLemmas.{frame-reading}
use Rattle.combinators.proofs.lift.Frame.answer.Goals as goal

pub read_halves-requires-clause-inside : goal.read_halves-requires-clause-inside
read_halves-requires-clause-inside g c =
    let a = g.R.Rule.meaning c.args.rule.now in
    (frame-reading a (g.met.R.Rule.lawful c.args.rule.now) c.requires.small c.args.self c.requires.frame c.args.direction c.args.window.now c.in_ok-check_window.ensures.answer).inside

pub returns-in_err-value : goal.returns-in_err-value
returns-in_err-value g c =
    let a = g.R.Rule.meaning c.args.rule.now in
    let k = frame-reading a (g.met.R.Rule.lawful c.args.rule.now) c.requires.small c.args.self c.requires.frame c.args.direction c.args.window.now c.in_ok-check_window.ensures.answer in
    absurd (cc (c.in_err-value.ensures.answer ∙ ap (next_answer a) c.read_halves.ensures ∙ k.rule-answer))

pub rejoin-requires : goal.rejoin-requires
rejoin-requires g c =
    let a = g.R.Rule.meaning c.args.rule.now in
    let halves = framed_halves c.args.self c.args.direction c.args.window.now in
    let k = frame-reading a (g.met.R.Rule.lawful c.args.rule.now) c.requires.small c.args.self c.requires.frame c.args.direction c.args.window.now c.in_ok-check_window.ensures.answer in
    let value : c.in_ok-value.value ≡ a.forward.value halves = cc (c.in_ok-value.ensures.answer ∙ ap (next_answer a) c.read_halves.ensures ∙ k.rule-answer) in
    (k.few, (omega (arith, value, k.value_lt), k.own_lt))

pub returns : goal.returns
returns g c =
    let a = g.R.Rule.meaning c.args.rule.now in
    let halves = framed_halves c.args.self c.args.direction c.args.window.now in
    let k = frame-reading a (g.met.R.Rule.lawful c.args.rule.now) c.requires.small c.args.self c.requires.frame c.args.direction c.args.window.now c.in_ok-check_window.ensures.answer in
    let value : c.in_ok-value.value ≡ a.forward.value halves = cc (c.in_ok-value.ensures.answer ∙ ap (next_answer a) c.read_halves.ensures ∙ k.rule-answer) in
    ap Ok (c.rejoin.ensures ∙ ap (λ v. rejoined c.args.direction c.args.self.states v (get_or c.args.window.now c.args.self.own 0)) value) ∙ sym k.lift-answer
