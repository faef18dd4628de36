use Rattle.std.proofs.Common.{◌≡◌, ℕ, ◌+◌, ◌++◌, length, take, drop, pos, Some, sym, ap, ◌∙◌, ap₂, subst, length-set, refl, w32, w64, SFits, rules, arith}
use Rattle.std.proofs.lemmas.Int.{to_z-of_z}
use Rattle.std.proofs.lemmas.List.{length-take-le, take_all}
use Rattle.std.specs.Result.{IsOk}
use Rattle.rings.proofs.Line.{is_tabulate}
use Rattle.rings.specs.Line.{window}
use Rattle.rings.specs.Local.{span}
use Rattle.rings.specs.Ring.{at, cell_at}
use Rattle.rings.specs.Automaton.{toward}
use Rattle.rules.specs.Maps.{image}
use Rattle.rules.specs.Steps.{value_of, part}
use Rattle.rules.proofs.Maps.{usable, usable_narrow, windows, length-image, answer-part, cell_inside, one_more, ok_is}
use Rattle.rules.proofs.map.write_image.Goals as goal

pub unroll-requires : goal.unroll-requires
unroll-requires g c =
    cell_inside _ (length c.args.ring.now) c.unwrap-start.result c.requires.ring.some (sym c.unwrap-start.ensures ∙ c.cell_at.ensures)

pub loop-i-init : goal.loop-i-init
loop-i-init g c =
    let lo = c.args.interval.0 in
    let hi = c.args.interval.1 in
    let ring = c.args.ring.now in
    let start = c.unwrap-start.result in
    let w = c.interval_width-width.result in
    let a = g.R.Rule.meaning c.args.rule.now in
    let o = toward c.args.direction a in
    let f : SFits w32 lo = search rules in
    let k : SFits w32 hi = search rules in
    let far : SFits w64 c.from.result = search rules in
    let begins : Some start ≡ cell_at lo (length ring) =
    sym c.unwrap-start.ensures ∙ c.cell_at.ensures ∙ ap (λ z. cell_at z (length ring)) (to_z-of_z w64 c.from.result far ∙ c.from.ensures ∙ to_z-of_z w32 lo f) in
    let wide : w ≡ span lo hi = c.interval_width-width.ensures ∙ ap₂ span (to_z-of_z w32 lo f) (to_z-of_z w32 hi k) in
    let narrow = usable_narrow a.states o lo hi (usable c.args.direction a (g.met.R.Rule.lawful c.args.rule.now)) c.requires.ends in
    let long : length c.unroll.new.cells ≡ length ring + w = c.unroll.auto.cells ∙ length-take-le (length ring + w) _ (omega arith) in
    let all : take (length ring + w) c.unroll.new.cells ≡ window (at ring) (pos start) (length ring + w) =
    take_all (length ring + w) c.unroll.new.cells (omega (arith, long)) ∙ c.unroll.ensures ∙ ap (window (at ring) (pos start)) (sym c.unroll.auto.cells ∙ long) in
    (windows a.states o ring c.unroll.new.cells lo hi start w c.requires.ring c.requires.ends begins wide all, refl, λ k h. absurd (omega arith))

pub unwrap-requires : goal.unwrap-requires
unwrap-requires g c =
    let a = g.R.Rule.meaning c.args.rule.now in
    let len = length-take-le (length c.args.ring.now) c.args.buffer.now c.requires.sizes.1 in
    let reads = c.loop-i.invariant.0.reads c.loop-i.i (omega (arith, len, c.loop-i-test.true)) in
    let answered = answer-part a.states (toward c.args.direction a) c.unroll.new.cells c.loop-i.i c.interval_width-width.result c.step.result reads c.step.ensures.answer in
    subst IsOk (sym answered) refl

pub loop-i-preserved : goal.loop-i-preserved
loop-i-preserved g c =
    let a = g.R.Rule.meaning c.args.rule.now in
    let o = toward c.args.direction a in
    let value : ℕ → ℕ = λ k. value_of o (part c.unroll.new.cells k c.interval_width-width.result) in
    let len = length-take-le (length c.args.ring.now) c.args.buffer.now c.requires.sizes.1 in
    let reads = c.loop-i.invariant.0.reads c.loop-i.i (omega (arith, len, c.loop-i-test.true)) in
    let answered = answer-part a.states o c.unroll.new.cells c.loop-i.i c.interval_width-width.result c.step.result reads c.step.ensures.answer in (
      c.loop-i.invariant.0,
      length-set c.loop-i.cell-items c.loop-i.i c.unwrap.result ∙ c.loop-i.invariant.1,
      one_more value c.loop-i.cell-items c.loop-i.i c.unwrap.result (omega arith) c.loop-i.invariant.2 (ok_is (sym c.unwrap.ensures) answered),
    )

pub returns : goal.returns
returns g c =
    let ring = c.args.ring.now in
    let o = toward c.args.direction (g.R.Rule.meaning c.args.rule.now) in
    let value : ℕ → ℕ = λ k. value_of o (part c.unroll.new.cells k c.interval_width-width.result) in
    let len = length-take-le (length ring) c.args.buffer.now c.requires.sizes.1 in
    let written : c.loop-i.cell-items ≡ image o ring =
    is_tabulate value (length ring) c.loop-i.cell-items (c.loop-i.invariant.1 ∙ len) (λ k h. c.loop-i.invariant.2 k (omega (arith, len))) ∙ c.loop-i.invariant.0.image in
    ap₂ ◌++◌ written (ap (λ k. drop k c.args.buffer.now) (sym (length-image o ring)))
