use Rattle.std.proofs.Common.{◌≡◌, length, None, Some, Ok, Err, vec_items, sym, ap, ◌∙◌, add-one, arith, rules}
use Rattle.std.proofs.lemmas.List.{with_items_is}
use Rattle.std.proofs.lemmas.Bool.{ne_eqb}
use Rattle.rings.specs.Line.{power}
use Rattle.rings.specs.Automaton.{toward}
use Rattle.rings.proofs.Local.{power_out}
use Rattle.rings.proofs.Refusals.{accepted, refused}
use Rattle.rules.specs.Maps.{image, map_fault, map_answer}
use Rattle.rules.proofs.Maps.{mapped_whole}
use Rattle.orbits.specs.declared.fault.EvolveFault.TheVariants.{Rule}
use Rattle.orbits.proofs.Orbits.{length-power-image, power_after, first_refused, first_accepted, none_or}
use Rattle.orbits.proofs.evolve.Goals as goal

pub loop-step-init : goal.loop-step-init
unfolding power
loop-step-init g c = record { reached = c.in_ok-current.ensures.items; room = ap length c.in_ok-next.ensures.items; accepted = λ h. absurd (omega arith) }

pub returns-in_err-map_ring : goal.returns-in_err-map_ring
returns-in_err-map_ring g c =
    let a = g.R.Rule.meaning c.args.rule.now in
    let d = c.args.direction in
    let o = toward d a in
    let ring = c.args.ring.now in
    let i = c.loop-step._step in
    let from = c.deref.result.now in
    let into = c.deref_mut.result.now in
    let f = c.in_err-map_ring.field-0.0 in
    let now : from ≡ power (image o) i ring = c.deref.ensures.value ∙ c.loop-step.invariant.reached in
    let long : length into ≡ length ring = ap length c.deref_mut.ensures.value ∙ c.loop-step.invariant.room in
    let answer : Err f ≡ map_answer d a from into = search rules in
    let told : c.from_residual-in_err-map_ring.result ≡ Err (Rule f) = search rules in
    let later : Some f ≡ map_fault a.states o from (length ring) = refused (map_fault a.states o from (length into)) f answer ∙ ap (λ n. map_fault a.states o from n) long in
    let first = first_refused d a (g.met.R.Rule.lawful c.args.rule.now) ring i from f now c.loop-step.invariant.accepted later in
    record { answer = rw told (rw (ne_eqb c.args.steps 0 (λ z. omega arith)) (sym first)) }

pub loop-step-preserved : goal.loop-step-preserved
unfolding power
loop-step-preserved g c =
    let a = g.R.Rule.meaning c.args.rule.now in
    let d = c.args.direction in
    let o = toward d a in
    let ring = c.args.ring.now in
    let i = c.loop-step._step in
    let now = vec_items c.loop-step.current in
    let then = c.map_ring.new.buffer in
    let from = c.deref.result.now in
    let into = c.deref_mut.result.now in
    let size : length now ≡ length ring = ap length c.loop-step.invariant.reached ∙ length-power-image o i ring in
    let long : length into ≡ length from = ap length c.deref_mut.ensures.value ∙ c.loop-step.invariant.room ∙ sym size ∙ ap length (sym c.deref.ensures.value) in
    let answer : Ok tt ≡ map_answer d a from into = c.in_ok-map_ring.ensures.answer in
    let made : then ≡ image o now = c.map_ring.ensures.buffer ∙ mapped_whole d a from into answer long ∙ ap (image o) c.deref.ensures.value in
    let filled : vec_items c.swap.new.x ≡ then = ap vec_items c.swap.ensures.x_after ∙ with_items_is c.loop-step.next then (omega (arith, c.map_ring.auto.buffer, c.deref_mut.ensures.len)) in
    let mapped : None ≡ map_fault a.states o from (length ring) = accepted (map_fault a.states o from (length into)) answer ∙ ap (λ n. map_fault a.states o from n) (long ∙ ap length c.deref.ensures.value ∙ size) in
    record {
      reached = filled ∙ made ∙ ap (image o) c.loop-step.invariant.reached ∙ sym (power_out (image o) i ring) ∙ ap (λ n. power (image o) n ring) (sym (add-one i));
      room = ap (λ v. length (vec_items v)) c.swap.ensures.y_after ∙ size;
      accepted = λ h. first_accepted d a (g.met.R.Rule.lawful c.args.rule.now) ring i from (c.deref.ensures.value ∙ c.loop-step.invariant.reached) c.loop-step.invariant.accepted mapped;
    }

pub returns : goal.returns
returns g c =
    let a = g.R.Rule.meaning c.args.rule.now in
    let d = c.args.direction in
    let ring = c.args.ring.now in
    let e : c.loop-step._step ≡ c.args.steps = omega arith in
    record {
      answer = (
        none_or c.args.steps (map_fault a.states (toward d a) ring (length ring)) (λ h. c.loop-step.invariant.accepted (omega arith)),
        c.loop-step.invariant.reached ∙ ap (λ n. power (image (toward d a)) n ring) e ∙ power_after d a c.args.steps ring,
      );
    }
