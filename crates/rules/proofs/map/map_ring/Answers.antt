use Rattle.std.proofs.Common.{◌≡◌, length, Some, None, Ok, sym, ap, ◌∙◌, rules}
use Rattle.rings.specs.Automaton.{toward}
use Rattle.rings.specs.Refusals.{outcome, unless_refused}
use Rattle.rings.proofs.Automaton.{after_add}
use Rattle.rings.proofs.Refusals.{accepted}
use Rattle.rules.specs.Answers.{ends}
use Rattle.rules.specs.Maps.{ring_fault, map_fault, image, written_over}
use Rattle.rules.proofs.Maps.{map_fault-some, mappable, step-laws}
use Rattle.rules.proofs.map.map_ring.Goals as goal

pub returns-in_err-interval-clause-steps : goal.returns-in_err-interval-clause-steps
returns-in_err-interval-clause-steps g c = after_add (g.R.Rule.meaning c.args.rule.now) (g.met.R.Rule.lawful c.args.rule.now).sound

pub returns-in_err-check_ring-clause-law : goal.returns-in_err-check_ring-clause-law
returns-in_err-check_ring-clause-law g c = step-laws c.args.direction (g.R.Rule.meaning c.args.rule.now)

pub returns-in_err-check_ring-clause-steps : goal.returns-in_err-check_ring-clause-steps
returns-in_err-check_ring-clause-steps g c = after_add (g.R.Rule.meaning c.args.rule.now) (g.met.R.Rule.lawful c.args.rule.now).sound

pub write_image-requires : goal.write_image-requires
write_image-requires g c =
    let a = g.R.Rule.meaning c.args.rule.now in
    let ring = c.args.ring.now in
    let room = length c.args.buffer.now in
    let passed : Ok tt ≡ outcome (ring_fault a.states ring room) = search rules in
    let m = mappable a.states ring room (accepted (ring_fault a.states ring room) passed) in
    let has : Some c.in_ok-interval.interval ≡ ends (toward c.args.direction a) = search rules in
    record { ends = sym has; ring = record { some = m.some; codes = m.codes }; sizes = (m.few, m.fits) }

pub returns : goal.returns
returns g c =
    let a = g.R.Rule.meaning c.args.rule.now in
    let o = toward c.args.direction a in
    let ring = c.args.ring.now in
    let buffer = c.args.buffer.now in
    let has : Some c.in_ok-interval.interval ≡ ends o = search rules in
    let passed : Ok tt ≡ outcome (ring_fault a.states ring (length buffer)) = search rules in
    let f : None ≡ map_fault a.states o ring (length buffer) =
    accepted (ring_fault a.states ring (length buffer)) passed ∙ sym (map_fault-some a.states o ring (length buffer) c.in_ok-interval.interval.0 c.in_ok-interval.interval.1 has) in
    record {
      answer = ap outcome f;
      buffer = c.write_image.ensures ∙ ap (λ r. unless_refused r (written_over (image o ring) buffer) buffer) f;
      law = step-laws c.args.direction a;
      steps = after_add a (g.met.R.Rule.lawful c.args.rule.now).sound;
    }
