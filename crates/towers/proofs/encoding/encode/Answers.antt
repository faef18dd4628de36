use Rattle.std.proofs.Common.{◌≡◌, ◌/◌, ◌++◌, length, take, drop, Ok, sym, ap, ◌∙◌, subst, ap₂, arith, rules}
use Rattle.std.proofs.lemmas.List.{length-take-le}
use Rattle.rules.specs.Maps.{written_over}
use Rattle.towers.specs.Towers.{Fitting}
use Rattle.rings.specs.Refusals.{outcome, unless_refused}
use Rattle.rings.proofs.Refusals.{accepted}
use Rattle.towers.specs.Encodings.{encode_fault}
use Rattle.towers.proofs.Encodings.{simulates}
use Rattle.towers.proofs.Calls.{encodable, fitting_of}
use Rattle.towers.proofs.encoding.encode.Goals as goal

pub returns-in_err-check_bottom-clause-simulates : goal.returns-in_err-check_bottom-clause-simulates
returns-in_err-check_bottom-clause-simulates g c = simulates (g.T.Tower.tower c.args.tower.now) (g.met.T.Tower.stands c.args.tower.now).laws

pub write_encoded-requires : goal.write_encoded-requires
write_encoded-requires g c =
    let t = g.T.Tower.tower c.args.tower.now in
    let s = g.met.T.Tower.stands c.args.tower.now in
    let ring = c.args.ring.now in
    let buffer = c.args.buffer.now in
    let x = c.numbers-numbers.ensures.answer in
    let passed : Ok tt ≡ outcome (encode_fault t.bottom.states t.block ring (length buffer)) = search rules in
    let f = accepted (encode_fault t.bottom.states t.block ring (length buffer)) passed in
    let m = encodable t.bottom.states t.block ring (length buffer) f in
    let size : length ring / c.numbers-numbers.result.block ≡ length ring / t.block = omega (arith, ap (λ x. length ring / x.block) x) in
    let len : length (take (length ring / c.numbers-numbers.result.block) buffer) ≡ length ring / t.block = ap (λ k. length (take k buffer)) size ∙ length-take-le (length ring / t.block) buffer m.accepts.fits in
    record { states = ap (λ x. x.bottom) x; fitting = subst (λ k. Fitting t k ring) (sym len) (fitting_of t s ring (length buffer) m) }

pub returns : goal.returns
returns g c =
    let t = g.T.Tower.tower c.args.tower.now in
    let s = g.met.T.Tower.stands c.args.tower.now in
    let ring = c.args.ring.now in
    let buffer = c.args.buffer.now in
    let x = c.numbers-numbers.ensures.answer in
    let passed : Ok tt ≡ outcome (encode_fault t.bottom.states t.block ring (length buffer)) = search rules in
    let f = accepted (encode_fault t.bottom.states t.block ring (length buffer)) passed in
    let m = encodable t.bottom.states t.block ring (length buffer) f in
    let size : length ring / c.numbers-numbers.result.block ≡ length ring / t.block = omega (arith, ap (λ x. length ring / x.block) x) in
    let len : length ring / c.numbers-numbers.result.block ≡ length (t.encode ring) = size ∙ sym (s.laws.length_encode (length ring / t.block) ring (fitting_of t s ring (length buffer) m)) in
    record {
      answer = ap outcome f;
      buffer = ap₂ ◌++◌ c.write_encoded.ensures (ap (λ k. drop k buffer) len) ∙ ap (λ r. unless_refused r (written_over (t.encode ring) buffer) buffer) f;
      laws = s;
      simulates = simulates t s.laws;
    }
