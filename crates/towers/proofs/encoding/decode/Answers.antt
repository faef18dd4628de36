use Rattle.std.proofs.Common.{◌≡◌, ◌*◌, ◌++◌, length, take, drop, Ok, ap, ◌∙◌, ap₂, arith, rules}
use Rattle.std.proofs.lemmas.List.{length-take-le}
use Rattle.rings.specs.Ring.{Ring}
use Rattle.rules.specs.Maps.{written_over}
use Rattle.rings.specs.Refusals.{outcome, unless_refused}
use Rattle.rings.proofs.Refusals.{accepted}
use Rattle.towers.specs.Encodings.{decode_fault}
use Rattle.towers.proofs.Encodings.{simulates}
use Rattle.towers.proofs.Calls.{decodable}
use Rattle.towers.proofs.encoding.decode.Goals as goal

pub returns-in_err-check_top-clause-simulates : goal.returns-in_err-check_top-clause-simulates
returns-in_err-check_top-clause-simulates g c = simulates (g.T.Tower.tower c.args.tower.now) (g.met.T.Tower.stands c.args.tower.now).laws

pub write_decoded-requires : goal.write_decoded-requires
write_decoded-requires g c =
    let t = g.T.Tower.tower c.args.tower.now in
    let ring = c.args.ring.now in
    let buffer = c.args.buffer.now in
    let x = c.numbers-numbers.ensures.answer in
    let passed : Ok tt ≡ outcome (decode_fault t.top.states t.block ring (length buffer)) = search rules in
    let f = accepted (decode_fault t.top.states t.block ring (length buffer)) passed in
    let m = decodable t.top.states t.block ring (length buffer) f in
    let size : length ring * c.numbers-numbers.result.block ≡ length ring * t.block = omega (arith, ap (λ x. length ring * x.block) x) in
    let len : length (take (length ring * c.numbers-numbers.result.block) buffer) ≡ length ring * t.block = ap (λ k. length (take k buffer)) size ∙ length-take-le (length ring * t.block) buffer m.accepts.fits in
    record { states = ap (λ x. x.bottom) x; good = record { some = m.some; codes = m.accepts.codes }; size = len }

pub returns : goal.returns
returns g c =
    let t = g.T.Tower.tower c.args.tower.now in
    let s = g.met.T.Tower.stands c.args.tower.now in
    let ring = c.args.ring.now in
    let buffer = c.args.buffer.now in
    let x = c.numbers-numbers.ensures.answer in
    let passed : Ok tt ≡ outcome (decode_fault t.top.states t.block ring (length buffer)) = search rules in
    let f = accepted (decode_fault t.top.states t.block ring (length buffer)) passed in
    let m = decodable t.top.states t.block ring (length buffer) f in
    let good : Ring t.top.states ring = record { some = m.some; codes = m.accepts.codes } in
    let len : length ring * c.numbers-numbers.result.block ≡ length (t.decode ring) = omega (arith, ap (λ x. length ring * x.block) x, (s.laws.fitting_decode ring good).size) in
    record {
      answer = ap outcome f;
      buffer = ap₂ ◌++◌ c.write_decoded.ensures (ap (λ k. drop k buffer) len) ∙ ap (λ r. unless_refused r (written_over (t.decode ring) buffer) buffer) f;
      laws = s;
      simulates = simulates t s.laws;
    }
