use Rattle.std.proofs.Common.{◌≡◌, length, ◌*ℤ◌, neg_ℤ, Some, None, Ok, Err, Option, Result, refl, ap, ◌∙◌, ap₂, w32, w64, SFits, to_z, of_z, rules}
use Rattle.std.proofs.lemmas.Result.{err_from_is_err_and}
use Rattle.std.proofs.lemmas.Int.{to_z-of_z}
use Rattle.std.specs.Option.{option_map}
use Rattle.rings.specs.Refusals.{outcome}
use Rattle.rings.proofs.Refusals.{accepted, refused}
use Rattle.towers.specs.declared.fault.TowerFault.{TowerFault}
use Rattle.towers.specs.Encodings.{rotated_fault}
use Rattle.runs.specs.declared.fault.RunFault.{RunFault}
use Rattle.runs.specs.declared.fault.RunFault.TheVariants.{Tower}
use Rattle.runs.specs.Views.{state_of}
use Rattle.runs.proofs.Reading.{ReadDone, read_short, read_decoded}
use Rattle.runs.proofs.run.Run.read.Given as given
use Rattle.runs.proofs.run.Run.read.Goals as goal
use Rattle.runs.proofs.run.Run.read.Goals.{After-decode_rotated}

pub returns-then-third-numbers : goal.returns-then-third-numbers
returns-then-third-numbers g c =
    let t = g.T.Tower.tower c.args.self.now.tower in
    let done = read_short t (g.met.T.Tower.stands c.args.self.now.tower).laws (state_of c.args.self.now c.args.a.now c.args.b.now) c.args.third.now c.in_ok-ring.ensures.answer.0
    c.numbers-numbers.result.block (ap (λ x. x.block) c.numbers-numbers.ensures.answer) c.if-third-numbers.true (Err c.into.result) (ap Err c.into.ensures) in
    record { answer = done.answer; buffer = done.buffer; law = done.law }

-- what is known once the held ring is decoded, or refused with o
module _ (g : given.Over) (c : After-decode_rotated g) (o : Option TowerFault) where
  decoded : o ≡ rotated_fault (g.T.Tower.tower c.args.self.now.tower).top.states (g.T.Tower.tower c.args.self.now.tower).block c.in_ok-ring.ring.now (length c.args.third.now)
      → (r : Result (Unit {0}) RunFault) → r ≡ outcome (option_map Tower o) → ReadDone (g.T.Tower.tower c.args.self.now.tower) (state_of c.args.self.now c.args.a.now c.args.b.now) c.args.third.now c.decode_rotated.new.buffer r
  decoded fault r answer =
      let t = g.T.Tower.tower c.args.self.now.tower in
      let numbers = c.numbers-numbers.ensures.answer in
      let steps : SFits w32 c.args.self.now.steps = search rules in
      let drift : SFits w32 c.numbers-numbers.result.drift = search rules in
      let fits : SFits w64 c.turn_back-rotation.result = search rules in
      let turn : to_z w64 (of_z w64 c.turn_back-rotation.result) ≡ neg_ℤ (t.drift *ℤ c.args.self.now.steps) =
      to_z-of_z w64 c.turn_back-rotation.result fits ∙ c.turn_back-rotation.ensures
      ∙ ap₂ (λ d k. neg_ℤ (d *ℤ k)) (to_z-of_z w32 c.numbers-numbers.result.drift drift ∙ ap (λ x. x.drift) numbers) (to_z-of_z w32 c.args.self.now.steps steps) in
      read_decoded t (g.met.T.Tower.stands c.args.self.now.tower).laws (state_of c.args.self.now c.args.a.now c.args.b.now) c.args.third.now c.in_ok-ring.ensures.answer.0
      c.numbers-numbers.result.block (ap (λ x. x.block) numbers) c.in_ok-ring.ring.now c.in_ok-ring.ensures.answer.1 c.args.self.now.some c.if-third-numbers.false
      o fault (to_z w64 (of_z w64 c.turn_back-rotation.result)) (λ e. turn) c.decode_rotated.new.buffer c.decode_rotated.ensures.buffer r answer

pub returns-in_err-decode_rotated : goal.returns-in_err-decode_rotated
returns-in_err-decode_rotated g c =
    let t = g.T.Tower.tower c.args.self.now.tower in
    let f = c.in_err-decode_rotated.field-0.0 in
    let p = err_from_is_err_and c.from_residual-in_err-decode_rotated.result c.from_residual-in_err-decode_rotated.ensures.1 in
    let done = decoded g (goal.at.returns-in_err-decode_rotated g c).After-decode_rotated (Some f)
    (refused (rotated_fault t.top.states t.block c.in_ok-ring.ring.now (length c.args.third.now)) f c.in_err-decode_rotated.ensures.answer)
    c.from_residual-in_err-decode_rotated.result (p.1 ∙ ap Err p.2) in
    record { answer = done.answer; buffer = done.buffer; law = done.law }

pub returns : goal.returns
returns g c =
    let t = g.T.Tower.tower c.args.self.now.tower in
    let done = decoded g (goal.at.returns g c).After-decode_rotated None (accepted (rotated_fault t.top.states t.block c.in_ok-ring.ring.now (length c.args.third.now)) c.in_ok-decode_rotated.ensures.answer) (Ok tt) refl in
    record { answer = done.answer; buffer = done.buffer; law = done.law }
