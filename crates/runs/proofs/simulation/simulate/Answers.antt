use Rattle.std.proofs.Common.{◌≡◌, ◌/◌, min, length, Err, sym, refl, ap, ap₂, ◌∙◌, subst}
use Rattle.std.proofs.lemmas.Result.{err_from_is_err_and}
use Rattle.std.specs.Option.{option_map}
use Rattle.towers.specs.Encodings.{encode_fault}
use Rattle.towers.specs.TowersLemmas.{encode-apart}
use Rattle.runs.specs.declared.fault.RunFault.TheVariants.{Tower}
use Rattle.runs.specs.Calls.{performed_third}
use Rattle.runs.specs.Laws.{PerformLaw, ReadLaw}
use Rattle.runs.specs.States.{State}
use Rattle.runs.specs.Views.{state_of}
use Rattle.runs.specs.Simulations.{Simulated}
use Rattle.runs.proofs.Moving.{state_is}
use Rattle.runs.proofs.Simulating.{room_of, third_fault, Ran, read_ok, simulates}
use Rattle.runs.proofs.simulation.simulate.Given as given
use Rattle.runs.proofs.simulation.simulate.Goals as goal
use Rattle.runs.proofs.simulation.simulate.Goals.{After-begin, After-read}

-- once a run is begun, or refused
module _ (g : given.Over) (c : After-begin g) where
  room : c.min-room.result ≡ room_of (g.T.Tower.tower c.args.tower) c.args.a.now c.args.b.now c.args.third.now
  room = c.min-room.ensures ∙ ap₂ (λ n x. min n (length c.args.third.now / x.block)) c.min.ensures c.numbers-block.ensures.answer

-- once the ring that is reached is read
module _ (g : given.Over) (c : After-read g) (is_room : c.min-room.result ≡ room_of (g.T.Tower.tower c.args.tower) c.args.a.now c.args.b.now c.args.third.now) where
  abbrev first : State
  first = state_of c.in_ok-run.run' c.begin.new.a c.args.b.now

  abbrev reached : State
  reached = state_of c.perform-refused.new.self c.perform-refused.new.a c.perform-refused.new.b

  ran : Ran (g.T.Tower.tower c.args.tower) c.args.ring.now c.args.calls.now c.args.a.now c.args.b.now c.args.third.now first reached c.perform-refused.result c.perform-refused.new.third c.read.new.third c.read.result
  ran =
      let t = g.T.Tower.tower c.args.tower in
      let begun = c.in_ok-run.ensures in
      let done = c.perform-refused in
      record {
        unrefused = ap (encode_fault t.bottom.states t.block c.args.ring.now) (sym is_room) ∙ begun.0;
        is_made = state_is begun.2 begun.3 begun.4 refl;
        performs = subst (λ x. PerformLaw (g.T.Tower.tower x) c.args.calls.now first reached (length c.args.third.now) done.result) begun.1 done.ensures.law;
        reads_so_far = done.ensures.third ∙ ap (λ x. performed_third (g.T.Tower.tower x) c.args.calls.now first c.args.third.now) begun.1;
        same_length = done.auto.third;
        reads = subst (λ x. ReadLaw (g.T.Tower.tower x) reached done.new.third c.read.new.third c.read.result) (done.ensures.state.0 ∙ begun.1) c.read.ensures.law;
      }

pub returns-in_err-run : goal.returns-in_err-run
returns-in_err-run g c =
    let x = c.args.tower in
    let t = g.T.Tower.tower x in
    let standing = g.met.T.Tower.stands x in
    let ring = c.args.ring.now in
    let a = c.args.a.now in
    let b = c.args.b.now in
    let third = c.args.third.now in
    let refused = c.in_err-run.ensures in
    let p = err_from_is_err_and c.from_residual.result c.from_residual.ensures.1 in
    let fault = sym (third_fault t.bottom.states t.block standing.laws.block ring (min (length a) (length b)) (length third))
    ∙ ap (λ n. option_map Tower (encode_fault t.bottom.states t.block ring n)) (sym (room g (goal.at.returns-in_err-run g c).After-begin)) ∙ refused.0 in
    record {
      answer = subst (λ r. Simulated t x ring c.args.calls.now a b third r c.begin.new.a b third) (sym (p.1 ∙ ap Err p.2)) (fault, refused.1, refused.2, refl, refl);
      apart = λ n. encode-apart t standing.laws n n;
    }

pub unwrap-requires : goal.unwrap-requires
unwrap-requires g c = let at = goal.at.unwrap-requires g c in read_ok (g.met.T.Tower.stands c.args.tower) (ran g at.After-read (room g at.After-begin))

pub returns : goal.returns
returns g c =
    let x = c.args.tower in
    let t = g.T.Tower.tower x in
    let standing = g.met.T.Tower.stands x in
    let at = goal.at.returns g c in
    let all = ran g at.After-read (room g at.After-begin) in
    let law = simulates standing all c.tell-told.result c.tell-told.ensures.answer in
    record {
      answer = (
        sym (third_fault t.bottom.states t.block standing.laws.block c.args.ring.now (min (length c.args.a.now) (length c.args.b.now)) (length c.args.third.now)) ∙ ap (option_map Tower) all.unrefused,
        c.perform-refused.ensures.state.0 ∙ c.in_ok-run.ensures.1,
        law.0,
        law.1,
      );
      apart = λ n. encode-apart t standing.laws n n;
    }
