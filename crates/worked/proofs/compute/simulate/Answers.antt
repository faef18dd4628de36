use Rattle.std.proofs.Common.{◌≡◌, length, pos, Ok, vec_items, sym, ap, ◌∙◌, subst, arith}
use Rattle.std.specs.Vec.{with_items}
use Rattle.std.proofs.Math.Path.{subst₂}
use Rattle.std.proofs.lemmas.List.{with_items_is}
use Rattle.runs.specs.declared.Call.TheVariants.{Advance}
use Rattle.runs.specs.States.{State}
use Rattle.runs.specs.Laws.{MoveLaw, ReadLaw, Shows}
use Rattle.runs.specs.Views.{state_of}
use Rattle.worked.specs.Worked.{read}
use Rattle.worked.proofs.Calls.{shows_after, tells, tells_held}
use Rattle.worked.proofs.compute.simulate.Given as given
use Rattle.worked.proofs.compute.simulate.Goals as goal
use Rattle.worked.proofs.compute.simulate.Goals.{After-present}

-- once the run is presented
module _ (g : given.Over) (c : After-present g) where
  abbrev before : State
  before = state_of c.in_ok-run.run' c.make.new.a c.as_mut_slice-b.result.now

  abbrev reached : State
  reached = state_of c.advance.new.self c.advance.new.a c.advance.new.b

  shows : Shows (g.T.Tower.tower c.args.tower) c.args.ring.now (pos c.args.steps) reached
  shows =
      shows_after (g.T.Tower.tower c.args.tower) c.args.ring.now c.args.steps before reached c.in_ok-run.ensures.answer.2
      (subst₂ (λ x n. MoveLaw (g.T.Tower.tower x) (Advance n) before reached (Ok tt)) c.in_ok-run.ensures.answer.1.0 c.from.ensures c.in_ok-advance.ensures.law)

  -- the run is of the same tower all along
  of_tower : ReadLaw (g.T.Tower.tower c.advance.new.self.tower) reached c.deref_mut.result.now c.read.new.third (Ok tt) → ReadLaw (g.T.Tower.tower c.args.tower) reached c.deref_mut.result.now c.read.new.third (Ok tt)
  of_tower = subst (λ x. ReadLaw (g.T.Tower.tower x) reached c.deref_mut.result.now c.read.new.third (Ok tt)) (c.in_ok-advance.ensures.state.0 ∙ c.in_ok-run.ensures.answer.1.0)

  size : length c.deref_mut.result.now ≡ length c.args.ring.now
  size = c.deref_mut.ensures.len ∙ c.in_ok-told.ensures.len

  filled : vec_items (with_items c.in_ok-told.told c.read.new.third) ≡ c.read.new.third
  filled = with_items_is c.in_ok-told.told c.read.new.third (omega (arith, c.read.auto.third, c.deref_mut.ensures.len))

pub returns-clause-top : goal.returns-clause-top
returns-clause-top g c =
    let at = (goal.at.returns-clause-top g c).After-present in
    c.in_ok-top.ensures.items ∙ c.in_ok-present.ensures.answer.1 ∙ (shows g at).ring

pub returns-clause-told : goal.returns-clause-told
returns-clause-told g c =
    let at = (goal.at.returns-clause-told g c).After-present in
    filled g at ∙ tells (g.T.Tower.tower c.args.tower) c.args.ring.now c.args.steps (reached g at) (shows g at) c.deref_mut.result.now c.read.new.third (size g at) (of_tower g at c.in_ok-read.ensures.law)

pub returns-clause-read : goal.returns-clause-read
returns-clause-read g c =
    let t = g.T.Tower.tower c.args.tower in
    let at = (goal.at.returns-clause-read g c).After-present in
    let tells_ring = tells_held t c.args.ring.now c.args.steps (reached g at) (shows g at) c.deref_mut.result.now c.read.new.third (size g at) (of_tower g at c.in_ok-read.ensures.law) (g.met.T.Tower.stands c.args.tower).laws in
    filled g at ∙ tells_ring ∙ ap (read t (pos c.args.steps)) (sym (c.in_ok-top.ensures.items ∙ c.in_ok-present.ensures.answer.1))
