use Rattle.std.proofs.Common.{◌≡◌, suc, ◌+◌, sym, refl, ap, ◌∙◌, ap₂, arith}
use Rattle.rings.proofs.Refusals.{accepted, refused}
use Rattle.rings.specs.Refusals.{unless_refused}
use Rattle.rings.specs.Automaton.{Automaton}
use Rattle.runs.specs.States.{State, moved}
use Rattle.runs.specs.Calls.{move_fault}
use Rattle.runs.specs.Views.{state_of}
use Rattle.runs.proofs.Refusals.{Movable, movable}
use Rattle.runs.proofs.Moving.{moved_more, unrefused-moved}
use Rattle.runs.proofs.run.Run.travel.Given as given
use Rattle.runs.proofs.run.Run.travel.Goals as goal
use Rattle.runs.proofs.run.Run.travel.Goals.{In_ok-check_move}

pub returns-in_err-check_move-clause-state : goal.returns-in_err-check_move-clause-state
returns-in_err-check_move-clause-state g c =
    let a = (g.T.Tower.tower c.args.self.now.tower).top in
    let s = state_of c.args.self.now c.args.a.now c.args.b.now in
    (refl, ap (λ o. unless_refused o (moved c.args.steps.direction a c.args.steps.count s) s) (refused (move_fault c.args.steps.direction a c.args.steps.count s) c.in_err-check_move.field-0.0 c.in_err-check_move.ensures))

-- what is known once nothing refuses
module _ (g : given.Over) (c : In_ok-check_move g) where
  abbrev top : Automaton
  top = (g.T.Tower.tower c.args.self.now.tower).top

  abbrev first : State
  first = state_of c.args.self.now c.args.a.now c.args.b.now

  can : Movable c.args.steps.direction top c.args.steps.count first
  can = movable c.args.steps.direction top c.args.steps.count first (sym (accepted (move_fault c.args.steps.direction top c.args.steps.count first) c.in_ok-check_move.ensures))

pub loop-init : goal.loop-init
unfolding moved
loop-init g c = (refl, refl)

pub step-requires : goal.step-requires
step-requires g c =
    let at = (goal.at.step-requires g c).In_ok-check_move in
    let run = c.args.self.now in
    let sound = (g.met.T.Tower.stands run.tower).laws.top in
    ap₂ (λ x s. move_fault c.args.steps.direction (g.T.Tower.tower x).top 1 s) c.loop.invariant.0 c.loop.invariant.1
    ∙ unrefused-moved c.args.steps.direction (top g at) sound c.args.steps.count (first g at) run.some run.near (can g at) c.loop.counter c.loop-test.true

pub loop-preserved : goal.loop-preserved
loop-preserved g c =
    let at = (goal.at.loop-preserved g c).In_ok-check_move in
    let run = c.args.self.now in
    let d = c.args.steps.direction in
    let i = c.loop.counter in
    let sound = (g.met.T.Tower.stands run.tower).laws.top in
    let one : suc i ≡ i + 1 = omega arith in (
      c.step.ensures.0 ∙ c.loop.invariant.0,
      c.step.ensures.1
          ∙ ap₂ (λ x s. moved d (g.T.Tower.tower x).top 1 s) c.loop.invariant.0 c.loop.invariant.1
          ∙ moved_more d (top g at) sound c.args.steps.count (first g at) run.some run.near (can g at) i
          ∙ ap (λ n. moved d (top g at) n (first g at)) one,
    )
