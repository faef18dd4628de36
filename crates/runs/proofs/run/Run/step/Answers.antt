use Rattle.rings.specs.Automaton.{toward_steps}
use Rattle.std.proofs.Common.{◌+ℤ◌, take, sym, ap, ◌∙◌}
use Rattle.rules.specs.Maps.{map_answer, map_buffer}
use Rattle.runs.specs.Views.{state_of}
use Rattle.runs.proofs.Refusals.{movable}
use Rattle.runs.proofs.Moving.{stored, accepted_from_a, accepted_from_b, step_from_a, step_from_b}
use Rattle.runs.proofs.run.Run.step.Goals as goal
use Rattle.runs.proofs.run.Run.step.Goals.{in-A, in-B}

pub unwrap-requires : goal.unwrap-requires
unwrap-requires g c =
    let run = c.args.self.now in
    let d = c.args.direction in
    let a = c.args.a.now in
    let b = c.args.b.now in
    let t = g.T.Tower.tower run.tower in
    let top = g.met.T.Tower.is_top run.tower in
    let m = movable d t.top 1 (state_of run a b) c.requires in
    elim c.match-holder.branch [
      | in-A w ↦ accepted_from_a d t.top (state_of run a b) run.some run.few m (sym w.in-A.ensures) _ (w.unwrap-is ∙ w.map_ring.ensures.answer ∙ ap (λ x. map_answer d x (take run.cells a) b) top)
      | in-B w ↦ accepted_from_b d t.top (state_of run a b) run.some run.few m (sym w.in-B.ensures) _ (w.unwrap-is ∙ w.map_ring-in-B.ensures.answer ∙ ap (λ x. map_answer d x (take run.cells b) a) top)
    ]

pub returns : goal.returns
returns g c =
    let run = c.args.self.now in
    let d = c.args.direction in
    let a = c.args.a.now in
    let b = c.args.b.now in
    let t = g.T.Tower.tower run.tower in
    let top = g.met.T.Tower.is_top run.tower in
    let m = movable d t.top 1 (state_of run a b) c.requires in
    elim c.match-holder.branch [
      | in-A w ↦
          let steps = stored (run.steps +ℤ toward_steps d 1) c.steps_after.result (c.steps_after.ensures ∙ ap (λ x. x.steps +ℤ toward_steps d 1) w.self-is) m.near in (
            ap (λ x. x.tower) w.self-is,
            step_from_a d t.top (state_of run a b) run.some run.few m (sym w.in-A.ensures) _ _ _ _ (ap (λ x. x.cells) w.self-is) steps w.a-is
                (w.b-is ∙ w.map_ring.ensures.buffer ∙ ap (λ x. map_buffer d x (take run.cells a) b) top),
          )
      | in-B w ↦
          let steps = stored (run.steps +ℤ toward_steps d 1) c.steps_after.result (c.steps_after.ensures ∙ ap (λ x. x.steps +ℤ toward_steps d 1) w.self-is) m.near in (
            ap (λ x. x.tower) w.self-is,
            step_from_b d t.top (state_of run a b) run.some run.few m (sym w.in-B.ensures) _ _ _ _ (ap (λ x. x.cells) w.self-is) steps
                (w.a-is ∙ w.map_ring-in-B.ensures.buffer ∙ ap (λ x. map_buffer d x (take run.cells b) a) top) w.b-is,
          )
    ]
