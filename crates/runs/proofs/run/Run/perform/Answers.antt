use Rattle.std.proofs.Common.{◌≡◌, length, get_or, Some, sym, ap, ◌∙◌}
use Rattle.std.specs.Option.{option_map, option_or}
use Rattle.rings.proofs.Refusals.{accepted, refused}
use Rattle.runs.specs.declared.Call.TheVariants.{Advance}
use Rattle.runs.specs.Calls.{call_fault, refused_at}
use Rattle.runs.specs.Views.{state_of}
use Rattle.runs.proofs.Performing.{option_or_none, inserted, performed_more, performed_third_more, first_refused_more, performed_end, performed_third_end, first_refused_end}
use Rattle.runs.proofs.Shown.{perform_law}
use Rattle.runs.proofs.run.Run.perform.Goals as goal
use Rattle.runs.proofs.run.Run.perform.Goals.{in-Err, in_default}

pub loop-index-preserved : goal.loop-index-preserved
loop-index-preserved g c =
    let t = g.T.Tower.tower c.args.self.now.tower in
    let u = g.T.Tower.tower c.loop-index.self.tower in
    let same : u ≡ t = ap g.T.Tower.tower c.loop-index.invariant.0 in
    let s = state_of c.loop-index.self c.loop-index.a c.loop-index.b in
    let after = state_of c.perform_call.new.self c.perform_call.new.a c.perform_call.new.b in
    let calls = c.args.calls.now in
    let i = c.loop-index.index in
    let h = c.loop-index-test.true in
    let state = c.perform_call.ensures.state in
    let before = c.loop-index.refused in
    let fault = call_fault u (get_or calls i (Advance 0)) s (length c.loop-index.third) in
    let told : c.match-perform_call.refused ≡ option_or before (option_map (refused_at i) fault) =
    elim c.match-perform_call.branch [
      | in-Err w ↦ w.refused-is ∙ ap Some w.get_or_insert.ensures.value ∙ inserted before (refused_at i w.in-Err.fault) ∙ ap (λ o. option_or before (option_map (refused_at i) o)) (refused fault w.in-Err.fault w.in-Err.ensures.answer)
      | in_default w ↦ w.refused-is ∙ sym (option_or_none before) ∙ ap (λ o. option_or before (option_map (refused_at i) o)) (accepted fault w.in_default.ensures.answer)
    ] in (
      state.0 ∙ c.loop-index.invariant.0,
      c.perform_call.auto.third ∙ c.loop-index.invariant.1,
      sym (performed_more t u same calls i (Advance 0) h s after state.1) ∙ c.loop-index.invariant.2,
      sym (performed_third_more t u same calls i (Advance 0) h s after state.1 c.loop-index.third c.perform_call.new.third c.perform_call.ensures.third) ∙ c.loop-index.invariant.3,
      sym (first_refused_more t u same calls i (Advance 0) h s after state.1 _ _ c.loop-index.invariant.1 before c.match-perform_call.refused told) ∙ c.loop-index.invariant.4,
    )

pub returns : goal.returns
returns g c =
    let t = g.T.Tower.tower c.args.self.now.tower in
    let s = state_of c.args.self.now c.args.a.now c.args.b.now in
    let after = state_of c.loop-index.self c.loop-index.a c.loop-index.b in
    let calls = c.args.calls.now in
    let i = c.loop-index.index in
    let h = c.loop-index-test.false in
    let answer = sym (first_refused_end t calls i h after _ c.loop-index.refused) ∙ c.loop-index.invariant.4 in
    let state = sym (performed_end t calls i h after) ∙ c.loop-index.invariant.2 in
    record {
      answer = answer;
      state = (c.loop-index.invariant.0, state);
      third = sym (performed_third_end t calls i h after c.loop-index.third) ∙ c.loop-index.invariant.3;
      law = perform_law t (g.met.T.Tower.stands c.args.self.now.tower).laws calls s after _ _ answer state;
    }
