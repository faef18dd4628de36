use Rattle.std.proofs.Common.{sym, ◌∙◌, subst}
use Rattle.rings.specs.Ring.{IsFirstStray}
use Rattle.rings.proofs.Ring.{stray_from-drop, stray_from-found, stray_from_end, is_first_stray}
use Rattle.rings.proofs.first_stray.Goals as goal

pub returns-then-code-states : goal.returns-then-code-states
returns-then-code-states c =
    let q = c.args.states in
    let cells = c.args.cells.now in
    let e = sym (stray_from-found c.loop-i.i q cells c.loop-i-test.true c.if-code-states.true) ∙ c.loop-i.invariant in
    record { answer = e; law = subst (IsFirstStray q cells) (sym e) (is_first_stray q cells) }

pub loop-i-preserved : goal.loop-i-preserved
loop-i-preserved c =
    sym (stray_from-drop c.loop-i.i c.args.states c.args.cells.now c.loop-i-test.true c.if-code-states.false) ∙ c.loop-i.invariant

pub returns : goal.returns
returns c =
    let q = c.args.states in
    let cells = c.args.cells.now in
    let e = sym (stray_from_end c.loop-i.i q cells c.loop-i-test.false) ∙ c.loop-i.invariant in
    record { answer = e; law = subst (IsFirstStray q cells) (sym e) (is_first_stray q cells) }
