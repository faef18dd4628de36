use Rattle.std.proofs.Common.{◌≡◌, ap, ◌∙◌, w32, SFits, rules}
use Rattle.std.proofs.lemmas.Int.{to_z-of_z}
use Rattle.rings.specs.Local.{span}
use Rattle.rules.specs.Answers.{checked}
use Rattle.rules.specs.Windows.{readable}
use Rattle.rules.proofs.table.TableRule.next.Goals as goal

pub entry-requires : goal.entry-requires
entry-requires c =
    let t = c.args.self.now in
    let f : SFits w32 t.shape.lo = search rules in
    let k : SFits w32 t.shape.hi = search rules in
    let wide : c.interval_width.result ≡ span t.shape.lo t.shape.hi = simp to_z-of_z at c.interval_width.ensures in
    readable t.shape.states (span t.shape.lo t.shape.hi) c.args.window.now (c.in_ok-check_window.ensures.answer ∙ ap (λ w. checked t.shape.states w c.args.window.now tt) wide)
