use Rattle.std.proofs.Common.{◌≡◌, ℕ, Ok, IsOk, Result, sym, refl, ◌∙◌, subst}
use Rattle.rings.specs.Automaton.{toward}
use Rattle.rules.specs.declared.fault.RuleFault.{RuleFault}
use Rattle.rules.specs.Steps.{value_of, Reads}
use Rattle.rules.proofs.Maps.{answer-reads}
use Rattle.floors.proofs.directed.DirectedRule.apply.Given as given
use Rattle.floors.proofs.directed.DirectedRule.apply.Goals as goal
use Rattle.floors.proofs.directed.DirectedRule.apply.Goals.{After-step}

stepped : (g : given.Over) (c : After-step g) → c.step.result ≡ Ok (value_of (toward c.args.self.now.direction (g.R.Rule.meaning c.args.self.now.rule.now)) c.args.window.now)
stepped g c =
    let x = c.args.self.now in
    let a = g.R.Rule.meaning x.rule.now in
    let o = toward x.direction a in
    let ws = c.args.window.now in
    c.step.ensures.answer ∙ answer-reads a.states o ws (subst (λ q. Reads q o ws) x.same c.requires)

pub unwrap-requires : goal.unwrap-requires
unwrap-requires g c = subst (λ (r : Result ℕ RuleFault). IsOk r) (sym (stepped g c)) refl
