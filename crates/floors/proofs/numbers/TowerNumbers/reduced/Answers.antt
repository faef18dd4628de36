use Rattle.std.proofs.Common.{sym, ap, ◌∙◌, subst}
use Rattle.floors.specs.Acting.{Workable, limited}
use Rattle.floors.specs.ActingLemmas.{limited_is, workable_shifted, shifted_not}
use Rattle.floors.proofs.numbers.TowerNumbers.reduced.Goals as goal

pub returns-in_err-numbers : goal.returns-in_err-numbers
returns-in_err-numbers c = c.from_residual.ensures ∙ shifted_not c.args.self.numbers c.args.self.workable (c.in_err-numbers.ensures ∙ ap limited c.shifted_to_zero.ensures)

pub invariant_of-packed : goal.invariant_of-packed
invariant_of-packed c =
    let p = limited_is _ _ (c.in_ok-numbers.ensures ∙ ap limited c.shifted_to_zero.ensures) in
    record { workable = subst Workable (sym p.1) (workable_shifted c.args.self.numbers c.args.self.workable p.0) }
