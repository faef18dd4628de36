use Rattle.std.proofs.Common.{◌≤◌, nat_abs, ap, ◌∙◌, arith}
use Rattle.std.proofs.lemmas.Int.{ints}
use Rattle.floors.specs.Actions.{shift_numbers}
use Rattle.floors.proofs.Arithmetic.{negation_is}
use Rattle.floors.proofs.numbers.TowerNumbers.shifted_to_zero.Goals as goal

pub returns : goal.returns
returns c =
    let lawful = c.args.self.workable.packable.ends in
    let small : nat_abs c.args.self.numbers.lo ≤ 128 = omega (arith, ints) in
    c.shifted.ensures ∙ ap (λ z. shift_numbers z c.args.self.numbers) (negation_is c.args.self.numbers.lo small)
