use Rattle.std.proofs.Common.{arith, rules, w32}
use Rattle.std.proofs.lemmas.Int.{to_z-of_z}
use Rattle.floors.proofs.Arithmetic.{fits_small, negation_is, sum_fits, sum_is}
use Rattle.floors.proofs.numbers.TowerNumbers.shifted.Goals as goal

pub overflow_add-result : goal.overflow_add-result
overflow_add-result c =
    let drift = c.args.self.numbers.drift in
    let turn = c.turn.result in
    sum_fits drift turn _ _ (to_z-of_z w32 drift (fits_small drift (omega (arith, c.args.self.workable.drift)))) (to_z-of_z w32 turn (fits_small turn (omega (arith, c.turn.ensures.small)))) (omega (arith, c.args.self.workable.drift, c.turn.ensures.small))

pub returns : goal.returns
returns c =
    let drift = c.args.self.numbers.drift in
    let turn = c.turn.result in
    let sum = sum_is drift turn _ _ (to_z-of_z w32 drift (fits_small drift (omega (arith, c.args.self.workable.drift)))) (to_z-of_z w32 turn (fits_small turn (omega (arith, c.turn.ensures.small)))) (omega (arith, c.args.self.workable.drift, c.turn.ensures.small)) in
    let back = negation_is c.args.s c.requires in
    search rules
