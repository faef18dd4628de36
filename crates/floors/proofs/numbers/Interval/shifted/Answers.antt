use Rattle.std.proofs.Common.{ℤ, ap₂, arith}
use Rattle.std.proofs.lemmas.Int.{ints}
use Rattle.floors.proofs.numbers.Interval.shifted.Goals as goal

pub returns : goal.returns
returns c =
    let lawful = c.args.self.lawful in
    let small = c.requires in
    ap₂ (λ (a b : ℤ). (a, b)) (omega (arith, ints)) (omega (arith, ints))
