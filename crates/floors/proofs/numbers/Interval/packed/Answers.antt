use Rattle.std.proofs.Common.{◌≡◌, ◌-◌, ℤ, pos, ◌+ℤ◌, ◌-ℤ◌, ◌∙◌, ap₂, arith, w32, SFits, to_z, of_z, rules}
use Rattle.std.proofs.lemmas.Int.{ints, to_z-of_z}
use Rattle.floors.proofs.Arithmetic.{quotient_is}
use Rattle.floors.proofs.numbers.Interval.packed.Goals as goal

pub returns : goal.returns
returns c =
    let lawful = c.args.self.lawful in
    let range = c.args.block.few in
    let m = c.args.block.cells in
    let lo = c.args.self.lo in
    let hi = c.args.self.hi in
    let first : SFits w32 c.div_euclid.result = search rules in
    let second : SFits w32 c.div_euclid-2.result = search rules in
    let divisor : to_z w32 m ≡ pos m = omega (arith, ints) in
    let low : to_z w32 (of_z w32 lo) ≡ lo = omega (arith, ints) in
    let high : to_z w32 (of_z w32 (to_z w32 (of_z w32 (to_z w32 m -ℤ pos 1)) +ℤ to_z w32 (of_z w32 hi))) ≡ pos (m - 1) +ℤ hi = omega (arith, ints) in
    ap₂ (λ (a b : ℤ). (a, b))
    (to_z-of_z w32 c.div_euclid.result first ∙ quotient_is lo (to_z w32 (of_z w32 lo)) (to_z w32 m) c.div_euclid.result m c.div_euclid.ensures low divisor)
    (to_z-of_z w32 c.div_euclid-2.result second ∙
    quotient_is (pos (m - 1) +ℤ hi) (to_z w32 (of_z w32 (to_z w32 (of_z w32 (to_z w32 m -ℤ pos 1)) +ℤ to_z w32 (of_z w32 hi)))) (to_z w32 m) c.div_euclid-2.result m c.div_euclid-2.ensures high divisor)
