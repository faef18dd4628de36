use Rattle.std.proofs.Common.{◌≤◌, ℤ, nat_abs, ap₂, arith, lit<, w32, SFits, rules}
use Rattle.std.proofs.lemmas.Int.{ints}
use Rattle.floors.proofs.Arithmetic.{product_is}
use Rattle.floors.proofs.numbers.Interval.iterated.Goals as goal

pub returns : goal.returns
returns c =
    let lawful = c.args.self.lawful in
    let lo : nat_abs c.args.self.lo ≤ 128 = omega (arith, ints) in
    let hi : nat_abs c.args.self.hi ≤ 128 = omega (arith, ints) in
    let fits_lo : SFits w32 c.args.self.lo = search rules in
    let fits_hi : SFits w32 c.args.self.hi = search rules in
    ap₂ (λ (a b : ℤ). (a, b))
    (product_is c.args.self.lo c.args.times 128 16 lo c.requires (lit< tt) (lit< tt) fits_lo)
    (product_is c.args.self.hi c.args.times 128 16 hi c.requires (lit< tt) (lit< tt) fits_hi)
