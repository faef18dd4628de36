use Rattle.std.proofs.Common.{lit<, rules, w32, SFits}
use Rattle.floors.proofs.Arithmetic.{product_fits, product_is}
use Rattle.floors.proofs.numbers.TowerNumbers.iterated.Goals as goal

pub overflow_mul-result-2 : goal.overflow_mul-result-2
overflow_mul-result-2 c =
    let drift = c.args.self.numbers.drift in
    let fits : SFits w32 drift = search rules in
    product_fits drift c.args.times 16777216 16 c.args.self.workable.drift c.requires (lit< tt) (lit< tt) fits

pub returns : goal.returns
returns c =
    let drift = c.args.self.numbers.drift in
    let fits : SFits w32 drift = search rules in
    let is = product_is drift c.args.times 16777216 16 c.args.self.workable.drift c.requires (lit< tt) (lit< tt) fits in
    search rules
