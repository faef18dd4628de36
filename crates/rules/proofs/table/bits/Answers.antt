use Rattle.std.proofs.Common.{◌≡◌, ℕ, get_or, rules, below_more}
use borrow.Author.Count.{below_none}
use Rattle.rings.proofs.Line.{is_tabulate}
use Rattle.rules.specs.Elementary.{bit}
use Rattle.rules.proofs.table.bits.Goals as goal

pub returns : goal.returns
returns c =
    let P = λ (k : ℕ). get_or c.from_fn.result k 0 ≡ bit c.args.number k in
    let three = below_more P 2 (below_more P 1 (below_more P 0 (below_none P) (search rules)) (search rules)) (search rules) in
    let six = below_more P 5 (below_more P 4 (below_more P 3 three (search rules)) (search rules)) (search rules) in
    is_tabulate (bit c.args.number) 8 c.from_fn.result c.from_fn.ensures.items.long (below_more P 7 (below_more P 6 six (search rules)) (search rules))
