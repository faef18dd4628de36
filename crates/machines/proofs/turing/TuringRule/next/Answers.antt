use Rattle.std.proofs.Common.{◌≡◌, slice_index, arith, rules}
use Rattle.rules.specs.Windows.{readable}
use Rattle.machines.specs.Turing.{next_symbol, next_head, turing}
use Rattle.machines.specs.Machines.{next_symbol_lt, fitting_next_head}
use Rattle.machines.specs.Views.{machine_of}
use Rattle.machines.specs.ViewsLemmas.{machine_proper}
use Rattle.machines.proofs.turing.TuringRule.next.Goals as goal

pub code_of-requires : goal.code_of-requires
code_of-requires c =
    let m = machine_of c.args.self.now in
    let p = machine_proper c.args.self.now in
    let window = c.args.window.now in
    let r = readable (turing m).states 3 window (search rules) in
    let left = r.codes 0 (omega (arith, r.len)) in
    let own = r.codes 1 (omega (arith, r.len)) in
    let right = r.codes 2 (omega (arith, r.len)) in
    let symbol : c.next_symbol.result ≡ next_symbol m (slice_index window 1) = search rules in
    let head : c.or_else-head.result ≡ next_head m (slice_index window 0) (slice_index window 1) (slice_index window 2) = search rules in
    (rw symbol (next_symbol_lt m p _ own), rw head (fitting_next_head m p _ _ _ left own right))
