use Rattle.std.proofs.Common.{◌+◌, refl, arith}
use Rattle.rules.specs.Tables.{entry_index}
use Rattle.rules.specs.TablesLemmas.{entry_index_more, entry_index_small}
use Rattle.rules.proofs.table.index_of.Goals as goal

pub overflow_mul-index : goal.overflow_mul-index
overflow_mul-index c =
    let ws = c.args.window.now in
    let i = c.loop-code.code-index in
    let next = entry_index_more c.args.states ws i c.loop-code.index c.loop-code-test.true c.loop-code.invariant in
    let small = entry_index_small c.args.states ws (i + 1) 1024 c.requires.1.0 c.requires.0 c.requires.1.1 (omega arith) in
    omega arith

pub overflow_add-index : goal.overflow_add-index
overflow_add-index c =
    let ws = c.args.window.now in
    let i = c.loop-code.code-index in
    let next = entry_index_more c.args.states ws i c.loop-code.index c.loop-code-test.true c.loop-code.invariant in
    let small = entry_index_small c.args.states ws (i + 1) 1024 c.requires.1.0 c.requires.0 c.requires.1.1 (omega arith) in
    omega arith

pub loop-code-preserved : goal.loop-code-preserved
loop-code-preserved c = entry_index_more c.args.states c.args.window.now c.loop-code.code-index c.loop-code.index c.loop-code-test.true c.loop-code.invariant

pub loop-code-init : goal.loop-code-init
unfolding entry_index
loop-code-init c = refl
