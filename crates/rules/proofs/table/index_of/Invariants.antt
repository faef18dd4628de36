use Rattle.std.proofs.Common.{◌≡◌, take}
use Rattle.rules.specs.Tables.{entry_index}
use Rattle.rules.proofs.table.index_of.Given as goal

abbrev pub invariant-loop-code : goal.invariant-loop-code
invariant-loop-code l = l.index ≡ entry_index l.states (take l.code-index l.window)
