use Rattle.std.proofs.Common.{arith}
use Rattle.rings.proofs.Line.{is_tabulate}
use Rattle.combinators.proofs.lift.Frame.read_halves.Goals as goal

pub returns : goal.returns
returns c = is_tabulate _ c.args.self.width c.loop-i.halves (omega arith) (λ k h. c.loop-i.invariant k (omega arith))
