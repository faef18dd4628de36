use Rattle.std.proofs.Common.{◌/◌, ◌%◌, ◌^◌, ◌<◌, length, sym, ap, ◌∙◌, arith}
use native.Mathlib.Nat.{div-div-eq-div-mul}
use Rattle.rings.specs.Packing.{digit}
use Rattle.rings.proofs.Line.{is_tabulate}
use Rattle.rules.proofs.Maps.{one_more}
use Rattle.rules.specs.TablesLemmas.{pow_more}
use Rattle.floors.proofs.directed.write_digits.Goals as goal

pub loop-cell-preserved : goal.loop-cell-preserved
loop-cell-preserved c =
    let q = c.args.states in
    let code = c.args.code in
    let i = c.loop-cell.cell-index in
    let inside : i < length c.loop-cell.cells = omega arith in (
      ap (λ n. n / q) c.loop-cell.invariant.0 ∙ div-div-eq-div-mul code (q ^ i) q ∙ ap (λ n. code / n) (sym (pow_more q i)),
      one_more (digit q code) c.loop-cell.cells i _ inside c.loop-cell.invariant.1 (ap (λ n. n % q) c.loop-cell.invariant.0),
    )

pub returns : goal.returns
returns c = is_tabulate (digit c.args.states c.args.code) (length c.args.cells.now) c.loop-cell.cells (omega arith) (λ k l. c.loop-cell.invariant.1 k (omega arith))
