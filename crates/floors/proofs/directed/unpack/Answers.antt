use Rattle.std.proofs.Common.{◌≡◌, ◌+◌, ◌-◌, ◌*◌, ◌≤◌, ◌++◌, length, get_or, take, drop, sym, ap, ◌∙◌, ap₂, arith, rules}
use Rattle.std.proofs.lemmas.List.{length-take, length-drop, take_all}
use Rattle.std.proofs.lemmas.Slice.{take-put_mid, overwrites}
use Rattle.rings.specs.Line.{tabulate}
use Rattle.rings.specs.Packing.{digit, unblocks}
use Rattle.rings.proofs.Line.{length-tabulate}
use Rattle.rings.proofs.Packing.{length-unblocks}
use Rattle.floors.proofs.Asking.{multiple_more, unblocks_more}
use Rattle.floors.proofs.directed.unpack.Goals as goal
use Rattle.floors.proofs.directed.unpack.Goals.{In-loop-i}

-- the block of a code ends inside the cells
block-ends : (c : In-loop-i) → c.loop-i.i * c.args.block.cells + c.args.block.cells ≤ length c.args.cells.now
block-ends c = omega (arith, (multiple_more c.loop-i.i (length c.args.window.now) c.args.block.cells c.loop-i-test.true).1, c.requires.room)

pub slice_bounds-write_digits-end : goal.slice_bounds-write_digits-end
slice_bounds-write_digits-end c = omega (arith, block-ends (goal.at.slice_bounds-write_digits-end c).In-loop-i, c.loop-i.invariant.1)

pub loop-i-preserved : goal.loop-i-preserved
loop-i-preserved c =
    let q = c.args.states in
    let m = c.args.block.cells in
    let ws = c.args.window.now in
    let i = c.loop-i.i in
    let cells = c.loop-i.cells in
    let digits = c.write_digits.new.cells in
    let inside = multiple_more i (length ws) m c.loop-i-test.true in
    let room : i * m + m ≤ length cells = omega (arith, inside.1, c.requires.room, c.loop-i.invariant.1) in
    let n : length (take (i * m + m - i * m) (drop (i * m) cells)) ≡ m = simp (length-take, length-drop) (omega arith) in
    let written : digits ≡ tabulate (digit q (get_or ws i 0)) m = c.write_digits.ensures ∙ ap (tabulate (digit q (get_or ws i 0))) n in
    let len : length digits ≡ m = ap length written ∙ length-tabulate (digit q (get_or ws i 0)) m in (
      take-put_mid (i * m) _ cells digits ((i + 1) * m) (omega (arith, inside.0)) (omega arith) ∙ ap₂ ◌++◌ c.loop-i.invariant.0 written ∙
          sym (unblocks_more q m i ws c.args.block.some c.loop-i-test.true) ∙ ap (λ k. take k (unblocks q m ws)) (sym inside.0),
      search (rules, overwrites),
    )

pub returns : goal.returns
returns c =
    let q = c.args.states in
    let m = c.args.block.cells in
    let ws = c.args.window.now in
    let all : length ws ≡ c.loop-i.i = omega (arith, c.loop-i-test.false) in
    ap (λ k. take (k * m) c.loop-i.cells) all ∙ c.loop-i.invariant.0 ∙ take_all (c.loop-i.i * m) (unblocks q m ws) (omega (arith, length-unblocks q m ws, ap (λ k. k * m) all))
