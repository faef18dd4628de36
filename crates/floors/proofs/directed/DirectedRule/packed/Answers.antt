use Rattle.std.proofs.Common.{◌≡◌, ◌+◌, ◌-◌, ◌≤◌, Some, length, take, drop, sym, refl, ap, ◌∙◌, arith, w32, w64, SFits, to_z, of_z}
use Rattle.std.proofs.lemmas.Int.{to_z-of_z}
use Rattle.std.proofs.Math.Facts.{sfits_widen}
use Rattle.std.proofs.lemmas.List.{length_push}
use Rattle.std.specs.Slice.Iter.{windows_rest, windows_size}
use Rattle.rings.specs.Automaton.{toward}
use Rattle.rings.specs.Integers.{floor_mod}
use Rattle.rings.specs.Ring.{cell_at}
use Rattle.rings.proofs.Ring.{cell_at-some}
use Rattle.rules.specs.Steps.{value_of, part}
use Rattle.floors.proofs.Asking.{some-width, Unpacking, Under, NextDigit, usable_as, under_block, packed_value, no_digit, window_reads, next_number, next_digits, next_rest, all_digits}
use Rattle.floors.proofs.directed.DirectedRule.packed.Given as given
use Rattle.floors.proofs.directed.DirectedRule.packed.Goals as goal
use Rattle.floors.proofs.directed.DirectedRule.packed.Goals.{Start, After-cell_at, After-unwrap-skip, After-into_iter-window-iterator, After-apply}

unpacking : (g : given.Over) (c : Start g) → Unpacking c.args.self.now.states (toward c.args.self.now.direction (g.R.Rule.meaning c.args.self.now.rule.now)) c.args.self.now.width c.args.block.cells c.args.lo c.args.window.now
unpacking g c =
    let x = c.args.self.now in
    let lawful = g.met.R.Rule.lawful x.rule.now in
    record {
      usable = usable_as x.states x.direction (g.R.Rule.meaning x.rule.now) lawful x.same;
      width = x.wide;
      some = omega (arith, x.same, lawful.sound.some);
      positive = c.args.block.some;
      short = c.args.block.few;
      packing = c.requires;
    }

-- the windows begin where the interval does
cell_is : (g : given.Over) (c : After-cell_at g) → c.cell_at.result ≡ Some (floor_mod c.args.lo c.args.block.cells)
cell_is g c =
    let lo = c.args.lo in
    let m = c.args.block.cells in
    let wide : SFits w64 lo = sfits_widen tt c.ranges.lo in
    let offset : c.from.result ≡ lo = c.from.ensures ∙ to_z-of_z w32 lo c.ranges.lo in
    c.cell_at.ensures ∙ ap (λ z. cell_at z m) (ap (λ z. to_z w64 (of_z w64 z)) offset ∙ to_z-of_z w64 lo wide) ∙ cell_at-some lo m c.args.block.some

skip_is : (g : given.Over) (c : After-unwrap-skip g) → c.unwrap-skip.result ≡ floor_mod c.args.lo c.args.block.cells
skip_is g c = let told = sym c.unwrap-skip.ensures ∙ cell_is g (goal.at.After-unwrap-skip g c).After-cell_at in cc

-- what the windows go over
cells_are : (g : given.Over) (c : After-into_iter-window-iterator g)
    → windows_rest c.into_iter-window-iterator.result ≡ take (c.unwrap-skip.result + c.args.block.cells - 1 + c.args.self.now.width - c.unwrap-skip.result) (drop c.unwrap-skip.result c.unpack.new.cells)
cells_are g c = ap windows_rest c.into_iter-window-iterator.ensures.into_iter_gives ∙ c.windows-window-items.ensures.rest

under : (g : given.Over) (c : After-into_iter-window-iterator g)
    → Under c.args.self.now.states (toward c.args.self.now.direction (g.R.Rule.meaning c.args.self.now.rule.now)) c.args.self.now.width c.args.block.cells (windows_rest c.into_iter-window-iterator.result)
under g c =
    let at = goal.at.After-into_iter-window-iterator g c in
    under_block (unpacking g at.Start) c.unpack.new.cells c.unwrap-skip.result (skip_is g at.After-unwrap-skip) c.unpack.ensures (windows_rest c.into_iter-window-iterator.result) (cells_are g c)

pub loop-window-init : goal.loop-window-init
loop-window-init g c =
    let x = c.args.self.now in
    let size : windows_size c.into_iter-window-iterator.result ≡ x.width = ap windows_size c.into_iter-window-iterator.ensures.into_iter_gives ∙ c.windows-window-items.ensures.size in
    (omega (arith, size, some-width (toward x.direction (g.R.Rule.meaning x.rule.now)) x.width x.wide), size, refl, no_digit)

pub apply-requires : goal.apply-requires
apply-requires g c =
    let s = c.in-Some.ensures.steps in
    let size = c.loop-window.invariant.1 in
    let rest = windows_rest c.loop-window.window-iterator in
    window_reads (under g (goal.at.apply-requires g c).After-into_iter-window-iterator) c.loop-window.invariant.3 rest c.in-Some.window.now c.loop-window.invariant.2 (omega (arith, size, s.1.0)) (s.1.1 ∙ ap (λ n. take n rest) size)

next : (g : given.Over) (c : After-apply g)
    → NextDigit c.args.self.now.states (λ i. value_of (toward c.args.self.now.direction (g.R.Rule.meaning c.args.self.now.rule.now)) (part (windows_rest c.into_iter-window-iterator.result) i c.args.self.now.width))
    (length c.loop-window.yielded) c.loop-window.code c.loop-window.weight c.apply.result
next g c =
    let s = c.in-Some.ensures.steps in
    let size = c.loop-window.invariant.1 in
    let rest = windows_rest c.loop-window.window-iterator in
    next_number (under g (goal.at.After-apply g c).After-into_iter-window-iterator) c.loop-window.invariant.3 rest c.in-Some.window.now c.loop-window.invariant.2 (omega (arith, size, s.1.0)) (s.1.1 ∙ ap (λ n. take n rest) size) c.apply.result c.apply.ensures.value

pub overflow_mul-code : goal.overflow_mul-code
overflow_mul-code g c = omega (arith, (next g c).product)

pub overflow_add-code : goal.overflow_add-code
overflow_add-code g c = omega (arith, (next g (goal.at.overflow_add-code g c).After-apply).sum)

pub overflow_mul-weight : goal.overflow_mul-weight
overflow_mul-weight g c = omega (arith, (next g (goal.at.overflow_mul-weight g c).After-apply).power)

pub loop-window-preserved : goal.loop-window-preserved
loop-window-preserved g c =
    let all = under g (goal.at.loop-window-preserved g c).After-into_iter-window-iterator in
    let s = c.in-Some.ensures.steps in
    let size = c.loop-window.invariant.1 in
    let rest = windows_rest c.loop-window.window-iterator in
    let push = length_push c.loop-window.yielded c.in-Some.window in
    let long : c.args.self.now.width ≤ length rest = omega (arith, size, s.1.0) in
    let is = s.1.1 ∙ ap (λ n. take n rest) size in (
      omega (arith, s.0, c.loop-window.invariant.0),
      s.0 ∙ size,
      s.1.2 ∙ next_rest all c.loop-window.invariant.3 rest c.in-Some.window.now c.loop-window.invariant.2 long is _ push,
      next_digits all c.loop-window.invariant.3 rest c.in-Some.window.now c.loop-window.invariant.2 long is c.apply.result c.apply.ensures.value _ push,
    )

pub returns : goal.returns
returns g c =
    let at = goal.at.returns g c in
    let s = c.in-None.ensures.steps in
    let size = c.loop-window.invariant.1 in
    all_digits (under g at.After-into_iter-window-iterator) c.loop-window.invariant.3 (windows_rest c.loop-window.window-iterator) c.loop-window.invariant.2 (omega (arith, size, s.1.0)) ∙
    packed_value (unpacking g at.Start) c.unpack.new.cells c.unwrap-skip.result (skip_is g at.After-unwrap-skip) c.unpack.ensures (windows_rest c.into_iter-window-iterator.result) (cells_are g at.After-into_iter-window-iterator)
