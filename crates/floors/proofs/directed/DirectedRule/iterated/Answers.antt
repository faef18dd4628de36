use Rattle.std.proofs.Common.{sym, rules}
use Rattle.rings.specs.Automaton.{toward}
use Rattle.floors.proofs.Asking.{Stepping, usable_as, first_row, last_row, inside, size, codes, next_row}
use Rattle.floors.proofs.directed.DirectedRule.iterated.Given as given
use Rattle.floors.proofs.directed.DirectedRule.iterated.Goals as goal
use Rattle.floors.proofs.directed.DirectedRule.iterated.Goals.{Start}

stepping : (g : given.Over) (c : Start g) → Stepping c.args.self.now.states (toward c.args.self.now.direction (g.R.Rule.meaning c.args.self.now.rule.now)) c.args.self.now.width c.args.times c.args.window.now
stepping g c =
    let x = c.args.self.now in
    record { usable = usable_as x.states x.direction (g.R.Rule.meaning x.rule.now) (g.met.R.Rule.lawful x.rule.now) x.same; width = x.wide; reads = c.requires.reads; short = c.requires.short }

pub loop-left-init : goal.loop-left-init
loop-left-init g c = first_row (stepping g (goal.at.loop-left-init g c).Start) c.begin_row.new.row c.begin_row.ensures

pub slice_bounds-row-end : goal.slice_bounds-row-end
slice_bounds-row-end g c =
    let ends = inside (stepping g (goal.at.slice_bounds-row-end g c).Start) c.loop-left.left c.loop-left.row c.loop-left-test.true c.loop-left.auto.left c.type_inv.row c.loop-left.invariant in
    search rules

pub slice_bounds-advance-end : goal.slice_bounds-advance-end
slice_bounds-advance-end g c = sym (size (stepping g (goal.at.slice_bounds-advance-end g c).Start) c.loop-left.left c.loop-left.row c.loop-left-test.true c.loop-left.auto.left c.loop-left-test.array_long c.loop-left.invariant)

pub advance-requires-clause-codes : goal.advance-requires-clause-codes
advance-requires-clause-codes g c =
    codes (stepping g (goal.at.advance-requires-clause-codes g c).Start) c.loop-left.left c.loop-left.row c.loop-left-test.true c.loop-left.auto.left c.loop-left-test.array_long c.loop-left.invariant

pub loop-left-preserved : goal.loop-left-preserved
loop-left-preserved g c =
    next_row (stepping g (goal.at.loop-left-preserved g c).Start) c.loop-left.left c.loop-left.row c.loop-left-test.true c.loop-left.auto.left c.loop-left-test.array_long c.loop-left.invariant
    c.advance.new.row _ c.advance.auto.row c.advance.ensures

pub returns : goal.returns
returns g c = last_row (stepping g (goal.at.returns g c).Start) c.loop-left.left c.loop-left.row c.loop-left-test.false c.loop-left.invariant
