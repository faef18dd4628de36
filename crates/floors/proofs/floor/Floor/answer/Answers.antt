use Rattle.std.proofs.Common.{◌≡◌, Some, None, Err, sym, ap, ◌∙◌, ap₂, subst, rules, w32, SFits, to_z, of_z, ℤ, ℕ}
use Rattle.std.proofs.lemmas.Int.{to_z-of_z}
use Rattle.std.proofs.lemmas.Result.{err_from_is_err_and}
use Rattle.rings.specs.Integers.{floor_mod}
use Rattle.rings.specs.Local.{span}
use Rattle.rings.specs.Automaton.{toward}
use Rattle.rings.specs.Transformations.{pack_value}
use Rattle.rules.specs.declared.fault.RuleFault.TheVariants.{NoInverse}
use Rattle.rules.specs.Answers.{checked}
use Rattle.rules.specs.Steps.{value_of}
use Rattle.floors.specs.declared.action.Action.TheVariants.{Iterate, Mirror}
use Rattle.floors.specs.Asking.{HasWidth, interval, packed_numbers}
use Rattle.floors.proofs.Answering.{Acts, Window, told_some, states_below, wide_below, refuses_below, refuses_window, short_above, answers_as, reads_iterated, reads_mirrored, block_asks, answers_block}
use Rattle.floors.proofs.Places.{outcome_is}
use Rattle.floors.proofs.floor.Floor.answer.Given as given
use Rattle.floors.proofs.floor.Floor.answer.Goals as goal
use Rattle.floors.proofs.floor.Floor.answer.Goals.{In-Some, In_ok-first, After-interval_width, In_ok-check_window, In_ok-lo, After-interval_width-2}

-- the action acts
acting : (g : given.Over) (c : In-Some g) → Acts (g.T.Rule.meaning c.args.self.now.below) (g.T.Tower.tower c.args.self.now.below) c.args.self.now.action c.of-below.result.numbers c.in-Some.top
acting g c = record { top = g.met.T.Tower.is_top c.args.self.now.below; standing = g.met.T.Tower.stands c.args.self.now.below; same = c.of-below.ensures; acts = c.in-Some.ensures }

-- the window that is checked against the interval of the top

found : (g : given.Over) (c : In_ok-first g) → Some (c.in_ok-first.first, c.in_ok-first.last) ≡ interval c.args.direction c.in-Some.top
found g c = told_some c.interval.result (c.in_ok-first.first, c.in_ok-first.last) NoInverse c.in_ok-first.ensures.value ∙ c.interval.ensures

width : (g : given.Over) (c : After-interval_width g) → c.interval_width.result ≡ span c.in_ok-first.first c.in_ok-first.last
width g c =
    let first : SFits w32 c.in_ok-first.first = search rules in
    let last : SFits w32 c.in_ok-first.last = search rules in
    c.interval_width.ensures ∙ ap₂ span (to_z-of_z w32 c.in_ok-first.first first) (to_z-of_z w32 c.in_ok-first.last last)

pub returns-in_err-check_window : goal.returns-in_err-check_window
returns-in_err-check_window g c =
    let at = goal.at.returns-in_err-check_window g c in
    let p = err_from_is_err_and c.from_residual-in_err-check_window.result c.from_residual-in_err-check_window.ensures.1 in
    rw (p.1, p.2) (refuses_window (acting g at.In-Some) c.args.direction (c.in_ok-first.first, c.in_ok-first.last) c.args.window.now _ (found g at.In_ok-first)
    (c.in_err-check_window.ensures.answer ∙ ap (λ w. checked c.in-Some.top.states w c.args.window.now tt) (width g at.After-interval_width)))

window : (g : given.Over) (c : In_ok-check_window g)
    → Window (g.T.Rule.meaning c.args.self.now.below) (g.T.Tower.tower c.args.self.now.below) c.args.self.now.action c.of-below.result.numbers c.in-Some.top c.args.direction c.args.window.now (c.in_ok-first.first, c.in_ok-first.last)
window g c =
    let at = goal.at.In_ok-check_window g c in
    record {
      floor = acting g at.In-Some;
      found = found g at.In_ok-first;
      passed = c.in_ok-check_window.ensures.answer ∙ ap (λ w. checked c.in-Some.top.states w c.args.window.now tt) (width g at.After-interval_width);
    }

-- the interval below, shifted where the action does so before it packs

starts : (g : given.Over) (c : In_ok-lo g) → Some (c.in_ok-lo.lo, c.in_ok-lo.hi) ≡ interval c.args.direction (packed_numbers c.args.self.now.action c.of-below.result.numbers)
starts g c = told_some c.interval-2.result (c.in_ok-lo.lo, c.in_ok-lo.hi) NoInverse c.in_ok-lo.ensures.value ∙ c.interval-2.ensures ∙ ap (interval c.args.direction) c.packed_numbers.ensures

start : (g : given.Over) (c : In_ok-lo g) → to_z w32 (of_z w32 c.in_ok-lo.lo) ≡ c.in_ok-lo.lo
start g c = let lo : SFits w32 c.in_ok-lo.lo = search rules in to_z-of_z w32 c.in_ok-lo.lo lo

wide : (g : given.Over) (c : After-interval_width-2 g) → c.interval_width-2.result ≡ span c.in_ok-lo.lo c.in_ok-lo.hi
wide g c =
    let hi : SFits w32 c.in_ok-lo.hi = search rules in
    c.interval_width-2.ensures ∙ ap₂ span (start g (goal.at.After-interval_width-2 g c).In_ok-lo) (to_z-of_z w32 c.in_ok-lo.hi hi)

pub returns-in_err-lo : goal.returns-in_err-lo
returns-in_err-lo g c =
    let at = goal.at.returns-in_err-lo g c in
    let none : None ≡ interval c.args.direction (packed_numbers c.args.self.now.action c.of-below.result.numbers) = search rules in
    let told : c.from_residual-in_err-lo.result ≡ Err NoInverse = search rules in
    told ∙ refuses_below (acting g at.In-Some) c.args.direction c.args.window.now none

pub invariant_of-rule : goal.invariant_of-rule
invariant_of-rule g c =
    let at = goal.at.invariant_of-rule g c in
    let floor = acting g at.In-Some in
    record {
      same = states_below floor c.args.direction;
      wide = subst (HasWidth (toward c.args.direction (g.T.Rule.meaning c.args.self.now.below))) (sym (wide g at.After-interval_width-2)) (wide_below floor c.args.direction (c.in_ok-lo.lo, c.in_ok-lo.hi) (starts g at.In_ok-lo));
    }

-- the actions, one after the other

pub iterated-requires : goal.iterated-requires
iterated-requires g c =
    let w = window g (goal.at.iterated-requires g c).In_ok-check_window in
    record { reads = reads_iterated w c.in-Iterate.times c.in-Iterate.is; short = short_above w }

pub returns-in-Iterate : goal.returns-in-Iterate
returns-in-Iterate g c = answers_as (window g (goal.at.returns-in-Iterate g c).In_ok-check_window) (Iterate c.in-Iterate.times) c.in-Iterate.is c.iterated.result c.iterated.ensures

pub mirrored-requires : goal.mirrored-requires
mirrored-requires g c = reads_mirrored (window g (goal.at.mirrored-requires g c).In_ok-check_window) c.in-Mirror.is

pub returns-in-Mirror : goal.returns-in-Mirror
returns-in-Mirror g c = answers_as (window g (goal.at.returns-in-Mirror g c).In_ok-check_window) Mirror c.in-Mirror.is c.mirrored.result c.mirrored.ensures

pub block-requires : goal.block-requires
block-requires g c = (outcome_is c.args.self.now.action c.of-below.result.numbers c.in-Some.top c.in-Some.ensures).0

pub packed-requires : goal.packed-requires
packed-requires g c =
    let at = goal.at.packed-requires g c in
    rw (start g at.In_ok-lo, wide g at.After-interval_width-2)
    (block_asks (window g at.In_ok-check_window) (c.in_ok-lo.lo, c.in_ok-lo.hi) (starts g at.In_ok-lo) c.block.result.cells c.block.result.some c.block.ensures c.in-Pack.is)

pub returns-in-Pack : goal.returns-in-Pack
returns-in-Pack g c =
    let at = goal.at.returns-in-Pack g c in
    let m = c.block.result.cells in
    answers_block (window g at.In_ok-check_window) (c.in_ok-lo.lo, c.in_ok-lo.hi) (starts g at.In_ok-lo) m c.block.result.some c.block.ensures c.in-Pack.is c.packed.result
    (c.packed.ensures ∙ ap₂ (λ (z : ℤ) (w : ℕ). pack_value c.of-below.result.numbers.states m (value_of (toward c.args.direction (g.T.Rule.meaning c.args.self.now.below))) (floor_mod z m) w c.args.window.now) (start g at.In_ok-lo) (wide g at.After-interval_width-2))
