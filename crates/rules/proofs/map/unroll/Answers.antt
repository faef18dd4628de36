use Rattle.std.proofs.Common.{◌≡◌, ℕ, ◌+◌, ◌%◌, ◌<◌, ◌≤◌, length, get_or, pos, ◌+ℤ◌, sym, ap, ◌∙◌, ⊎_elim, mod-eq_of_lt, arith}
use Rattle.std.proofs.lemmas.Bool.{cases_lt}
use Rattle.rings.specs.Integers.{floor_mod}
use Rattle.rings.specs.Ring.{at}
use Rattle.rings.proofs.Integers.{floor_mod_up, floor_mod_round}
use Rattle.rings.proofs.Line.{is_tabulate}
use Rattle.rules.proofs.Maps.{one_more}
use Rattle.rules.proofs.map.unroll.Goals as goal
use Rattle.rules.proofs.map.unroll.Goals.{then-place-ring, else-place-ring}

pub loop-cell-init : goal.loop-cell-init
unfolding floor_mod
loop-cell-init c =
    let e : c.args.start ≡ c.args.start + 0 = omega arith in
    (c.requires, sym (mod-eq_of_lt c.requires) ∙ ap (λ k. k % length c.args.ring.now) e, λ k h. absurd (omega arith))

-- the place of the next cell
next_place : (n start i p q : ℕ) → p < n → p ≡ floor_mod (pos (start + i)) n → ((p + 1 < n) → q ≡ p + 1) → ((n ≤ p + 1) → q ≡ 0) → (q < n) × (q ≡ floor_mod (pos (start + (i + 1))) n)
next_place n start i p q h e up round = ⊎_elim
    (λ (l : p + 1 < n). (omega (arith, up l), up l ∙ ap (λ k. k + 1) e ∙ sym (floor_mod_up (pos (start + i)) n (omega (arith, e))) ∙ ap (λ k. floor_mod (pos k) n) shift))
    (λ (l : n ≤ p + 1). (omega (arith, round l), round l ∙ sym (floor_mod_round (pos (start + i)) n (omega arith) (omega (arith, e))) ∙ ap (λ k. floor_mod (pos k) n) shift))
    (cases_lt (p + 1) n)
  where
    shift : start + i + 1 ≡ start + (i + 1)
    shift = omega arith

pub loop-cell-preserved : goal.loop-cell-preserved
loop-cell-preserved c =
    let n = length c.args.ring.now in
    let p = c.loop-cell.place in
    let i = c.loop-cell.cell-index in
    let q = c.if-place-ring.place in
    let up : p + 1 < n → q ≡ p + 1 = λ l. elim c.if-place-ring.branch [ then-place-ring w ↦ w.place-is | else-place-ring w ↦ absurd (omega (arith, w.if-place-ring.false)) ] in
    let round : n ≤ p + 1 → q ≡ 0 = λ l. elim c.if-place-ring.branch [ then-place-ring w ↦ absurd (omega (arith, w.if-place-ring.true)) | else-place-ring w ↦ w.place-is ] in
    let next = next_place n c.args.start i p q c.loop-cell.invariant.0 c.loop-cell.invariant.1 up round in (
      next.0,
      next.1,
      one_more (λ k. at c.args.ring.now (pos c.args.start +ℤ pos k)) c.loop-cell.cells i (get_or c.args.ring.now p 0) (omega arith) c.loop-cell.invariant.2 (ap (λ k. get_or c.args.ring.now k 0) c.loop-cell.invariant.1),
    )

pub returns : goal.returns
returns c =
    is_tabulate (λ k. at c.args.ring.now (pos c.args.start +ℤ pos k)) (length c.args.cells.now) c.loop-cell.cells (omega arith) (λ k h. c.loop-cell.invariant.2 k (omega arith))
