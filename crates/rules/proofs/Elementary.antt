-- Lemmas on the elementary automata: Wolfram's numbering, and the bits of a number as entries.
use Rattle.std.proofs.Common.{◌≡◌, ℕ, ◌+◌, ◌*◌, ◌^◌, ◌<◌, false, List, length, take, ℤ, pos, negsuc, ◌+ℤ◌, is_some, sym, ap, ◌∙◌, mod-lt, arith}
use Rattle.std.proofs.lemmas.Int.{ints}
use Rattle.rings.specs.Line.{Line, tabulate, window}
use Rattle.rings.specs.Ring.{at, Codes, first_stray}
use Rattle.rings.proofs.Line.{length-tabulate, slice_index-tabulate}
use Rattle.rings.proofs.Ring.{below_at, first_stray-codes}
use Rattle.rings.proofs.Local.{slice_index-ring_map, length-window, codes-window}
use Rattle.rules.specs.Tables.{entry_index}
use Rattle.rules.specs.Elementary.{bit, elementary, WolframNumbered}
use Rattle.rules.specs.TablesLemmas.{entry_index_lt}

-- the entry of a window of three cells
entry_index_three : (x : Line) (p : ℤ) → entry_index 2 (window x p 3) ≡ 4 * x p + 2 * x (p +ℤ pos 1) + x (p +ℤ pos 2)
unfolding tabulate entry_index
entry_index_three x p =
    let e : p +ℤ pos 0 ≡ p = omega (arith, ints) in
    omega (arith, ap x e)

pub elementary_wolfram : (n : ℕ) → WolframNumbered n (elementary n)
elementary_wolfram n c r i h =
    let p = pos i +ℤ negsuc 0 in
    let codes : Codes 2 (window (at c) p 3) = codes-window 2 (at c) p 3 (below_at 2 c r) in
    let less : entry_index 2 (window (at c) p 3) < 8 = omega (arith, entry_index_lt 2 (window (at c) p 3) codes, ap (λ k. 2 ^ k) (length-window (at c) p 3)) in
    let own : p +ℤ pos 1 ≡ pos i = omega (arith, ints) in
    let right : p +ℤ pos 2 ≡ pos i +ℤ pos 1 = omega (arith, ints) in
    let index : entry_index 2 (window (at c) p 3) ≡ 4 * at c p + 2 * at c (pos i) + at c (pos i +ℤ pos 1) = omega (arith, entry_index_three (at c) p, ap (at c) own, ap (at c) right) in
    slice_index-ring_map (elementary n).forward c i h ∙ slice_index-tabulate (bit n) 8 (entry_index 2 (window (at c) p 3)) less ∙ ap (bit n) index

-- the bits of a number are states
pub bits_codes : (n : ℕ) → is_some (first_stray 2 (tabulate (bit n) 8)) ≡ false
bits_codes n = ap is_some (first_stray-codes 0 2 (tabulate (bit n) 8) (λ k l.
    let s : k < 8 = omega (arith, length-tabulate (bit n) 8) in
    rw (slice_index-tabulate (bit n) 8 k s) (mod-lt _ (omega arith))))

-- the bits at the front of a store
pub bits_stored : (n : ℕ) (bits store : List ℕ) → bits ≡ tabulate (bit n) 8 → take (length bits) store ≡ bits → take 8 store ≡ tabulate (bit n) 8
bits_stored n bits store e front = ap (λ k. take k store) (sym (ap length e ∙ length-tabulate (bit n) 8)) ∙ front ∙ e
