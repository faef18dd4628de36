-- Lemmas on a run of so many steps, and on its reading.
use Rattle.std.proofs.Common.{◌≡◌, ℕ, false, List, ◌++◌, length, pos, ◌+ℤ◌, ◌-ℤ◌, ◌*ℤ◌, neg_ℤ, None, Ok, sym, ap, ◌∙◌, subst, arith}
use Rattle.std.proofs.lemmas.Int.{ints}
use Rattle.std.proofs.lemmas.List.{drop_all, append-nil}
use Rattle.rings.specs.Ring.{rotate}
use Rattle.rings.specs.Refusals.{unless_refused}
use Rattle.rings.proofs.Automaton.{length-after}
use Rattle.rings.proofs.Refusals.{accepted}
use Rattle.rules.specs.Maps.{written_over}
use Rattle.towers.specs.Towers.{Tower, Stands}
use Rattle.runs.specs.declared.Call.TheVariants.{Advance}
use Rattle.runs.specs.States.{State, held}
use Rattle.runs.specs.Laws.{Shows, limit_fault, has_inverse, MoveLaw, ReadLaw, bottom_after}
use Rattle.runs.proofs.Reading.{reading-shown}
use Rattle.worked.specs.Worked.{read}

-- a new run of c shows c after n steps that are accepted
pub shows_after : (t : Tower) (c : List ℕ) (n : ℕ) (before s : State) → Shows t c (pos 0) before → MoveLaw t (Advance n) before s (Ok tt) → Shows t c (pos n) s
shows_after t c n before s starts law =
    let moves = law c (pos 0) starts in
    let unrefused : None ≡ limit_fault (has_inverse t) false (pos 0) (Advance n) = accepted (limit_fault (has_inverse t) false (pos 0) (Advance n)) moves.answer in
    let count : (pos 0 +ℤ pos n) -ℤ pos 0 ≡ pos n = omega (arith, ints) in
    subst (λ k. Shows t c k s) (ap (λ o. (pos 0 +ℤ pos (unless_refused o n 0)) -ℤ pos 0) (sym unrefused) ∙ count) moves.shows

-- a ring that is written over a buffer of its length fills it
written_whole : (ring buffer : List ℕ) → length buffer ≡ length ring → written_over ring buffer ≡ ring
written_whole ring buffer e = ap (λ rest. ring ++ rest) (drop_all (length ring) buffer (omega arith)) ∙ append-nil ring

module _ (t : Tower) (c : List ℕ) (n : ℕ) (s : State) (shows : Shows t c (pos n) s) (third told : List ℕ) (size : length third ≡ length c) (reads : ReadLaw t s third told (Ok tt)) where
  -- what is read into a buffer of as many cells is what the bottom reaches
  pub tells : told ≡ bottom_after t (pos n) c
  tells =
      let fits : length third ≡ length (bottom_after t (pos n) c) = size ∙ sym (length-after t.bottom (pos t.steps *ℤ pos n) c) in
      (reads c (pos n) shows).buffer (omega (arith, size)) ∙ written_whole (bottom_after t (pos n) c) third fits

  -- and the held ring tells it
  pub tells_held : Stands t → told ≡ read t (pos n) (held s)
  tells_held stands = tells ∙ sym (reading-shown t stands c (pos n) s shows) ∙ ap (λ k. rotate (neg_ℤ (t.drift *ℤ k)) (t.decode (held s))) shows.count
