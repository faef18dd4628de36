-- Lemmas on reading a run.
use Rattle.std.proofs.Common.{◌≡◌, ℕ, ◌*◌, ◌/◌, ◌<◌, ◌≤◌, false, cond, ltb, ◌≢◌, List, length, ℤ, ◌*ℤ◌, neg_ℤ, Some, None, Err, Option, Result, sym, refl, ap, ◌∙◌, ap₂, arith}
use Rattle.std.proofs.lemmas.Bool.{le-ltb, ne_eqb}
use Rattle.std.specs.Option.{option_map}
use Rattle.rings.specs.Ring.{first_stray, rotate}
use Rattle.rings.specs.Refusals.{outcome, unless_refused}
use Rattle.rules.specs.declared.fault.RuleFault.TheVariants.{ShortBuffer}
use Rattle.rules.specs.Maps.{written_over}
use Rattle.towers.specs.declared.fault.TowerFault.{TowerFault}
use Rattle.towers.specs.declared.fault.TowerFault.TheVariants.{Rule}
use Rattle.towers.specs.Towers.{Tower, Stands}
use Rattle.towers.specs.Encodings.{stray_or_short, rotated_fault, rotated_buffer}
use Rattle.towers.proofs.Calls.{more_than}
use Rattle.towers.proofs.Steps.{rotate-decode-after}
use Rattle.runs.specs.declared.Call.TheVariants.{Read}
use Rattle.runs.specs.declared.fault.RunFault.{RunFault}
use Rattle.runs.specs.declared.fault.RunFault.TheVariants.{Tower as Refused}
use Rattle.runs.specs.States.{State, held}
use Rattle.runs.specs.Calls.{rule_fault, refused_if, stray_fault, present_fault, read_fault, reading, read_buffer}
use Rattle.runs.specs.Laws.{Shows, bottom_after, ReadLaw}
use Rattle.runs.proofs.Refusals.{roomy, read_fault-short, read_fault_room}
use Rattle.runs.proofs.Moving.{length-held}
use Rattle.runs.proofs.Shown.{call_fault-shown}

-- what is read of a run that shows c is what the bottom reaches
pub reading-shown : (t : Tower) → Stands t → (c : List ℕ) (k : ℤ) (s : State) → Shows t c k s → reading t s ≡ bottom_after t k c
reading-shown t st c k s w = ap₂ (λ z ring. rotate (neg_ℤ (t.drift *ℤ z)) (t.decode ring)) w.count w.ring ∙ rotate-decode-after t st k s.cells c w.fitting w.goes

pub read_law : (t : Tower) → Stands t → (s : State) (third after_third : List ℕ) (r : Result (Unit {0}) RunFault) → r ≡ outcome (read_fault t s (length third)) → after_third ≡ read_buffer t s third → ReadLaw t s third after_third r
read_law t st s third after_third r answer buffer c k w =
    let fault : read_fault t s (length third) ≡ refused_if (ltb (length third) (length c)) (rule_fault ShortBuffer) = call_fault-shown t st c k s w Read (length third) in
    record {
      answer = answer ∙ ap outcome fault;
      buffer = λ h.
          buffer ∙ ap (λ o. unless_refused o (written_over (reading t s) third) third) (fault ∙ ap (λ b. refused_if b (rule_fault ShortBuffer)) (le-ltb (length third) (length c) h))
          ∙ ap (λ l. written_over l third) (reading-shown t st c k s w);
    }

-- what a call that reads owes, where the reading is refused with f or not
pub record ReadDone (t : Tower) (s : State) (third after_third : List ℕ) (r : Result (Unit {0}) RunFault) : Type 0 where
  pub answer : r ≡ outcome (read_fault t s (length third))
  pub buffer : after_third ≡ read_buffer t s third
  pub law : ReadLaw t s third after_third r

read_done : (t : Tower) → Stands t → (s : State) (third after_third : List ℕ) (r : Result (Unit {0}) RunFault) (o : Option RunFault) → read_fault t s (length third) ≡ o → r ≡ outcome o → after_third ≡ unless_refused o (written_over (reading t s) third) third
    → ReadDone t s third after_third r
read_done t st s third after_third r o fault answer buffer =
    let a : r ≡ outcome (read_fault t s (length third)) = answer ∙ ap outcome (sym fault) in
    let b : after_third ≡ read_buffer t s third = buffer ∙ ap (λ f. unless_refused f (written_over (reading t s) third) third) (sym fault) in
    record { answer = a; buffer = b; law = read_law t st s third after_third r a b }

-- where the buffer has room, decoding refuses for the first stray code alone
only_stray : (o : Option ℕ) (cells room : ℕ) → ltb room cells ≡ false → option_map Refused (stray_or_short o cells room) ≡ stray_fault o
only_stray None cells room e = ap (λ x. option_map Refused (cond x (Some (Rule ShortBuffer)) None)) e
only_stray (Some i) cells room e = refl

module _ (t : Tower) (st : Stands t) (s : State) (third : List ℕ) (presents : present_fault s ≡ None) (block : ℕ) (is_block : block ≡ t.block) where
  pub read_short : length third / block < s.cells → (r : Result (Unit {0}) RunFault) → r ≡ Err (rule_fault ShortBuffer) → ReadDone t s third third r
  read_short h r answer =
      let short : length third / t.block < s.cells = omega (arith, ap (λ m. length third / m) is_block, h) in
      read_done t st s third third r (Some (rule_fault ShortBuffer)) (read_fault-short t s (length third) st.block presents short) answer refl

  -- what decoding the held ring answers, the reading answers; where that is no refusal, the ring was turned back
  pub read_decoded : (ring : List ℕ) → ring ≡ held s → 1 ≤ s.cells → s.cells ≤ length third / block → (o : Option TowerFault) → o ≡ rotated_fault t.top.states t.block ring (length third)
      → (z : ℤ) → (o ≡ None → z ≡ neg_ℤ (t.drift *ℤ s.steps)) → (after_third : List ℕ) → after_third ≡ rotated_buffer t ring z third
      → (r : Result (Unit {0}) RunFault) → r ≡ outcome (option_map Refused o) → ReadDone t s third after_third r
  read_decoded ring held-ring some room o fault z turn after_third buffer r answer =
      let wide : s.cells ≤ length third / t.block = omega (arith, ap (λ m. length third / m) is_block, room) in
      let fits : ltb (length third) (s.cells * t.block) ≡ false = more_than (length third) s.cells t.block st.block ∙ le-ltb (length third / t.block) s.cells wide in
      let size : length ring ≡ s.cells = ap length held-ring ∙ length-held s (roomy s presents) in
      let ne : length ring ≢ 0 = omega (arith, size) in
      let read = read_fault_room t s (length third) st.block presents wide in
      let decoded : option_map Refused (rotated_fault t.top.states t.block ring (length third)) ≡ stray_fault (first_stray t.top.states ring) =
      rw (ne_eqb (length ring) 0 ne) (only_stray (first_stray t.top.states ring) (length ring * t.block) (length third) (ap (λ n. ltb (length third) (n * t.block)) size ∙ fits)) in
      read_done t st s third after_third r (option_map Refused o) (read ∙ ap (λ l. stray_fault (first_stray t.top.states l)) (sym held-ring) ∙ sym decoded ∙ ap (option_map Refused) (sym fault)) answer
      (buffer ∙ ap (λ f. unless_refused f (written_over (rotate z (t.decode ring)) third) third) (sym fault) ∙ by o turn) where
        by : (o : Option TowerFault) → (o ≡ None → z ≡ neg_ℤ (t.drift *ℤ s.steps)) → unless_refused o (written_over (rotate z (t.decode ring)) third) third ≡ unless_refused (option_map Refused o) (written_over (reading t s) third) third
        by None back = ap₂ (λ y l. written_over (rotate y (t.decode l)) third) (back refl) held-ring
        by (Some f) back = refl
