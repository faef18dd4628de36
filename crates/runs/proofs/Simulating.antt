-- Lemmas on whole simulations.
use Rattle.std.proofs.Common.{◌≡◌, ℕ, ◌*◌, ◌/◌, ◌%◌, ◌≤◌, min, true, cond, ltb, List, [], ◌∷◌, length, ℤ, pos, ◌*ℤ◌, is_some, Some, None, Ok, Option, Result, IsOk, sym, refl, ap, ◌∙◌, subst, mul-le-mul_right, div-add-mod', arith}
use Rattle.std.proofs.lemmas.Int.{ints}
use Rattle.std.proofs.lemmas.Bool.{le-ltb}
use Rattle.std.proofs.lemmas.Bool.Decides.{nat_tests}
use Rattle.std.specs.Option.{option_map, option_or}
use Rattle.rings.specs.declared.Direction.{Direction}
use Rattle.rings.specs.declared.Direction.TheVariants.{Forward, Backward}
use Rattle.rings.specs.Line.{power}
use Rattle.rings.specs.Ring.{first_stray}
use Rattle.rings.specs.Automaton.{after}
use Rattle.rings.proofs.Automaton.{length-after}
use Rattle.rings.specs.Refusals.{outcome, unless_refused}
use Rattle.rules.specs.declared.fault.RuleFault.TheVariants.{ShortBuffer}
use Rattle.rules.specs.Maps.{written_over}
use Rattle.combinators.specs.Lifts.{lifted}
use Rattle.towers.specs.Towers.{Tower, Stands}
use Rattle.towers.specs.Numbers.{Standing}
use Rattle.towers.specs.Encodings.{stray_or_short, encode_fault}
use Rattle.runs.specs.declared.Call.{Call}
use Rattle.runs.specs.declared.Call.TheVariants.{Advance, Back, Read, Present, Tell}
use Rattle.runs.specs.declared.RefusedCall.{RefusedCall}
use Rattle.runs.specs.declared.Told.{Told}
use Rattle.runs.specs.declared.fault.RunFault.{RunFault}
use Rattle.runs.specs.declared.fault.RunFault.TheVariants.{Tower as Refused}
use Rattle.runs.specs.States.{State, holder}
use Rattle.runs.specs.Calls.{rule_fault, refused_if, reading, read_buffer, called, called_third, performed_third, made}
use Rattle.runs.specs.Laws.{Shows, limit_fault, limit_refused, shown, Performs, Reads, last_step, accepted, has_inverse, bottom_after, final_count, PerformLaw, ReadLaw, SimulatesRun, ExactInverse}
use Rattle.towers.proofs.Calls.{more_than}
use Rattle.runs.proofs.Moving.{written_twice, length-written}
use Rattle.runs.proofs.Shown.{Stage, stage_first, stage_called, call_fault-shown}
use Rattle.runs.proofs.Reading.{reading-shown}
use Rattle.runs.proofs.Making.{fitting-made, cells_room, shows-made}

-- refusals

-- a number of cells in whole blocks is short of room as its number of blocks is
whole_blocks : (room n m : ℕ) → 1 ≤ m → n % m ≡ 0 → ltb room n ≡ ltb (room / m) (n / m)
whole_blocks room n m some whole = let e : n ≡ n / m * m = omega (arith, div-add-mod' n m) in ap (ltb room) e ∙ more_than room (n / m) m some

stray_or_both_short : (o : Option ℕ) (cells room third : ℕ) → option_map Refused (stray_or_short o cells (min room third)) ≡ option_or (option_map Refused (stray_or_short o cells room)) (refused_if (ltb third cells) (rule_fault ShortBuffer))
stray_or_both_short (Some i) cells room third = refl
stray_or_both_short None cells room third = grind (arith, nat_tests)

-- too little room for the blocks of a third buffer is refused as a short third buffer is, after all that refuses a run
pub third_fault : (q m : ℕ) → 1 ≤ m → (c : List ℕ) (room third : ℕ)
    → option_map Refused (encode_fault q m c (min room (third / m))) ≡ option_or (option_map Refused (encode_fault q m c room)) (refused_if (ltb third (length c)) (rule_fault ShortBuffer))
third_fault q m some c room third = grind (arith, nat_tests, whole_blocks third (length c) m some, stray_or_both_short (first_stray q c) (length c / m) room (third / m))

-- the third buffer: whatever a list reads, a ring written over it leaves nothing of it

module _ (t : Tower) (st : Stands t) (c : List ℕ) (first : State) (x : List ℕ) (size : length x ≡ length c) where
  length-bottom : (k : ℤ) → length (bottom_after t k c) ≡ length c
  length-bottom k = length-after t.bottom (pos t.steps *ℤ k) c

  -- a reading fills the cells of the ring
  read_fills : (k : ℤ) (last : Option Direction) (s : State) → Stage t c first k last s → (third : List ℕ) → length c ≤ length third → read_buffer t s third ≡ written_over (bottom_after t k c) third
  read_fills k last s g third h =
      ap (λ o. unless_refused o (written_over (reading t s) third) third) (call_fault-shown t st c k s g.shows Read (length third) ∙ ap (λ b. refused_if b (rule_fault ShortBuffer)) (le-ltb (length third) (length c) h))
      ∙ ap (λ l. written_over l third) (reading-shown t st c k s g.shows)

  third_called : (k : ℤ) (last : Option Direction) (s : State) → Stage t c first k last s → (call : Call) (third : List ℕ) → length c ≤ length third
      → (written_over x (called_third t call s third) ≡ written_over x third) × (length c ≤ length (called_third t call s third))
  third_called k last s g (Advance n) third h = (refl, h)
  third_called k last s g (Back n) third h = (refl, h)
  third_called k last s g Read third h =
      let fills = read_fills k last s g third h in (
        ap (written_over x) fills ∙ written_twice x (bottom_after t k c) third (size ∙ sym (length-bottom k)),
        omega (arith, h, ap length fills, length-written (bottom_after t k c) third (omega (arith, length-bottom k))),
      )
  third_called k last s g Present third h = (refl, h)
  third_called k last s g Tell third h = (refl, h)

  pub third_performed : (calls : List Call) (k : ℤ) (last : Option Direction) (s : State) → Stage t c first k last s → (third : List ℕ) → length c ≤ length third → written_over x (performed_third t calls s third) ≡ written_over x third
  unfolding performed_third
  third_performed [] k last s g third h = refl
  third_performed (call ∷ calls) k last s g third h =
      let one = third_called k last s g call third h in
      third_performed calls _ _ (called t call s) (stage_called t st c first k last s g call) (called_third t call s third) one.1 ∙ one.0

-- the law of whole runs

bottom_none : (t : Tower) (c : List ℕ) → bottom_after t (pos 0) c ≡ c
unfolding power
bottom_none t c = let e : pos t.steps *ℤ pos 0 ≡ pos 0 = omega (arith, ints) in ap (λ z. after t.bottom z c) e

-- how many top cells all three buffers have room for
abbrev pub room_of : Tower → List ℕ → List ℕ → List ℕ → ℕ
room_of t a b third = min (min (length a) (length b)) (length third / t.block)

pub room_le : (t : Tower) (a b third : List ℕ) → (room_of t a b third ≤ length a) × (room_of t a b third ≤ length b)
room_le t a b third = (omega arith, omega arith)

-- what the calls of a simulation made: the first run and the last, the third buffer before the reading and after it, and what the reading answered
pub record Ran (t : Tower) (c : List ℕ) (calls : List Call) (a b third : List ℕ) (first s : State) (refused : Option RefusedCall) (then_third last_third : List ℕ) (r : Result (Unit {0}) RunFault) : Type 0 where
  pub unrefused : encode_fault t.bottom.states t.block c (room_of t a b third) ≡ None
  pub is_made : first ≡ made t c a b
  pub performs : PerformLaw t calls first s (length third) refused
  pub reads_so_far : then_third ≡ performed_third t calls first third
  pub same_length : length then_third ≡ length third
  pub reads : ReadLaw t s then_third last_third r

module _ {t : Tower} {c : List ℕ} {calls : List Call} {a b third : List ℕ} {first s : State} {refused : Option RefusedCall} {then_third last_third : List ℕ} {r : Result (Unit {0}) RunFault}
    (standing : Standing t) (ran : Ran t c calls a b third first s refused then_third last_third r) where
  shows_first : Shows t c (pos 0) first
  shows_first = subst (Shows t c (pos 0)) (sym ran.is_made) (shows-made t c a _ (room_le t a b third).0 standing ran.unrefused b (room_le t a b third).1)

  -- a third buffer that does not refuse the ring has room for it
  pub room_third : length c ≤ length third
  room_third =
      let blocks : length c / t.block ≤ length third / t.block = omega (arith, cells_room t c a _ (room_le t a b third).0 standing ran.unrefused) in
      let cells : length c / t.block * t.block ≤ length third / t.block * t.block = mul-le-mul_right t.block blocks in
      omega (arith, cells, (fitting-made t c a _ (room_le t a b third).0 standing ran.unrefused).size, div-add-mod' (length third) t.block)

  done : Performs t calls c (pos 0) first s (length third) refused
  done = ran.performs c (pos 0) shows_first

  read_law : Reads t c (final_count t calls) then_third last_third r
  read_law = ran.reads c (final_count t calls) done.shows

  -- the ring that is reached is read
  pub read_ok : IsOk r
  read_ok =
      let e : r ≡ Ok tt = read_law.answer ∙ ap (λ x. outcome (refused_if x (rule_fault ShortBuffer))) (le-ltb (length then_third) (length c) (omega (arith, ran.same_length, room_third))) in
      subst IsOk (sym e) refl

  read : last_third ≡ written_over (bottom_after t (final_count t calls) c) third
  read =
      let k = final_count t calls in
      let size : length (bottom_after t k c) ≡ length c = length-after t.bottom (pos t.steps *ℤ k) c in
      read_law.buffer (omega (arith, ran.same_length, room_third))
      ∙ ap (written_over (bottom_after t k c)) ran.reads_so_far
      ∙ third_performed t standing.laws c first (bottom_after t k c) size calls (pos 0) None first (stage_first t standing.laws c (pos 0) first shows_first) third room_third

  pub simulates_run : (tells : Told) → tells ≡ record { cells = s.cells; steps = s.steps; holder = holder s.steps } → SimulatesRun t c calls a b third tells refused s last_third
  simulates_run tells told = record {
    told = told ∙ ap (λ z. record { cells = s.cells; steps = z; holder = holder z }) done.shows.count;
    refused = done.answer ∙ ap (λ x. limit_refused (has_inverse t) x 0 calls (pos 0)) (le-ltb (length third) (length c) room_third);
    count = done.count ∙ omega (arith, ints);
    buffers = done.buffers ∙ ap (shown t c (final_count t calls) (last_step (has_inverse t) calls (pos 0) None)) ran.is_made;
    presents = done.shows.ring;
    reads = read;
    shows = done.shows;
  }

  pub exact_inverse : ExactInverse t c calls third s last_third
  unfolding power
  exact_inverse lower can is-lift =
      let inverse : has_inverse t ≡ true = ap (λ x. is_some x.inverse) is-lift ∙ ap (λ x. is_some (cond x (lifted lower) lower).inverse) can in
      let none : accepted (has_inverse t) Forward calls (pos 0) ≡ accepted (has_inverse t) Backward calls (pos 0) → final_count t calls ≡ pos 0 = λ e. done.count ∙ omega (arith, ints, e) in
      record {
        backs = λ short k n. ap (λ x. limit_fault x short k (Back n)) inverse;
        reads = λ e. read ∙ ap (λ z. written_over (bottom_after t z c) third) (none e) ∙ ap (λ l. written_over l third) (bottom_none t c);
        presents = λ e. done.shows.ring ∙ ap (λ z. after t.top z (t.encode c)) (none e);
      }

  pub simulates : (tells : Told) → tells ≡ record { cells = s.cells; steps = s.steps; holder = holder s.steps } → SimulatesRun t c calls a b third tells refused s last_third × ExactInverse t c calls third s last_third
  simulates tells told = (simulates_run tells told, exact_inverse)
