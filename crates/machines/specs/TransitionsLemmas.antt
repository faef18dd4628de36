-- Lemmas on the list of transitions of a machine.
use Rattle.std.specs.Prelude.{◌≡◌, ℕ, ◌+◌, ◌-◌, ◌*◌, ◌/◌, ◌%◌, ◌<◌, ◌≤◌, true, List, length, Some, None, Option, slice_index_or}
use Rattle.std.specs.List.{AllPass}
use Rattle.std.specs.Option.{MatchOption, SomeIff}
use Rattle.std.proofs.Common.{sym, ap, ap₂, ◌∙◌, ⊎_elim, arith, mod-lt, mod-eq_of_lt, mul_comm}
use Rattle.std.proofs.Math.Nat.{add-mul-mod_self_left, add-mul-div_left, div-eq_of_lt}
use Rattle.std.proofs.lemmas.Nat.{div_below, mul-add-lt}
use Rattle.std.proofs.lemmas.List.FromFn.{length-map-range_with_len, get_or-map-range_with_len}
use Rattle.std.proofs.lemmas.List.{get_or_past}
use Rattle.std.proofs.lemmas.List.Elements.{All-get_or, All-from_get_or}
use Rattle.std.proofs.lemmas.Bool.{cases_lt}
use Rattle.std.proofs.lemmas.Bool.Decides.{nat_tests}
use Rattle.machines.specs.declared.transition.Transition.{Transition}
use Rattle.machines.specs.Turing.{Machine, ProperMachine, code_of, symbol_of, numbered_head, acting, acts}
use Rattle.machines.specs.Machines.{symbol_of_code_of, head_of_code_of}
use Rattle.machines.specs.Sizes.{max_symbols, max_heads, max_transitions, machine_fits}
use Rattle.machines.specs.Transitions.{blank, listed, transition_fits, new_transition, new_list, Idles}

-- what the sizes of a machine say
pub record Sized (a h : ℕ) : Type 0 where
  pub some_symbol : 1 ≤ a
  pub few-symbols : a ≤ max_symbols
  pub some_head : 1 ≤ h
  pub few-heads : h ≤ max_heads
  pub few_transitions : a * h ≤ max_transitions

pub sized : (a h : ℕ) → machine_fits a h ≡ true → Sized a h
sized a h e = grind (arith, nat_tests)

pub states_le : (a h : ℕ) → machine_fits a h ≡ true → a * (h + 1) ≤ 576
states_le a h fits = let s = sized a h fits in omega (arith, s.few-symbols, s.few_transitions)

index_lt : (a h z y : ℕ) → z < h → y < a → z * a + y < a * h
index_lt a h z y k l = omega (arith, mul-add-lt z a y h k l, mul_comm a h)

-- transitions that fit

pub record Fitting (a h : ℕ) (t : Transition) : Type 0 where
  pub writes : t.write < a
  pub leads : t.next < h

pub fitting : (a h : ℕ) (t : Transition) → transition_fits a h t ≡ true → Fitting a h t
fitting a h t e = grind (arith, nat_tests)

-- a machine with a list that fits, of any length: past its end the blank transition is read, which fits too
pub proper-listed : (a h : ℕ) (list : List Transition) → machine_fits a h ≡ true → AllPass (transition_fits a h) list → ProperMachine (listed a h list)
proper-listed a h list fits proper = record { some_symbol = s.some_symbol; some_head = s.some_head; writes = λ z y l k. (each (z * a + y)).writes; leads = λ z y l k. (each (z * a + y)).leads } where
  s : Sized a h
  s = sized a h fits

  each : (i : ℕ) → Fitting a h (slice_index_or list i blank)
  each i = fitting a h (slice_index_or list i blank) (⊎_elim
      (λ l. All-get_or (λ t. transition_fits a h t ≡ true) list i blank l proper)
      (λ l. rw (get_or_past list i blank l) (grind (arith, nat_tests)))
      (cases_lt i (length list)))

-- a new machine

pub new_transition-fits : (a h i : ℕ) → machine_fits a h ≡ true → transition_fits a h (new_transition a h i) ≡ true
new_transition-fits a h i fits = let s = sized a h fits in grind (arith, nat_tests, mod-lt, div_below, mul_comm)

pub length-new_list : (a h : ℕ) → length (new_list a h) ≡ max_transitions
unfolding new_list
length-new_list a h = length-map-range_with_len (new_transition a h) 0 max_transitions

pub new_list-fits : (a h : ℕ) → machine_fits a h ≡ true → AllPass (transition_fits a h) (new_list a h)
unfolding new_list
new_list-fits a h fits =
    All-from_get_or (λ t. transition_fits a h t ≡ true) (new_list a h) blank
    (λ i l. ap (transition_fits a h) (get_or-map-range_with_len (new_transition a h) 0 max_transitions i i blank (omega (arith, length-new_list a h)) (omega arith)) ∙ new_transition-fits a h i fits)

pub idles_new : (a h : ℕ) → machine_fits a h ≡ true → Idles (listed a h (new_list a h))
unfolding new_list
idles_new a h fits z y k l =
    let s = sized a h fits in
    let inside = index_lt a h z y k l in
    let turned : z * a + y ≡ y + a * z = omega (arith, mul_comm z a) in
    let remainder : (z * a + y) % a ≡ y = grind (arith, add-mul-mod_self_left, mod-eq_of_lt) in
    let quotient : (z * a + y) / a ≡ z = grind (arith, add-mul-div_left, div-eq_of_lt) in
    get_or-map-range_with_len (new_transition a h) 0 max_transitions (z * a + y) (z * a + y) blank (omega (arith, s.few_transitions)) (omega arith) ∙ grind (arith, nat_tests)

-- the head on a cell, whose code is greater by the number of symbols than the index of its transition

acts_none : (m : Machine) (x : ℕ) → x < m.symbols → acts m x ≡ None
acts_none m x l = let none : x / m.symbols ≡ 0 = omega (arith, div-eq_of_lt l) in ap (λ q. acting m (symbol_of m.symbols x) (numbered_head q)) none

pub acts_head : (a h : ℕ) (list : List Transition) (i x : ℕ) → 1 ≤ a → x ≡ i + a → acts (listed a h list) x ≡ Some (slice_index_or list i blank)
acts_head a h list i x some e =
    let z = i / a in
    let y = i % a in
    let below = mod-lt i some in
    let code : x ≡ code_of a y (Some z) = omega arith in
    let index : z * a + y ≡ i = omega arith in
    ap (acts (listed a h list)) code ∙ ap₂ (acting (listed a h list)) (symbol_of_code_of a y (Some z) below) (head_of_code_of a y (Some z) below) ∙ ap (λ j. Some (slice_index_or list j blank)) index

-- the transition that is read at the index, if there is one
pub acts_at : (a h : ℕ) (list : List Transition) (x : ℕ) (o : Option ℕ) (r : Option Transition) → 1 ≤ a → SomeIff o (a ≤ x) (x - a) → MatchOption o (r ≡ None) (λ i. r ≡ Some (slice_index_or list i blank)) → r ≡ acts (listed a h list) x
acts_at a h list x None r some below read = read ∙ sym (acts_none (listed a h list) x (omega arith))
acts_at a h list x (Some i) r some above read = read ∙ sym (acts_head a h list i x some (omega arith))
