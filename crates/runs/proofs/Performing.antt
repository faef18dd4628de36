-- Lemmas on lists of calls: what is left of a list gives what the whole list gives.
use Rattle.std.proofs.Common.{◌≡◌, ℕ, ◌+◌, ◌<◌, ◌≤◌, List, length, get_or, drop, Some, None, Option, sym, refl, ap, ◌∙◌, ap₂}
use Rattle.std.proofs.lemmas.List.{at_drop_more, at_drop_all}
use Rattle.std.specs.Option.{option_map, option_or, unwrap_or}
use Rattle.towers.specs.Towers.{Tower}
use Rattle.runs.specs.declared.Call.{Call}
use Rattle.runs.specs.declared.RefusedCall.{RefusedCall}
use Rattle.runs.specs.States.{State}
use Rattle.runs.specs.Calls.{call_fault, called, called_third, performed, performed_third, refused_at, first_refused}

option_or_assoc : {X : Type 0} (o p q : Option X) → option_or (option_or o p) q ≡ option_or o (option_or p q)
option_or_assoc None p q = refl
option_or_assoc (Some x) p q = refl

pub option_or_none : {X : Type 0} (o : Option X) → option_or o None ≡ o
option_or_none None = refl
option_or_none (Some x) = refl

-- what a first value put in makes of an option
pub inserted : {X : Type 0} (o : Option X) (x : X) → Some (unwrap_or o x) ≡ option_or o (Some x)
inserted None x = refl
inserted (Some y) x = refl

-- one call more

module _ (t u : Tower) (same : u ≡ t) (calls : List Call) (i : ℕ) (d : Call) (h : i < length calls) (s after_call : State) (state : after_call ≡ called u (get_or calls i d) s) where
  next_state : called t (get_or calls i d) s ≡ after_call
  next_state = sym (state ∙ ap (λ x. called x (get_or calls i d) s) same)

  pub performed_more : performed t (drop i calls) s ≡ performed t (drop (i + 1) calls) after_call
  unfolding performed
  performed_more = at_drop_more (λ l. performed t l s) calls i d h ∙ ap (performed t (drop (i + 1) calls)) next_state

  pub performed_third_more : (third after_third : List ℕ) → after_third ≡ called_third u (get_or calls i d) s third → performed_third t (drop i calls) s third ≡ performed_third t (drop (i + 1) calls) after_call after_third
  unfolding performed_third
  performed_third_more third after_third e =
      at_drop_more (λ l. performed_third t l s third) calls i d h
      ∙ ap₂ (performed_third t (drop (i + 1) calls)) next_state (sym (e ∙ ap (λ x. called_third x (get_or calls i d) s third) same))

  pub first_refused_more : (room now_room : ℕ) → now_room ≡ room → (before after_refused : Option RefusedCall) → after_refused ≡ option_or before (option_map (refused_at i) (call_fault u (get_or calls i d) s now_room))
      → option_or before (first_refused t i (drop i calls) s room) ≡ option_or after_refused (first_refused t (i + 1) (drop (i + 1) calls) after_call room)
  unfolding first_refused
  first_refused_more room now_room er before after_refused told =
      let next = first_refused t (i + 1) (drop (i + 1) calls) after_call room in
      let fault : call_fault u (get_or calls i d) s now_room ≡ call_fault t (get_or calls i d) s room = ap₂ (λ x n. call_fault x (get_or calls i d) s n) same er in
      ap (option_or before) (at_drop_more (λ l. first_refused t i l s room) calls i d h ∙ ap (λ x. option_or (option_map (refused_at i) (call_fault t (get_or calls i d) s room)) (first_refused t (i + 1) (drop (i + 1) calls) x room)) next_state)
      ∙ sym (option_or_assoc before (option_map (refused_at i) (call_fault t (get_or calls i d) s room)) next)
      ∙ ap (λ o. option_or o next) (sym (told ∙ ap (λ o. option_or before (option_map (refused_at i) o)) fault))

-- no call more

module _ (t : Tower) (calls : List Call) (i : ℕ) (h : length calls ≤ i) (s : State) where
  pub performed_end : performed t (drop i calls) s ≡ s
  unfolding performed
  performed_end = at_drop_all (λ l. performed t l s) calls i h

  pub performed_third_end : (third : List ℕ) → performed_third t (drop i calls) s third ≡ third
  unfolding performed_third
  performed_third_end third = at_drop_all (λ l. performed_third t l s third) calls i h

  pub first_refused_end : (room : ℕ) (before : Option RefusedCall) → option_or before (first_refused t i (drop i calls) s room) ≡ before
  unfolding first_refused
  first_refused_end room before = ap (option_or before) (at_drop_all (λ l. first_refused t i l s room) calls i h) ∙ option_or_none before
