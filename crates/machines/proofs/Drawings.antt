-- Lemmas on the call that draws a configuration.
use Rattle.std.proofs.Common.{◌≡◌, ℕ, ◌<◌, ◌≤◌, ◌++◌, List, length, get_or, set, drop, Some, None, sym, ap, ◌∙◌, ap₂, arith}
use Rattle.std.proofs.lemmas.Bool.{cases_eq}
use Rattle.std.proofs.lemmas.Bool.Decides.{nat_tests}
use Rattle.std.proofs.lemmas.List.{length-set, get_or-set_same, get_or-set_other, set-append_left}
use Rattle.rings.specs.Refusals.{unless_refused}
use Rattle.rings.specs.Ring.{Codes}
use Rattle.rings.proofs.Line.{is_tabulate, length-tabulate}
use Rattle.rings.proofs.Ring.{is_first_stray}
use Rattle.rules.specs.Maps.{written_over}
use Rattle.machines.specs.Turing.{Machine, Configuration, ProperConfiguration, code_of, cell, drawing}
use Rattle.machines.specs.Drawings.{draw_fault, draw_buffer}

-- a configuration that is not refused
pub record Drawable (m : Machine) (c : Configuration) (room : ℕ) : Type 0 where
  pub state : c.state < m.heads
  pub codes : Codes m.symbols c.tape
  pub fits : length c.tape ≤ room

pub drawable : (m : Machine) (c : Configuration) (room : ℕ) → None ≡ draw_fault m c room → Drawable m c room
drawable m c room h = let first = is_first_stray m.symbols c.tape in grind (arith, nat_tests)

-- such a configuration is one of the machine
pub drawn_proper : (m : Machine) (c : Configuration) (room : ℕ) → None ≡ draw_fault m c room → ProperConfiguration m c
drawn_proper m c room h =
    let d = drawable m c room h in
    record { tape = record { some = grind (arith, nat_tests); codes = d.codes }; position = grind (arith, nat_tests); state = d.state }

-- a cell without the head has its symbol for a code
tape_with_head : (m : Machine) (c : Configuration) → c.position < length c.tape → set c.tape c.position (code_of m.symbols (get_or c.tape c.position 0) (Some c.state)) ≡ drawing m c
tape_with_head m c inside = is_tabulate (cell m c) (length c.tape) (set c.tape c.position code) (length-set _ _ _) each where
  code : ℕ
  code = code_of m.symbols (get_or c.tape c.position 0) (Some c.state)

  each : (i : ℕ) → i < length c.tape → get_or (set c.tape c.position code) i 0 ≡ cell m c i
  each i l = grind (arith, get_or-set_same, get_or-set_other, cases_eq i c.position)

-- what the buffer holds when the head stands on the tape that was copied into it
pub drawn : (m : Machine) (c : Configuration) (buffer : List ℕ) → None ≡ draw_fault m c (length buffer)
    → set (c.tape ++ drop (length c.tape) buffer) c.position (code_of m.symbols (get_or c.tape c.position 0) (Some c.state)) ≡ draw_buffer m c buffer
drawn m c buffer accepted =
    let inside = (drawn_proper m c (length buffer) accepted).position in
    set-append_left c.tape (drop (length c.tape) buffer) c.position _ inside ∙
    ap₂ ◌++◌ (tape_with_head m c inside) (ap (λ k. drop k buffer) (sym (length-tabulate (cell m c) (length c.tape)))) ∙
    ap (λ r. unless_refused r (written_over (drawing m c) buffer) buffer) accepted
