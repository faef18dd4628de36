-- A choice between two rules.
use Rattle.std.specs.Prelude.{◌≡◌, ℕ, cond, ◌==◌, ◌≢◌}
use Rattle.rings.specs.Automaton.{Automaton}

-- The first automaton if the number is 0, else the second.
abbrev pub chosen : ℕ → Automaton → Automaton → Automaton
chosen number first second = cond (number == 0) first second

-- The laws of a choice: it means exactly what the rule means as which it acts.
pub record ChoiceLaws (number : ℕ) (first second : Automaton) : Type 0 where
  pub zero_first : number ≡ 0 → chosen number first second ≡ first
  pub other_second : (number ≢ 0) → chosen number first second ≡ second
