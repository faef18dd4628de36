-- Worked rings: facts about the definitions at written numbers, together.
use Rattle.std.specs.Prelude.{◌≡◌, cond, [], ◌∷◌, pos, negsuc, ◌==◌}
use Rattle.rings.specs.Automaton.{Automaton, after}
use Rattle.rules.specs.Tables.{table}
use Rattle.rules.specs.Elementary.{elementary}
use Rattle.combinators.specs.Lifts.{lift_or}
use Rattle.machines.specs.declared.transition.Move.TheVariants.{Left, Right}
use Rattle.machines.specs.Turing.{Machine, turing}

-- The identity on three states.
abbrev pub identity_of_three : Automaton
identity_of_three = table 3 (pos 0) (pos 0) (0 ∷ 1 ∷ 2 ∷ [])

-- One state and two symbols: on 0 the machine writes 1 and moves right, on 1 it writes 0 and moves left.
abbrev pub swapping_machine : Machine
swapping_machine = record {
  symbols = 2;
  heads = 1;
  transition = λ z y. cond (y == 0) (record { write = 1; step = Right; next = 0 }) (record { write = 0; step = Left; next = 0 });
}

pub record WorkedRings : Type 0 where
  -- rule 110 takes 0 0 0 1 to 0 0 1 1, and then to 0 1 1 1
  pub first_step : after (elementary 110) (pos 1) (0 ∷ 0 ∷ 0 ∷ 1 ∷ []) ≡ 0 ∷ 0 ∷ 1 ∷ 1 ∷ []
  pub second_step : after (elementary 110) (pos 2) (0 ∷ 0 ∷ 0 ∷ 1 ∷ []) ≡ 0 ∷ 1 ∷ 1 ∷ 1 ∷ []
  -- rule 110 takes the one-cell ring 1 to 0
  pub one_cell : after (elementary 110) (pos 1) (1 ∷ []) ≡ 0 ∷ []
  -- the identity on three states, lifted, takes 7 to 5, and back to 7
  pub lift : after (lift_or identity_of_three) (pos 1) (7 ∷ []) ≡ 5 ∷ []
  pub lift_back : after (lift_or identity_of_three) (negsuc 0) (5 ∷ []) ≡ 7 ∷ []
  -- the swapping machine takes 2 0 to 1 2, and the one-cell ring 2 to 3
  pub machine : after (turing swapping_machine) (pos 1) (2 ∷ 0 ∷ []) ≡ 1 ∷ 2 ∷ []
  pub machine_one_cell : after (turing swapping_machine) (pos 1) (2 ∷ []) ≡ 3 ∷ []
