-- What a whole simulation answers and leaves in the buffers.
use Rattle.std.specs.Prelude.{◌≡◌, ℕ, List, length, Some, None, Ok, Err, Option, Result, nat_lt}
use Rattle.std.specs.Option.{option_or}
use Rattle.rings.specs.declared.Refused.{Refused}
use Rattle.rules.specs.declared.fault.RuleFault.TheVariants.{ShortBuffer}
use Rattle.towers.specs.Towers.{Tower}
use Rattle.runs.specs.declared.Call.{Call}
use Rattle.runs.specs.declared.simulation.Simulation.{Simulation}
use Rattle.runs.specs.declared.fault.RunFault.{RunFault}
use Rattle.runs.specs.Calls.{rule_fault, refused_if, make_fault}
use Rattle.runs.specs.Laws.{SimulatesRun, ExactInverse}
use Rattle.runs.specs.Views.{state_of}

-- Why a ring is not simulated with buffers of so many cells, if it is not: as no run is made of it, and then a third buffer that is too short.
abbrev pub simulate_fault : Tower → List ℕ → ℕ → ℕ → ℕ → Option RunFault
simulate_fault t c room_a room_b room_third = option_or (make_fault t c room_a room_b) (refused_if (nat_lt room_third (length c)) (rule_fault ShortBuffer))

-- What simulating c by a list of calls comes to, with the tower x, which means t: the law of whole runs, and the law of the exact inverse;
-- or the refusal, with the tower and all buffers as they were.
abbrev pub Simulated : {T : Type 0} → Tower → T → List ℕ → List Call → List ℕ → List ℕ → List ℕ → Result (Simulation T) (Refused T RunFault) → List ℕ → List ℕ → List ℕ → Type 0
Simulated t x c calls a b third (Ok sim) after_a after_b after_third =
    (simulate_fault t c (length a) (length b) (length third) ≡ None)
    × (sim.run.tower ≡ x)
    × SimulatesRun t c calls a b third sim.told sim.refused (state_of sim.run after_a after_b) after_third
    × ExactInverse t c calls third (state_of sim.run after_a after_b) after_third
Simulated t x c calls a b third (Err e) after_a after_b after_third =
    (simulate_fault t c (length a) (length b) (length third) ≡ Some e.fault) × (e.given ≡ x) × (after_a ≡ a) × (after_b ≡ b) × (after_third ≡ third)
