-- The program's runs as states, and what the calls that make a run answer.
use Rattle.std.specs.Prelude.{◌≡◌, ℕ, ◌/◌, List, length, pos, Some, None, Ok, Err, Result}
use Rattle.std.specs.Option.{option_map}
use Rattle.rings.specs.declared.Refused.{Refused}
use Rattle.rules.specs.Maps.{written_over}
use Rattle.towers.specs.Towers.{Tower as Meaning}
use Rattle.towers.specs.Encodings.{encode_fault}
use Rattle.runs.specs.declared.Told.{Told}
use Rattle.runs.specs.declared.run.Run.{Run}
use Rattle.runs.specs.declared.fault.RunFault.{RunFault}
use Rattle.runs.specs.declared.fault.RunFault.TheVariants.{Tower}
use Rattle.runs.specs.States.{State, holder}
use Rattle.runs.specs.Calls.{make_fault, made}
use Rattle.runs.specs.Laws.{Shows}

-- A run with its buffers.
abbrev pub state_of : {T : Type 0} → Run T → List ℕ → List ℕ → State
state_of run a b = record { cells = run.cells; steps = run.steps; a = a; b = b }

-- The run is of the tower x, and with its buffers in the state s.
abbrev pub InState : {T : Type 0} → Run T → List ℕ → List ℕ → T → State → Type 0
InState run a b x s = (run.tower ≡ x) × (state_of run a b ≡ s)

-- What tell gives.
abbrev pub told_of : {T : Type 0} → Run T → Told
told_of run = record { cells = run.cells; steps = run.steps; holder = holder run.steps }

-- What beginning a run with the tower x, which means t, comes to, where `room` cells of the buffer may be used: the run and the encoded ring in the buffer, or
-- the refusal with the tower and the buffer as they were.
abbrev pub Begins : {T : Type 0} → Meaning → T → List ℕ → ℕ → List ℕ → Result (Run T) (Refused T RunFault) → List ℕ → Type 0
Begins t x c room a (Ok run) after_a =
    (encode_fault t.bottom.states t.block c room ≡ None) × (run.tower ≡ x) × (run.cells ≡ length c / t.block) × (run.steps ≡ pos 0) × (after_a ≡ written_over (t.encode c) a)
Begins t x c room a (Err e) after_a = (option_map Tower (encode_fault t.bottom.states t.block c room) ≡ Some e.fault) × (e.given ≡ x) × (after_a ≡ a)

-- What making a run with the tower x, which means t, comes to: the run, whose buffers show c after no step; or the refusal, with the tower and the buffer A
-- as they were.
abbrev pub Makes : {T : Type 0} → Meaning → T → List ℕ → List ℕ → List ℕ → Result (Run T) (Refused T RunFault) → List ℕ → Type 0
Makes t x c a b (Ok run) after_a = (make_fault t c (length a) (length b) ≡ None) × InState run after_a b x (made t c a b) × Shows t c (pos 0) (state_of run after_a b)
Makes t x c a b (Err e) after_a = (make_fault t c (length a) (length b) ≡ Some e.fault) × (e.given ≡ x) × (after_a ≡ a)
