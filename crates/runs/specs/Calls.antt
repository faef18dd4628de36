-- What each call on a run answers, and what it makes of the run and of the buffers.
use Rattle.std.specs.Prelude.{ℕ, ◌+◌, ◌*◌, ◌/◌, min, Bool, cond, ◌||◌, List, [], ◌∷◌, length, ℤ, pos, ◌+ℤ◌, ◌*ℤ◌, neg_ℤ, is_some, Some, None, Option, nat_lt, unsigned_abs}
use Rattle.std.specs.Option.{option_map, option_or}
use Rattle.rings.specs.declared.Direction.{Direction}
use Rattle.rings.specs.declared.Direction.TheVariants.{Forward, Backward}
use Rattle.rings.specs.Ring.{first_stray, rotate}
use Rattle.rings.specs.Automaton.{Automaton, toward, toward_steps}
use Rattle.rings.specs.Refusals.{unless_refused}
use Rattle.rules.specs.declared.fault.RuleFault.{RuleFault}
use Rattle.rules.specs.declared.fault.RuleFault.TheVariants.{StrayCode, ShortBuffer, NoInverse}
use Rattle.rules.specs.Maps.{written_over}
use Rattle.towers.specs.declared.fault.TowerFault.TheVariants.{Rule}
use Rattle.towers.specs.Towers.{Tower as Meaning}
use Rattle.towers.specs.Encodings.{encode_fault}
use Rattle.runs.specs.declared.Call.{Call}
use Rattle.runs.specs.declared.Call.TheVariants.{Advance, Back, Read, Present, Tell}
use Rattle.runs.specs.declared.RefusedCall.{RefusedCall}
use Rattle.runs.specs.declared.fault.RunFault.{RunFault}
use Rattle.runs.specs.declared.fault.RunFault.TheVariants.{Tower, TooFar}
use Rattle.runs.specs.Limits.{max_count, max_steps}
use Rattle.runs.specs.States.{State, held, moved}

-- refusals and outcomes

-- A refusal of a rule, as one of a run.
abbrev pub rule_fault : RuleFault → RunFault
rule_fault f = Tower (Rule f)

-- The refusal, where the test holds.
abbrev pub refused_if : Bool → RunFault → Option RunFault
refused_if b f = cond b (Some f) None

-- The refusal of the stray code at an index, if there is one.
abbrev pub stray_fault : Option ℕ → Option RunFault
stray_fault o = option_map (λ i. rule_fault (StrayCode i)) o

-- A or B is too short for the ring.
abbrev pub is_short : State → Bool
is_short s = nat_lt (length s.a) s.cells || nat_lt (length s.b) s.cells

-- make

-- Why no run is made of a bottom ring c with buffers of so many cells, if none is: as the ring would not be encoded into the shorter of them.
abbrev pub make_fault : Meaning → List ℕ → ℕ → ℕ → Option RunFault
make_fault t c room_a room_b = option_map Tower (encode_fault t.bottom.states t.block c (min room_a room_b))

-- The run that is made, with its buffers: A holds the encoded ring.
abbrev pub made : Meaning → List ℕ → List ℕ → List ℕ → State
made t c a b = record { cells = length c / t.block; steps = pos 0; a = written_over (t.encode c) a; b = b }

-- advance and back

-- More steps than one call makes, or steps that would lead the run past its limit either way.
abbrev pub is_too_far : Direction → ℤ → ℕ → Bool
is_too_far d k n = nat_lt max_count n || nat_lt max_steps (unsigned_abs (k +ℤ toward_steps d n))

-- Why n steps are refused, if they are: no inverse, a short buffer, too far, a stray code in the held ring.
abbrev pub move_fault : Direction → Automaton → ℕ → State → Option RunFault
move_fault d a n s =
    cond (is_some (toward d a))
    (cond (is_short s) (Some (rule_fault ShortBuffer)) (cond (is_too_far d s.steps n) (Some TooFar) (stray_fault (first_stray a.states (held s)))))
    (Some (rule_fault NoInverse))

-- The run after n steps are asked for: as it was, where they are refused.
abbrev pub tried : Direction → Automaton → ℕ → State → State
tried d a n s = unless_refused (move_fault d a n s) (moved d a n s) s

-- read and present

-- What is read of a run: the held ring, decoded and turned back.
abbrev pub reading : Meaning → State → List ℕ
reading t s = rotate (neg_ℤ (t.drift *ℤ s.steps)) (t.decode (held s))

-- Why nothing is read into a buffer of so many cells, if nothing is: a short buffer, a stray code in the held ring.
abbrev pub read_fault : Meaning → State → ℕ → Option RunFault
read_fault t s room = cond (is_short s || nat_lt room (s.cells * t.block)) (Some (rule_fault ShortBuffer)) (stray_fault (first_stray t.top.states (held s)))

-- The buffer after a reading into it.
abbrev pub read_buffer : Meaning → State → List ℕ → List ℕ
read_buffer t s third = unless_refused (read_fault t s (length third)) (written_over (reading t s) third) third

-- Why the held ring is not presented, if it is not.
abbrev pub present_fault : State → Option RunFault
present_fault s = refused_if (is_short s) (rule_fault ShortBuffer)

-- any call, and lists of calls

-- Why a call is refused, if it is, with a third buffer of so many cells.
abbrev pub call_fault : Meaning → Call → State → ℕ → Option RunFault
call_fault t (Advance n) s room = move_fault Forward t.top n s
call_fault t (Back n) s room = move_fault Backward t.top n s
call_fault t Read s room = read_fault t s room
call_fault t Present s room = present_fault s
call_fault t Tell s room = None

-- The run and its buffers after a call.
abbrev pub called : Meaning → Call → State → State
called t (Advance n) s = tried Forward t.top n s
called t (Back n) s = tried Backward t.top n s
called t Read s = s
called t Present s = s
called t Tell s = s

-- The third buffer after a call.
abbrev pub called_third : Meaning → Call → State → List ℕ → List ℕ
called_third t (Advance n) s third = third
called_third t (Back n) s third = third
called_third t Read s third = read_buffer t s third
called_third t Present s third = third
called_third t Tell s third = third

-- The run and its buffers after a list of calls, one after the other.
unfoldable pub performed : Meaning → List Call → State → State
performed t [] s = s
performed t (call ∷ calls) s = performed t calls (called t call s)

-- The third buffer after a list of calls.
unfoldable pub performed_third : Meaning → List Call → State → List ℕ → List ℕ
performed_third t [] s third = third
performed_third t (call ∷ calls) s third = performed_third t calls (called t call s) (called_third t call s third)

-- The refused call at an index.
abbrev pub refused_at : ℕ → RunFault → RefusedCall
refused_at i f = record { index = i; fault = f }

-- The first refused call of a list, where the calls are counted from i on.
unfoldable pub first_refused : Meaning → ℕ → List Call → State → ℕ → Option RefusedCall
first_refused t i [] s room = None
first_refused t i (call ∷ calls) s room = option_or (option_map (refused_at i) (call_fault t call s room)) (first_refused t (i + 1) calls (called t call s) room)
