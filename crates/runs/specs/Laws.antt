-- The law of runs: which calls of a list are accepted, what a run then shows, and what it answers.
use Rattle.std.specs.Prelude.{◌≡◌, ℕ, zero, suc, ◌+◌, ◌≤◌, Bool, true, false, cond, List, [], ◌∷◌, length, ℤ, pos, ◌+ℤ◌, ◌-ℤ◌, ◌*ℤ◌, is_some, Some, None, Option, Result, nat_lt}
use Rattle.std.specs.Option.{option_map, option_or}
use Rattle.rings.specs.declared.Direction.{Direction}
use Rattle.rings.specs.declared.Direction.TheVariants.{Forward, Backward}
use Rattle.rings.specs.Automaton.{Automaton, after, Goes, toward_steps}
use Rattle.rings.specs.Refusals.{outcome, unless_refused}
use Rattle.rules.specs.declared.fault.RuleFault.TheVariants.{ShortBuffer, NoInverse}
use Rattle.rules.specs.Answers.{shape_of}
use Rattle.combinators.specs.Lifts.{liftable, lift_or}
use Rattle.rules.specs.Maps.{written_over}
use Rattle.towers.specs.Towers.{Tower, Fitting}
use Rattle.runs.specs.declared.Call.{Call}
use Rattle.runs.specs.declared.Call.TheVariants.{Advance, Back, Read, Present, Tell}
use Rattle.runs.specs.declared.RefusedCall.{RefusedCall}
use Rattle.runs.specs.declared.Told.{Told}
use Rattle.runs.specs.declared.fault.RunFault.{RunFault}
use Rattle.runs.specs.declared.fault.RunFault.TheVariants.{TooFar}
use Rattle.runs.specs.States.{State, held, holder, holding}
use Rattle.runs.specs.Calls.{rule_fault, refused_if, is_too_far, refused_at, made}

-- what a run shows

-- The run with its buffers shows the bottom ring c after k steps: c fits the tower, the buffers have room, the count is k, the bottom can go
-- k steps, and the held ring is what the top reaches in k steps from the encoded ring.
pub record Shows (t : Tower) (c : List ℕ) (k : ℤ) (s : State) : Type 0 where
  pub fitting : Fitting t s.cells c
  pub room_a : s.cells ≤ length s.a
  pub room_b : s.cells ≤ length s.b
  pub count : s.steps ≡ k
  pub goes : Goes t.bottom k
  pub ring : held s ≡ after t.top k (t.encode c)

-- which calls are accepted

-- Why a call at the count k is refused, if it is, told from the limits alone: whether there is an inverse, and whether the third buffer is short.
abbrev pub limit_fault : Bool → Bool → ℤ → Call → Option RunFault
limit_fault inverse short k (Advance n) = refused_if (is_too_far Forward k n) TooFar
limit_fault inverse short k (Back n) = cond inverse (refused_if (is_too_far Backward k n) TooFar) (Some (rule_fault NoInverse))
limit_fault inverse short k Read = refused_if short (rule_fault ShortBuffer)
limit_fault inverse short k Present = None
limit_fault inverse short k Tell = None

-- The steps of a direction that a call at the count k makes: its count, if it is accepted.
abbrev pub accepted_steps : Bool → ℤ → Call → Direction → ℕ
accepted_steps inverse k (Advance n) Forward = unless_refused (limit_fault inverse false k (Advance n)) n 0
accepted_steps inverse k (Advance n) Backward = 0
accepted_steps inverse k (Back n) Forward = 0
accepted_steps inverse k (Back n) Backward = unless_refused (limit_fault inverse false k (Back n)) n 0
accepted_steps inverse k Read d = 0
accepted_steps inverse k Present d = 0
accepted_steps inverse k Tell d = 0

-- The count after a call: the accepted steps forward are added, those back are taken off.
abbrev pub next_count : Bool → ℤ → Call → ℤ
next_count inverse k call = (k +ℤ pos (accepted_steps inverse k call Forward)) -ℤ pos (accepted_steps inverse k call Backward)

-- The count after a list of calls.
unfoldable pub count_after : Bool → List Call → ℤ → ℤ
count_after inverse [] k = k
count_after inverse (call ∷ calls) k = count_after inverse calls (next_count inverse k call)

-- All accepted steps of a direction in a list of calls.
unfoldable pub accepted : Bool → Direction → List Call → ℤ → ℕ
accepted inverse d [] k = 0
accepted inverse d (call ∷ calls) k = accepted_steps inverse k call d + accepted inverse d calls (next_count inverse k call)

-- The direction of the last step after n more steps of a direction.
abbrev pub last_of : Direction → ℕ → Option Direction → Option Direction
last_of d zero last = last
last_of d (suc m) last = Some d

-- The direction of the last accepted step of a list of calls, if there was one; `last` is that before the list.
unfoldable pub last_step : Bool → List Call → ℤ → Option Direction → Option Direction
last_step inverse [] k last = last
last_step inverse (call ∷ calls) k last =
    last_step inverse calls (next_count inverse k call) (last_of Backward (accepted_steps inverse k call Backward) (last_of Forward (accepted_steps inverse k call Forward) last))

-- The first refused call of a list, where the calls are counted from i on, told from the limits alone.
unfoldable pub limit_refused : Bool → Bool → ℕ → List Call → ℤ → Option RefusedCall
limit_refused inverse short i [] k = None
limit_refused inverse short i (call ∷ calls) k = option_or (option_map (refused_at i) (limit_fault inverse short k call)) (limit_refused inverse short (i + 1) calls (next_count inverse k call))

-- Whether the bottom goes back, and so the top.
abbrev pub has_inverse : Tower → Bool
has_inverse t = is_some t.bottom.inverse

-- what the buffers hold

-- A run that shows c, at the count k, when the last step since the state s went in a direction: it holds what the top reaches in k steps from the
-- encoded ring, and the other buffer what it reaches in one step less that way. Without a step all is as it was.
abbrev pub shown : Tower → List ℕ → ℤ → Option Direction → State → State
shown t c k None s = s
shown t c k (Some d) s = holding k (after t.top k (t.encode c)) (after t.top (k -ℤ toward_steps d 1) (t.encode c)) s

-- the laws of the calls, for every ring c that a run shows

-- A step call is refused exactly for the limits, and the run then shows c after the count that they give.
pub record Moves (t : Tower) (call : Call) (c : List ℕ) (k : ℤ) (s : State) (r : Result (Unit {0}) RunFault) : Type 0 where
  pub answer : r ≡ outcome (limit_fault (has_inverse t) false k call)
  pub shows : Shows t c (next_count (has_inverse t) k call) s

-- The law of a step call, for every ring that the run shows.
abbrev pub MoveLaw : Tower → Call → State → State → Result (Unit {0}) RunFault → Type 0
MoveLaw t call before s r = (c : List ℕ) (k : ℤ) → Shows t c k before → Moves t call c k s r

-- What the bottom reaches from c while the top goes k steps.
abbrev pub bottom_after : Tower → ℤ → List ℕ → List ℕ
bottom_after t k c = after t.bottom (pos t.steps *ℤ k) c

-- A reading is refused only for a short buffer, and else shows what the bottom reaches from c.
pub record Reads (t : Tower) (c : List ℕ) (k : ℤ) (third after_third : List ℕ) (r : Result (Unit {0}) RunFault) : Type 0 where
  pub answer : r ≡ outcome (refused_if (nat_lt (length third) (length c)) (rule_fault ShortBuffer))
  pub buffer : length c ≤ length third → after_third ≡ written_over (bottom_after t k c) third

-- The law of a reading, for every ring that the run shows.
abbrev pub ReadLaw : Tower → State → List ℕ → List ℕ → Result (Unit {0}) RunFault → Type 0
ReadLaw t s third after_third r = (c : List ℕ) (k : ℤ) → Shows t c k s → Reads t c k third after_third r

-- A list of calls: the first refused call is that of the limits, the run shows c after the count that they give, and the buffers hold the rings of
-- the last two counts. The count is the accepted steps forward less those back.
pub record Performs (t : Tower) (calls : List Call) (c : List ℕ) (k : ℤ) (before s : State) (room : ℕ) (r : Option RefusedCall) : Type 0 where
  pub answer : r ≡ limit_refused (has_inverse t) (nat_lt room (length c)) 0 calls k
  pub shows : Shows t c (count_after (has_inverse t) calls k) s
  pub buffers : s ≡ shown t c (count_after (has_inverse t) calls k) (last_step (has_inverse t) calls k None) before
  pub count : count_after (has_inverse t) calls k ≡ (k +ℤ pos (accepted (has_inverse t) Forward calls k)) -ℤ pos (accepted (has_inverse t) Backward calls k)

-- The law of a list of calls, for every ring that the run shows.
abbrev pub PerformLaw : Tower → List Call → State → State → ℕ → Option RefusedCall → Type 0
PerformLaw t calls before s room r = (c : List ℕ) (k : ℤ) → Shows t c k before → Performs t calls c k before s room r

-- the law of whole runs

-- The count after a list of calls on a new run.
abbrev pub final_count : Tower → List Call → ℤ
final_count t calls = count_after (has_inverse t) calls (pos 0)

-- What a list of calls on a run made for c comes to. Here and below s is the run with its buffers in the end, and it was made with the buffers a and b.
-- The run tells its cells, its count and its holder; the count is the accepted steps forward less those back; the first refused call is that of the limits.
-- The buffers hold what the top reaches from the encoded ring, and the third buffer shows what the bottom reaches from c.
pub record SimulatesRun (t : Tower) (c : List ℕ) (calls : List Call) (a b third : List ℕ) (tells : Told) (first : Option RefusedCall) (s : State) (after_third : List ℕ) : Type 0 where
  pub told : tells ≡ record { cells = s.cells; steps = final_count t calls; holder = holder (final_count t calls) }
  pub refused : first ≡ limit_refused (has_inverse t) false 0 calls (pos 0)
  pub count : final_count t calls ≡ pos (accepted (has_inverse t) Forward calls (pos 0)) -ℤ pos (accepted (has_inverse t) Backward calls (pos 0))
  pub buffers : s ≡ shown t c (final_count t calls) (last_step (has_inverse t) calls (pos 0) None) (made t c a b)
  pub presents : held s ≡ after t.top (final_count t calls) (t.encode c)
  pub reads : after_third ≡ written_over (bottom_after t (final_count t calls) c) third
  pub shows : Shows t c (final_count t calls) s

-- Different bottom rings of one fitting length are encoded as different top rings.
abbrev pub Apart : Tower → Type 0
Apart t = (n : ℕ) (c d : List ℕ) → Fitting t n c → Fitting t n d → t.encode c ≡ t.encode d → c ≡ d

-- Over a lifted rule no call is refused for want of an inverse, and as many accepted steps forward as back lead back to the first ring.
pub record Returns (t : Tower) (c : List ℕ) (calls : List Call) (third : List ℕ) (s : State) (after_third : List ℕ) : Type 0 where
  pub backs : (short : Bool) (k : ℤ) (n : ℕ) → limit_fault (has_inverse t) short k (Back n) ≡ refused_if (is_too_far Backward k n) TooFar
  pub reads : accepted (has_inverse t) Forward calls (pos 0) ≡ accepted (has_inverse t) Backward calls (pos 0) → after_third ≡ written_over c third
  pub presents : accepted (has_inverse t) Forward calls (pos 0) ≡ accepted (has_inverse t) Backward calls (pos 0) → held s ≡ t.encode c

-- The exact inverse: under every tower over the lift of a rule that can be lifted, a run returns.
abbrev pub ExactInverse : Tower → List ℕ → List Call → List ℕ → State → List ℕ → Type 0
ExactInverse t c calls third s after_third = (a : Automaton) → liftable (shape_of a) ≡ true → t.bottom ≡ lift_or a → Returns t c calls third s after_third
