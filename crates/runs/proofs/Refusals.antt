-- Lemmas on refusals: what is known of a run when nothing refuses.
use Rattle.std.proofs.Common.{◌≡◌, ℕ, ◌/◌, ◌<◌, ◌≤◌, false, true, List, length, ◌+ℤ◌, nat_abs, is_some, None, Some, Option, arith}
use Rattle.std.proofs.lemmas.Bool.{lt-ltb, le-ltb}
use Rattle.std.proofs.lemmas.Bool.Decides.{nat_tests}
use Rattle.rings.specs.declared.Direction.{Direction}
use Rattle.rings.specs.Ring.{Codes, first_stray, IsFirstStray}
use Rattle.rings.specs.Automaton.{Automaton, toward, toward_steps}
use Rattle.rings.proofs.Ring.{is_first_stray, first_stray-codes}
use Rattle.rules.specs.declared.fault.RuleFault.TheVariants.{ShortBuffer}
use Rattle.towers.specs.Towers.{Tower}
use Rattle.towers.proofs.Calls.{more_than}
use Rattle.runs.specs.Limits.{max_count, max_steps}
use Rattle.runs.specs.States.{State, held}
use Rattle.runs.specs.Calls.{rule_fault, stray_fault, is_short, move_fault, read_fault, present_fault}

-- The buffers have room for the ring.
pub record Roomy (s : State) : Type 0 where
  pub a : s.cells ≤ length s.a
  pub b : s.cells ≤ length s.b

pub roomy : (s : State) → present_fault s ≡ None → Roomy s
roomy s h = record { a = grind (arith, nat_tests); b = grind (arith, nat_tests) }

pub not_short : (s : State) → Roomy s → is_short s ≡ false
not_short s room = grind (arith, nat_tests)

pub stray_none : (q : ℕ) (c : List ℕ) → stray_fault (first_stray q c) ≡ None → Codes q c
stray_none q c = by (first_stray q c) (is_first_stray q c) where
  by : (o : Option ℕ) → IsFirstStray q c o → stray_fault o ≡ None → Codes q c
  by None s h = s
  by (Some i) s h = cc

-- Steps that nothing refuses.
pub record Movable (d : Direction) (a : Automaton) (n : ℕ) (s : State) : Type 0 where
  pub goes : is_some (toward d a) ≡ true
  pub room : Roomy s
  pub few : n ≤ max_count
  pub near : nat_abs (s.steps +ℤ toward_steps d n) ≤ max_steps
  pub codes : Codes a.states (held s)

pub movable : (d : Direction) (a : Automaton) (n : ℕ) (s : State) → move_fault d a n s ≡ None → Movable d a n s
movable d a n s h = record {
  goes = grind arith;
  room = record { a = grind (arith, nat_tests); b = grind (arith, nat_tests) };
  few = grind (arith, nat_tests);
  near = grind (arith, nat_tests);
  codes = stray_none a.states (held s) (grind (arith, nat_tests));
}

pub unrefused : (d : Direction) (a : Automaton) (n : ℕ) (s : State) → Movable d a n s → move_fault d a n s ≡ None
unrefused d a n s m = let c : first_stray a.states (held s) ≡ None = first_stray-codes 0 a.states (held s) m.codes in grind (arith, nat_tests, m.goes, m.room, m.few, m.near, c)

-- Reading refuses a buffer that has fewer whole blocks than the ring has cells, and else the first stray code alone.
module _ (t : Tower) (s : State) (room : ℕ) (block : 1 ≤ t.block) (presents : present_fault s ≡ None) where
  pub read_fault-short : room / t.block < s.cells → read_fault t s room ≡ Some (rule_fault ShortBuffer)
  read_fault-short h = rw (not_short s (roomy s presents)) (rw (more_than room s.cells t.block block) (rw (lt-ltb (room / t.block) s.cells h)))

  pub read_fault_room : s.cells ≤ room / t.block → read_fault t s room ≡ stray_fault (first_stray t.top.states (held s))
  read_fault_room h = rw (not_short s (roomy s presents)) (rw (more_than room s.cells t.block block) (rw (le-ltb (room / t.block) s.cells h)))
