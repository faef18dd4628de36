-- A run with its buffers, and what its steps make of them.
use Rattle.std.specs.Prelude.{ℕ, zero, suc, ◌%◌, Bool, cond, List, take, ℤ, ◌+ℤ◌, ◌==◌, unsigned_abs}
use Rattle.rings.specs.declared.Direction.{Direction}
use Rattle.rings.specs.Automaton.{Automaton, after, toward_steps}
use Rattle.rules.specs.Maps.{written_over}
use Rattle.runs.specs.declared.Holder.{Holder}
use Rattle.runs.specs.declared.Holder.TheVariants.{A, B}

-- A run and its two buffers: how many cells its ring has, how many steps it has gone, and what the buffers A and B hold.
pub record State : Type 0 where
  pub cells : ℕ
  pub steps : ℤ
  pub a : List ℕ
  pub b : List ℕ

-- Whether a count is even.
abbrev pub is_even : ℤ → Bool
is_even k = unsigned_abs k % 2 == 0

-- Which buffer holds the ring after k steps: A if k is even, else B.
abbrev pub holder : ℤ → Holder
holder k = cond (is_even k) A B

-- Of what belongs to A and what belongs to B, that of a buffer.
abbrev pub of_buffer : Holder → List ℕ → List ℕ → List ℕ
of_buffer A a b = a
of_buffer B a b = b

-- Of what belongs to A and what belongs to B, that of the buffer that holds the ring after k steps.
abbrev pub of_holder : ℤ → List ℕ → List ℕ → List ℕ
of_holder k a b = of_buffer (holder k) a b

-- The ring that the run holds.
abbrev pub held : State → List ℕ
held s = take s.cells (of_holder s.steps s.a s.b)

-- The run at the count k: the buffer that then holds the ring has `ring` in its first cells, the other `earlier`.
abbrev pub holding : ℤ → List ℕ → List ℕ → State → State
holding k ring earlier s = record {
  cells = s.cells;
  steps = k;
  a = written_over (of_holder k ring earlier) s.a;
  b = written_over (of_holder k earlier ring) s.b;
}

-- The run after n steps of an automaton: it holds what the automaton reaches in n steps, and the other buffer what it reaches in one step less.
unfoldable pub moved : Direction → Automaton → ℕ → State → State
moved d a zero s = s
moved d a (suc m) s = holding (s.steps +ℤ toward_steps d (suc m)) (after a (toward_steps d (suc m)) (held s)) (after a (toward_steps d m) (held s)) s
