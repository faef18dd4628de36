-- Turing machines on circular tapes, and the automata that step as they do: a cell has a symbol, and there may be a head on it.
use Rattle.std.specs.Prelude.{◌≡◌, ℕ, ◌+◌, ◌-◌, ◌*◌, ◌/◌, ◌%◌, ◌<◌, ◌≤◌, Bool, true, false, cond, List, length, pos, negsuc, Some, None, Option, ◌==◌, slice_index, slice_set}
use Rattle.std.specs.Option.{option_or}
use Rattle.std.specs.Bool.{then_some}
use Rattle.rings.specs.Line.{tabulate, power}
use Rattle.rings.specs.Ring.{Ring}
use Rattle.rings.specs.Automaton.{Automaton, after}
use Rattle.machines.specs.declared.transition.Transition.{Transition}
use Rattle.machines.specs.declared.transition.Move.{Move}
use Rattle.machines.specs.declared.transition.Move.TheVariants.{Left, Stay, Right}

-- A machine: the number of symbols, the number of states of a head, and the transition of each state and symbol.
pub record Machine : Type 0 where
  pub symbols : ℕ
  pub heads : ℕ
  pub transition : ℕ → ℕ → Transition

-- A machine with at least one symbol and one state of a head, whose transitions write its symbols and lead to its states.
pub record ProperMachine (m : Machine) : Type 0 where
  pub some_symbol : 1 ≤ m.symbols
  pub some_head : 1 ≤ m.heads
  pub writes : (z y : ℕ) → z < m.heads → y < m.symbols → (m.transition z y).write < m.symbols
  pub leads : (z y : ℕ) → z < m.heads → y < m.symbols → (m.transition z y).next < m.heads

-- The number of a head: 0 if there is none, and z + 1 for a head in state z.
abbrev pub head_number : Option ℕ → ℕ
head_number None = 0
head_number (Some z) = z + 1

-- The head with this number, if there is one.
abbrev pub numbered_head : ℕ → Option ℕ
numbered_head p = cond (p == 0) None (Some (p - 1))

-- The code of a cell with the symbol y, one of a symbols, and the head o, if there is one.
abbrev pub code_of : ℕ → ℕ → Option ℕ → ℕ
code_of a y o = y + a * head_number o

-- The symbol of a code.
abbrev pub symbol_of : ℕ → ℕ → ℕ
symbol_of a x = x % a

-- The state of the head of a code, if there is a head.
abbrev pub head_of : ℕ → ℕ → Option ℕ
head_of a x = numbered_head (x / a)

-- Whether two moves are the same.
abbrev pub same_move : Move → Move → Bool
same_move Left Left = true
same_move Left Stay = false
same_move Left Right = false
same_move Stay Left = false
same_move Stay Stay = true
same_move Stay Right = false
same_move Right Left = false
same_move Right Stay = false
same_move Right Right = true

-- The transition that the head o on a cell with the symbol y makes, if there is a head.
abbrev pub acting : Machine → ℕ → Option ℕ → Option Transition
acting m y None = None
acting m y (Some z) = Some (m.transition z y)

-- The transition that the head on a cell with the code x makes, if there is a head.
abbrev pub acts : Machine → ℕ → Option Transition
acts m x = acting m (symbol_of m.symbols x) (head_of m.symbols x)

-- The next symbol of a cell with the symbol y, where the transition o is made, if there is one.
abbrev pub written : ℕ → Option Transition → ℕ
written y None = y
written y (Some t) = t.write

-- The next symbol of a cell with the code x.
abbrev pub next_symbol : Machine → ℕ → ℕ
next_symbol m x = written (symbol_of m.symbols x) (acts m x)

-- The next state of the head that makes the transition o, if there is one and it is this move.
abbrev pub moving : Move → Option Transition → Option ℕ
moving v None = None
moving v (Some t) = then_some (same_move t.step v) t.next

-- The next state of the head of a cell with the code x, if there is a head and it makes this move.
abbrev pub arriving : Machine → Move → ℕ → Option ℕ
arriving m v x = moving v (acts m x)

-- The next head of a cell: the one that comes from the left, else its own that stays, else the one that comes from the right.
abbrev pub next_head : Machine → ℕ → ℕ → ℕ → Option ℕ
next_head m left own right = option_or (arriving m Right left) (option_or (arriving m Stay own) (arriving m Left right))

-- The next code of a cell, from its left neighbour's, its own and its right neighbour's.
abbrev pub next_code : Machine → ℕ → ℕ → ℕ → ℕ
next_code m left own right = code_of m.symbols (next_symbol m own) (next_head m left own right)

-- The automaton of a machine, which reads a cell and its two neighbours and has no inverse.
abbrev pub turing : Machine → Automaton
turing m = record {
  states = m.symbols * (m.heads + 1);
  forward = record { lo = negsuc 0; hi = pos 1; value = λ ws. next_code m (slice_index ws 0) (slice_index ws 1) (slice_index ws 2) };
  inverse = None;
}

-- A circular tape of symbols, with one head: its position and its state.
pub record Configuration : Type 0 where
  pub tape : List ℕ
  pub position : ℕ
  pub state : ℕ

-- A configuration of the machine: a tape of its symbols with at least one cell, and a head on the tape in one of its states.
pub record ProperConfiguration (m : Machine) (c : Configuration) : Type 0 where
  pub tape : Ring m.symbols c.tape
  pub position : c.position < length c.tape
  pub state : c.state < m.heads

-- The position after a move from the position i on a circular tape of n cells.
abbrev pub moved : ℕ → Move → ℕ → ℕ
moved n Left i = (i + n - 1) % n
moved n Stay i = i
moved n Right i = (i + 1) % n

-- The transition that the machine makes at a configuration.
abbrev pub transition_at : Machine → Configuration → Transition
transition_at m c = m.transition c.state (slice_index c.tape c.position)

-- One step of the machine.
abbrev pub step : Machine → Configuration → Configuration
step m c = record {
  tape = slice_set c.tape c.position (transition_at m c).write;
  position = moved (length c.tape) (transition_at m c).step c.position;
  state = (transition_at m c).next;
}

-- The state of the head on the cell i of a configuration, if the head is there.
abbrev pub head_on : Configuration → ℕ → Option ℕ
head_on c i = then_some (i == c.position) c.state

-- The code of the cell i of a configuration.
abbrev pub cell : Machine → Configuration → ℕ → ℕ
cell m c i = code_of m.symbols (slice_index c.tape i) (head_on c i)

-- The ring of the codes of a configuration.
abbrev pub drawing : Machine → Configuration → List ℕ
drawing m c = tabulate (cell m c) (length c.tape)

-- The automaton steps as its machine does: n steps take the drawing of a configuration to the drawing of the machine's configuration n steps later.
abbrev pub StepsAsItsMachine : Machine → Type 0
StepsAsItsMachine m = (c : Configuration) → ProperConfiguration m c → (n : ℕ) → after (turing m) (pos n) (drawing m c) ≡ drawing m (power (step m) n c)
