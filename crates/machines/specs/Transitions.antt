-- The list of transitions of a machine, how one is entered, and the numbers of the moves.
use Rattle.std.specs.Prelude.{◌≡◌, ℕ, ◌+◌, ◌*◌, ◌/◌, ◌%◌, ◌<◌, Bool, cond, ◌&&◌, List, map, IfSome, Some, None, Ok, Err, Option, Result, ◌==◌, nat_lt, slice_index_or, slice_set}
use Rattle.std.specs.List.{range_with_len}
use Rattle.std.specs.Option.{ok_or}
use Rattle.rules.specs.declared.fault.RuleFault.{RuleFault}
use Rattle.rules.specs.declared.fault.RuleFault.TheVariants.{OutOfRange, BadEntry}
use Rattle.machines.specs.declared.transition.Transition.{Transition}
use Rattle.machines.specs.declared.transition.Move.{Move}
use Rattle.machines.specs.declared.transition.UnknownMove.{UnknownMove}
use Rattle.machines.specs.declared.transition.Move.TheVariants.{Left, Stay, Right}
use Rattle.machines.specs.Sizes.{max_transitions}
use Rattle.machines.specs.Turing.{Machine}

-- The number of the kind of rule.
abbrev pub turing_kind : ℕ
turing_kind = 0x0012

-- The number of a move.
abbrev pub move_number : Move → ℕ
move_number Left = 0
move_number Stay = 1
move_number Right = 2

-- The move with a number, if there is one.
abbrev pub numbered_move : ℕ → Option Move
numbered_move n = cond (n == 0) (Some Left) (cond (n == 1) (Some Stay) (cond (n == 2) (Some Right) None))

-- The move with a number, or else the number.
abbrev pub move_of : ℕ → Result Move UnknownMove
move_of n = ok_or (numbered_move n) (record { 0 = n })

-- The transition that changes nothing, in the state z at the symbol y: it writes what it reads, stays and keeps the state.
abbrev pub idle : ℕ → ℕ → Transition
idle z y = record { write = y; step = Stay; next = z }

-- What is read past the end of a list of transitions.
abbrev pub blank : Transition
blank = record { write = 0; step = Left; next = 0 }

-- The machine with a symbols, h states of a head and this list of transitions: that of the state z and the symbol y has the index z * a + y.
abbrev pub listed : ℕ → ℕ → List Transition → Machine
listed a h list = record { symbols = a; heads = h; transition = λ z y. slice_index_or list (z * a + y) blank }

-- The transition writes one of a symbols and leads to one of h states.
abbrev pub transition_fits : ℕ → ℕ → Transition → Bool
transition_fits a h t = nat_lt t.write a && nat_lt t.next h

-- The transition with the index i of a new machine, which changes nothing.
abbrev pub new_transition : ℕ → ℕ → ℕ → Transition
new_transition a h i = cond (nat_lt i (a * h)) (idle (i / a) (i % a)) (idle 0 0)

-- The list of a new machine.
unfoldable pub new_list : ℕ → ℕ → List Transition
new_list a h = map (new_transition a h) (range_with_len 0 max_transitions)

-- Nothing changes: in each of its states, at each of its symbols, the machine writes what it reads, stays and keeps its state.
abbrev pub Idles : Machine → Type 0
Idles m = (z y : ℕ) → z < m.heads → y < m.symbols → m.transition z y ≡ idle z y

-- The transition of three numbers, if they are in their ranges.
abbrev pub made_transition : ℕ → ℕ → ℕ → Option Move → ℕ → Option Transition
made_transition a h write None next = None
made_transition a h write (Some v) next = cond (nat_lt write a && nat_lt next h) (Some (record { write = write; step = v; next = next })) None

abbrev pub transition_of : ℕ → ℕ → ℕ → ℕ → ℕ → Option Transition
transition_of a h write step next = made_transition a h write (numbered_move step) next

abbrev pub entered_answer : Option Transition → ℕ → Result (Unit {0}) RuleFault
entered_answer None index = Err (BadEntry index)
entered_answer (Some t) index = Ok tt

-- What entering a transition at an index answers: refused for the index, and then for one of the numbers.
abbrev pub enter_answer : ℕ → ℕ → ℕ → Option Transition → Result (Unit {0}) RuleFault
enter_answer a h index o = cond (nat_lt index (a * h)) (entered_answer o index) (Err OutOfRange)

abbrev pub entered_list : Option Transition → ℕ → List Transition → List Transition
entered_list None index list = list
entered_list (Some t) index list = slice_set list index t

-- The list afterwards: as before where the call is refused.
abbrev pub enter_list : ℕ → ℕ → ℕ → Option Transition → List Transition → List Transition
enter_list a h index o list = cond (nat_lt index (a * h)) (entered_list o index list) list

-- The machine n is the machine m with the transition t at the index: in the state and at the symbol of that index it makes t, and
-- elsewhere what m makes.
abbrev pub Entered : Machine → Machine → ℕ → Transition → Type 0
Entered m n index t = (z y : ℕ) → z < m.heads → y < m.symbols → n.transition z y ≡ cond (z * m.symbols + y == index) t (m.transition z y)

-- What a list is after an accepted entry.
abbrev pub Enters : ℕ → ℕ → ℕ → Option Transition → List Transition → Type 0
Enters a h index o list = IfSome o (λ t. index < a * h → Entered (listed a h list) (listed a h (enter_list a h index o list)) index t)
