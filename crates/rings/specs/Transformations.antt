-- Transformations of local functions and of automata: iterate, shift, mirror and pack.
use Rattle.std.specs.Prelude.{ℕ, ◌+◌, ◌-◌, ◌^◌, List, reverse, length, take, drop, ℤ, pos, ◌+ℤ◌, ◌*ℤ◌, neg_ℤ, slice_index}
use Rattle.std.specs.Option.{option_map}
use Rattle.rings.specs.Integers.{floor_div, floor_mod}
use Rattle.rings.specs.Line.{tabulate, power}
use Rattle.rings.specs.Local.{Local, width}
use Rattle.rings.specs.Automaton.{Automaton}
use Rattle.rings.specs.Packing.{number, unblocks}

-- values at a window

-- A function f of windows of w cells, done at every window of a list.
unfoldable pub map_list_windows : (List ℕ → ℕ) → ℕ → List ℕ → List ℕ
map_list_windows f w cells = tabulate (λ j. f (take w (drop j cells))) (length cells + 1 - w)

-- f applied t times: each time the window becomes w - 1 cells shorter, and at last one cell is left.
unfoldable pub iterate_value : (List ℕ → ℕ) → ℕ → ℕ → List ℕ → ℕ
iterate_value f w t ws = slice_index (power (map_list_windows f w) t ws) 0

-- The window is unpacked, f is done at the m windows of w cells of which the first begins at the cell skip, and the m codes are packed.
unfoldable pub pack_value : ℕ → ℕ → (List ℕ → ℕ) → ℕ → ℕ → List ℕ → ℕ
pack_value q m f skip w ws = number q (λ j. f (take w (drop (j + skip) (unblocks q m ws)))) m

-- local functions

-- The local function of t steps.
abbrev pub iterate_local : ℕ → Local → Local
iterate_local t l = record { lo = l.lo *ℤ pos t; hi = l.hi *ℤ pos t; value = iterate_value l.value (width l) t }

-- The local function of a step and a rotation by s cells.
abbrev pub shift_local : ℤ → Local → Local
shift_local s l = record { lo = l.lo +ℤ s; hi = l.hi +ℤ s; value = l.value }

-- The local function of a step seen in a mirror.
abbrev pub mirror_local : Local → Local
mirror_local l = record { lo = neg_ℤ l.hi; hi = neg_ℤ l.lo; value = λ ws. l.value (reverse ws) }

-- The local function of a step on blocks of m cells with q states.
abbrev pub pack_local : ℕ → ℕ → Local → Local
pack_local q m l = record {
  lo = floor_div l.lo m;
  hi = floor_div (pos (m - 1) +ℤ l.hi) m;
  value = pack_value q m l.value (floor_mod l.lo m) (width l);
}

-- automata

-- The automaton of which a step is t steps.
abbrev pub iterate : ℕ → Automaton → Automaton
iterate t a = record {
  states = a.states;
  forward = iterate_local t a.forward;
  inverse = option_map (iterate_local t) a.inverse;
}

-- The automaton of which a step is a step and a rotation by s cells; its inverse rotates back.
abbrev pub shift : ℤ → Automaton → Automaton
shift s a = record {
  states = a.states;
  forward = shift_local s a.forward;
  inverse = option_map (shift_local (neg_ℤ s)) a.inverse;
}

-- The automaton seen in a mirror.
abbrev pub mirror : Automaton → Automaton
mirror a = record {
  states = a.states;
  forward = mirror_local a.forward;
  inverse = option_map mirror_local a.inverse;
}

-- The automaton on blocks of m cells.
abbrev pub pack : ℕ → Automaton → Automaton
pack m a = record {
  states = a.states ^ m;
  forward = pack_local a.states m a.forward;
  inverse = option_map (pack_local a.states m) a.inverse;
}
