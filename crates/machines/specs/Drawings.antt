-- What the call that draws a configuration answers and writes.
use Rattle.std.specs.Prelude.{ℕ, cond, List, length, Some, None, Option, Result, ◌==◌, nat_le, nat_lt}
use Rattle.rings.specs.Ring.{first_stray}
use Rattle.rules.specs.declared.fault.RuleFault.{RuleFault}
use Rattle.rules.specs.declared.fault.RuleFault.TheVariants.{EmptyRing, ShortBuffer, OutOfRange, BadEntry}
use Rattle.rings.specs.Refusals.{outcome, unless_refused}
use Rattle.rules.specs.Maps.{written_over}
use Rattle.machines.specs.Turing.{Machine, Configuration, drawing}

abbrev pub bad_symbol : Option ℕ → Option RuleFault → Option RuleFault
bad_symbol None o = o
bad_symbol (Some i) o = Some (BadEntry i)

-- Why a configuration is not drawn into a buffer of so many cells, if it is not: no cell, a head that is nowhere on the tape or
-- in no state, a symbol that is none, a short buffer.
abbrev pub draw_fault : Machine → Configuration → ℕ → Option RuleFault
draw_fault m c room =
    cond (length c.tape == 0) (Some EmptyRing)
    (cond (nat_le (length c.tape) c.position) (Some OutOfRange)
    (cond (nat_le m.heads c.state) (Some OutOfRange)
    (bad_symbol (first_stray m.symbols c.tape) (cond (nat_lt room (length c.tape)) (Some ShortBuffer) None))))

abbrev pub draw_answer : Machine → Configuration → List ℕ → Result (Unit {0}) RuleFault
draw_answer m c buffer = outcome (draw_fault m c (length buffer))

-- What the buffer holds afterwards: the drawing and the cells behind it, or all as before where the call is refused.
abbrev pub draw_buffer : Machine → Configuration → List ℕ → List ℕ
draw_buffer m c buffer = unless_refused (draw_fault m c (length buffer)) (written_over (drawing m c) buffer) buffer
