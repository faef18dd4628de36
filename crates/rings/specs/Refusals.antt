-- What a call that may refuse answers, and what it writes.
use Rattle.std.specs.Prelude.{Some, None, Ok, Err, Option, Result}

-- What a call answers that only writes: refused if there is a fault.
abbrev pub outcome : {F : Type 0} → Option F → Result (Unit {0}) F
outcome None = Ok tt
outcome (Some f) = Err f

-- What is there after a call that may refuse: what it wrote or made, or all as before where the call is refused.
abbrev pub unless_refused : {F X : Type 0} → Option F → X → X → X
unless_refused None written before = written
unless_refused (Some f) written before = before
