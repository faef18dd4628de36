-- Words for the inner functions of a lift.
use Rattle.std.specs.Prelude.{ℕ, ◌+◌, List, slice_index}
use Rattle.rings.specs.declared.Direction.{Direction}
use Rattle.rings.specs.Line.{tabulate}
use Rattle.rings.specs.Local.{span}
use Rattle.rules.specs.declared.Shape.{Shape}
use Rattle.combinators.specs.declared.lift.Frame.{Frame}
use Rattle.combinators.specs.Lifts.{hull_span, first_index, own_index, half, lifted_shape}

-- The lift of a rule of this shape, and how its windows lie.
abbrev pub frame_of : Shape → Frame
frame_of s = record {
  states = s.states;
  lift = lifted_shape s;
  cells = hull_span s.lo s.hi;
  first = first_index s.lo;
  width = span s.lo s.hi;
  own = own_index s.lo;
}

-- The halves that the rule reads, from a window that lies so.
abbrev pub framed_halves : Frame → Direction → List ℕ → List ℕ
framed_halves f d ws = tabulate (λ j. half d f.states (slice_index ws (f.first + j))) f.width
