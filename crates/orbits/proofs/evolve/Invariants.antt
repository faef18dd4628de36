use Rattle.std.proofs.Common.{◌≡◌, ◌≤◌, length, None}
use Rattle.rings.specs.Line.{power}
use Rattle.rings.specs.Automaton.{toward}
use Rattle.rules.specs.Maps.{image, map_fault}
use Rattle.orbits.proofs.evolve.Given as goal

abbrev pub invariant-loop-step : goal.invariant-loop-step
invariant-loop-step g l =
    let a = g.R.Rule.meaning l.rule in
    record {
      reached : l.current.items ≡ power (image (toward l.direction a)) l._step l.ring;
      room : length l.next.items ≡ length l.ring;
      accepted : 1 ≤ l._step → None ≡ map_fault a.states (toward l.direction a) l.ring (length l.ring);
    }
