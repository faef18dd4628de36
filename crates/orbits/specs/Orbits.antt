-- Why a rule reaches no ring in so many steps.
use Rattle.std.specs.Prelude.{◌≡◌, ℕ, cond, List, length, Some, None, Option, ◌==◌}
use Rattle.rings.specs.declared.Direction.{Direction}
use Rattle.rings.specs.Automaton.{Automaton, toward}
use Rattle.rules.specs.declared.fault.RuleFault.{RuleFault}
use Rattle.rules.specs.Maps.{map_fault}
use Rattle.orbits.specs.declared.fault.EvolveFault.{EvolveFault}
use Rattle.orbits.specs.declared.fault.EvolveFault.TheVariants.{Memory, Rule}

-- Why the rule does not make n steps from the ring c, if it does not: no step is never refused, and else the first step is what is refused.
abbrev pub evolve_fault : Direction → Automaton → ℕ → List ℕ → Option RuleFault
evolve_fault d a n c = cond (n == 0) None (map_fault a.states (toward d a) c (length c))

-- What stops an evolution: the fault of its steps, or memory that runs out.
abbrev pub Stops : EvolveFault → Option RuleFault → Type 0
Stops Memory o = Unit {0}
Stops (Rule f) o = o ≡ Some f
