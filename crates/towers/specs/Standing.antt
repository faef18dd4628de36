-- The ground keeps the laws of a tower and their bounds, and the top of a tower that does is lawful.
use Rattle.std.proofs.Common.{arith}
use Rattle.rings.specs.Automaton.{Automaton, Lawful}
use Rattle.towers.specs.Towers.{Tower, ground}
use Rattle.towers.specs.Numbers.{Standing}
use Rattle.towers.specs.TowersLemmas.{stands_ground}

pub ground_standing : (a : Automaton) → Lawful a → Standing (ground a)
ground_standing a l = record { laws = stands_ground a l.sound; top = l.bounded; bottom = l.bounded; block = omega arith; steps = omega arith; drift = omega arith }

pub top_lawful : (t : Tower) → Standing t → Lawful t.top
top_lawful t s = record { bounded = s.top; sound = s.laws.top }
