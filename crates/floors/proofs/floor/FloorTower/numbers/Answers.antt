use Rattle.std.proofs.Common.{rules}
use Rattle.floors.specs.ActingLemmas.{floor_numbers_are}
use Rattle.floors.proofs.floor.FloorTower.numbers.Goals as goal

pub returns : goal.returns
returns g c = let told = floor_numbers_are c.args.self.now.action (g.T.Tower.tower c.args.self.now.below) in search rules
