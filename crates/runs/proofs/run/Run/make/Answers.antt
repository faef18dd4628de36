use Rattle.std.proofs.Common.{subst}
use Rattle.towers.specs.TowersLemmas.{encode-apart}
use Rattle.runs.specs.Views.{Begins}
use Rattle.runs.proofs.Making.{makes}
use Rattle.runs.proofs.run.Run.make.Goals as goal

pub returns : goal.returns
returns g c =
    let x = c.args.tower in
    let t = g.T.Tower.tower x in
    let standing = g.met.T.Tower.stands x in
    let begun = subst (λ room. Begins t x c.args.ring.now room c.args.a.now c.begin.result c.begin.new.a) c.min-room.ensures c.begin.ensures in
    record { answer = makes t x c.args.ring.now c.args.a.now c.args.b.now c.begin.new.a c.begin.result standing begun; apart = λ n. encode-apart t standing.laws n n }
