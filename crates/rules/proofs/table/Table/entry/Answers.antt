use Rattle.std.proofs.Common.{arith}
use Rattle.rules.specs.TablesLemmas.{index_small, entry_stored}
use Rattle.rules.proofs.table.Table.entry.Goals as goal

pub offset_bounds-self-index_of : goal.offset_bounds-self-index_of
offset_bounds-self-index_of c =
    let t = c.args.self.now in
    omega (arith, index_small t.shape t.store c.args.window.now t.fits c.requires c.index_of.result c.index_of.ensures)

pub bounds-self-index_of : goal.bounds-self-index_of
bounds-self-index_of c =
    let t = c.args.self.now in
    index_small t.shape t.store c.args.window.now t.fits c.requires c.index_of.result c.index_of.ensures

pub returns : goal.returns
returns c =
    let t = c.args.self.now in
    entry_stored t.shape t.store c.args.window.now t.fits c.requires c.index_of.result c.index_of.ensures
