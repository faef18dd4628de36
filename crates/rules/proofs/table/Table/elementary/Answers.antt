use Rattle.std.proofs.Common.{◌≡◌, pos, negsuc, is_some, sym, refl, ap, ◌∙◌, subst}
use Rattle.rings.specs.Ring.{first_stray}
use Rattle.rules.specs.Tables.{table, stored_table}
use Rattle.rules.specs.Elementary.{elementary, WolframNumbered}
use Rattle.rules.proofs.Elementary.{elementary_wolfram, bits_codes, bits_stored}
use Rattle.rules.proofs.table.Table.elementary.Goals as goal

pub invariant_of-result : goal.invariant_of-result
invariant_of-result c =
    let front = bits_stored c.args.number c.bits.result c.padded.result c.bits.ensures c.padded.ensures in
    record { fits = refl; closed = ap (λ es. is_some (first_stray 2 es)) front ∙ bits_codes c.args.number }

pub returns : goal.returns
returns c =
    let front = bits_stored c.args.number c.bits.result c.padded.result c.bits.ensures c.padded.ensures in
    let e : stored_table (record { states = 2; lo = negsuc 0; hi = pos 1 }) c.padded.result ≡ elementary c.args.number = ap (table 2 (negsuc 0) (pos 1)) front in
    record { answer = e; law = subst (WolframNumbered c.args.number) (sym e) (elementary_wolfram c.args.number) }
