use Rattle.std.proofs.Common.{◌≡◌, ◌/◌, length, Err, ap, ◌∙◌, rules}
use Rattle.rings.specs.Limits.{max_cells}
use Rattle.rings.specs.Refusals.{outcome}
use Rattle.rings.proofs.Refusals.{refused}
use Rattle.rules.specs.Answers.{length_fault}
use Rattle.towers.specs.declared.fault.TowerFault.TheVariants.{Rule}
use Rattle.towers.proofs.Calls.{decode_fault-length}
use Rattle.towers.proofs.encoding.check_top.Goals as goal

pub returns-in_err-check_length : goal.returns-in_err-check_length
returns-in_err-check_length c =
    let x = c.args.numbers in
    let f = c.in_err-check_length.field-0.0 in
    let o = length_fault (max_cells / x.block) (length c.args.ring.now) in
    let told : c.from_residual.result ≡ Err (Rule f) = search rules in
    let e : Err f ≡ outcome o = search rules in
    told ∙ ap outcome (decode_fault-length x.states x.block c.args.ring.now c.args.room c.requires f (refused o f e))
