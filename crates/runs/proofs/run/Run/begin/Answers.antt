use Rattle.std.proofs.Common.{Some, sym, ap, refl, ◌∙◌, length, ◌/◌, drop, ◌++◌}
use Rattle.std.specs.Option.{option_map}
use Rattle.runs.specs.declared.fault.RunFault.TheVariants.{Tower}
use Rattle.runs.proofs.Making.{encode-refused, encode-accepted, encode_unchanged, encode-written}
use Rattle.runs.proofs.run.Run.begin.Goals as goal

pub returns-in-Err : goal.returns-in-Err
returns-in-Err g c =
    let t = g.T.Tower.tower c.args.tower in
    let a = c.args.a.now in
    let refused = encode-refused t c.args.ring.now a c.args.room c.requires c.in-Err.fault c.in-Err.ensures.answer in
    (ap (option_map Tower) refused ∙ ap Some (sym c.into.ensures), refl, ap (λ l. l ++ drop c.args.room a) c.encode.ensures.buffer ∙ encode_unchanged t c.args.ring.now a c.args.room c.requires c.in-Err.fault refused)

pub returns : goal.returns
returns g c =
    let t = g.T.Tower.tower c.args.tower in
    let ring = c.args.ring.now in
    let a = c.args.a.now in
    let accepted = encode-accepted t ring a c.args.room c.requires c.in_default.ensures.answer in (
      accepted,
      refl,
      ap (λ x. length ring / x.block) c.numbers.ensures.answer,
      refl,
      ap (λ l. l ++ drop c.args.room a) c.encode.ensures.buffer ∙ encode-written t ring a c.args.room c.requires c.encode.ensures.laws accepted,
    )
