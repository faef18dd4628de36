use Rattle.std.proofs.Common.{◌≡◌, ◌≤◌, pos, ◌*ℤ◌, nat_abs, ap, ◌∙◌, arith, lit<, w32, SFits, to_z, of_z}
use Rattle.std.proofs.lemmas.Int.{to_z-of_z}
use Rattle.towers.specs.Towers.{signed}
use Rattle.floors.proofs.Arithmetic.{fits_small, signed_small, product_small, product_fits, product_is}
use Rattle.floors.proofs.numbers.TowerNumbers.turn.Goals as goal
use Rattle.floors.proofs.numbers.TowerNumbers.turn.Goals.{After-signed}

module _ (c : After-signed) where
  cells : c.signed.result ≡ signed c.args.self.numbers.mirrored c.args.s
  cells = c.signed.ensures ∙ ap (signed c.args.self.numbers.mirrored) (to_z-of_z w32 c.args.s c.ranges.s)

  small : nat_abs c.signed.result ≤ 128
  small = omega (arith, ap nat_abs cells, signed_small c.args.self.numbers.mirrored c.args.s c.requires)

  fits : SFits w32 c.signed.result
  fits = fits_small c.signed.result (omega (arith, small))

  product : to_z w32 (of_z w32 (to_z w32 (of_z w32 c.signed.result) *ℤ to_z w32 c.args.self.numbers.block)) ≡ c.signed.result *ℤ pos c.args.self.numbers.block
  product = product_is c.signed.result c.args.self.numbers.block 128 65536 small c.args.self.workable.packable.block (lit< tt) (lit< tt) fits

pub overflow_mul-result : goal.overflow_mul-result
overflow_mul-result c =
    let at = (goal.at.overflow_mul-result c).After-signed in
    product_fits at.signed.result at.args.self.numbers.block 128 65536 (small at) at.args.self.workable.packable.block (lit< tt) (lit< tt) (fits at)

pub returns-clause-value : goal.returns-clause-value
returns-clause-value c = let at = (goal.at.returns-clause-value c).After-signed in product at ∙ ap (λ z. z *ℤ pos c.args.self.numbers.block) (cells at)

pub returns-clause-small : goal.returns-clause-small
returns-clause-small c =
    let at = (goal.at.returns-clause-small c).After-signed in
    omega (arith, ap nat_abs (product at), product_small at.signed.result at.args.self.numbers.block 128 65536 (small at) at.args.self.workable.packable.block)
