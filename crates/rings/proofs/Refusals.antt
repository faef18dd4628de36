-- Lemmas on what a call that may refuse answers.
use Rattle.std.proofs.Common.{◌≡◌, ℕ, Some, None, Ok, Err, Option, refl, arith}
use Rattle.rings.specs.Refusals.{outcome}

pub accepted : {F : Type 0} (o : Option F) → Ok tt ≡ outcome o → None ≡ o
accepted None h = refl
accepted (Some f) h = let z : ◌≡◌ {A = ℕ} 0 1 = cc in absurd (omega arith)

pub refused : {F : Type 0} (o : Option F) (f : F) → Err f ≡ outcome o → Some f ≡ o
refused None f h = let z : ◌≡◌ {A = ℕ} 0 1 = cc in absurd (omega arith)
refused (Some e) f h = cc
