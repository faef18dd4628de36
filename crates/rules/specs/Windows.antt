-- What is known of a window that was checked.
use Rattle.std.specs.Prelude.{◌≡◌, ℕ, Bool, true, false, cond, List, length, Some, None, Ok, Err, Option, ◌==◌, refl}
use Rattle.std.proofs.Common.{arith}
use Rattle.std.proofs.lemmas.Bool.{eqb-true, eq-eqb}
use Rattle.rings.specs.Ring.{Codes, first_stray, IsFirstStray}
use Rattle.rings.proofs.Ring.{is_first_stray, first_stray-codes}
use Rattle.rules.specs.declared.fault.RuleFault.{RuleFault}
use Rattle.rules.specs.declared.fault.RuleFault.TheVariants.{WrongLength}
use Rattle.rules.specs.Answers.{unless_stray, checked}

-- a window of w codes below q
pub record Readable (q w : ℕ) (ws : List ℕ) : Type 0 where
  pub len : length ws ≡ w
  pub codes : Codes q ws

pub readable : (q w : ℕ) (ws : List ℕ) → Ok tt ≡ checked {X = Unit {0}} q w ws tt → Readable q w ws
readable q w ws = by (length ws == w) (first_stray q ws) refl (is_first_stray q ws) where
  by : (b : Bool) (o : Option ℕ) → (length ws == w) ≡ b → IsFirstStray q ws o → Ok tt ≡ cond b (unless_stray o (tt {0})) (Err WrongLength) → Readable q w ws
  by true None e codes h = record { len = eqb-true _ _ e; codes = codes }
  by true (Some i) e s h = let z : ◌≡◌ {A = ℕ} 0 1 = cc in absurd (omega arith)
  by false o e s h = let z : ◌≡◌ {A = ℕ} 0 1 = cc in absurd (omega arith)

-- such a window is read
pub checked_readable : {X : Type 0} (q w : ℕ) (ws : List ℕ) → Readable q w ws → (r : X) → checked q w ws r ≡ Ok r
checked_readable q w ws k r = rw (eq-eqb (length ws) w k.len, first_stray-codes 0 q ws k.codes)

-- a refusal is the same whatever would be read
pub checked_refused : {X : Type 0} (q w : ℕ) (ws : List ℕ) (f : RuleFault) (r : X) → Err f ≡ checked {X = Unit {0}} q w ws tt → Err f ≡ checked q w ws r
checked_refused q w ws f r = by (length ws == w) (first_stray q ws) where
  by : (b : Bool) (o : Option ℕ) → Err f ≡ cond b (unless_stray o (tt {0})) (Err WrongLength) → Err f ≡ cond b (unless_stray o r) (Err WrongLength)
  by true None h = let z : ◌≡◌ {A = ℕ} 0 1 = cc in absurd (omega arith)
  by true (Some i) h = cc
  by false o h = cc
