-- Lemmas on arrays that a function of the index makes.
use Rattle.std.proofs.Common.{◌≡◌, ℕ, zero, suc, ◌+◌, ◌<◌, List, map, get_or, sym, ap, ◌∙◌, subst, arith}
use denote.Param.Members.{Mut}
use Rattle.std.specs.Array.{IsFromFnResult, IsFromFnResultFrom}
use Rattle.std.specs.Fn.{Called}
use Rattle.std.specs.List.{range_with_len}
use Rattle.std.proofs.lemmas.List.FromFn.{fill_by_all}

module _ {F B : Type 0} (g : Mut F (ℕ × Unit {0}) B) (value : ℕ → B) (f : F) (count : ℕ) (gives : (i : ℕ) (y : B) (q : F) → i < count → Called g f (i, tt) y q → (y ≡ value i) × (q ≡ f)) where
  from_fn_each : (ys : List B) (i n k m : ℕ) (d : B) → IsFromFnResultFrom g f ys i n → i + n ≡ count → k < n → m ≡ i + k → get_or ys m d ≡ value m
  from_fn_each ys i zero k m d r e l s = absurd (omega arith)
  from_fn_each ys i (suc n) zero m d r e l s =
      let same : m ≡ i = omega arith in
      ap (λ j. get_or ys j d) same ∙ r.2.1 d ∙ (gives i r.1 r.0 (omega arith) r.3).0 ∙ ap value (sym same)
  from_fn_each ys i (suc n) (suc k) m d r e l s =
      from_fn_each ys (i + 1) n k m d (subst (λ q. IsFromFnResultFrom g q ys (i + 1) n) (gives i r.1 r.0 (omega arith) r.3).1 r.4) (omega arith) (omega arith) (omega arith)

  pub from_fn_map : (ys : List B) (d : B) → IsFromFnResult g f ys count → ys ≡ map value (range_with_len 0 count)
  from_fn_map ys d r = fill_by_all value ys count d r.long (λ k l. from_fn_each ys 0 count k k d r.each (omega arith) l (omega arith))
