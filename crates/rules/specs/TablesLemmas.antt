-- Lemmas on tables: the index of an entry, and that a table is a lawful automaton.
use Rattle.std.specs.Prelude.{◌≡◌, ℕ, suc, ◌+◌, ◌*◌, ◌^◌, ◌<◌, ◌≤◌, true, false, List, [], ◌∷◌, ◌++◌, length, take, ℤ, pos, negsuc, ◌≤ℤ◌, is_some, Some, None, Option, int_le, slice_index}
use Rattle.std.proofs.Common.{sym, ap, ◌∙◌, ⊎_elim, arith, pow-suc, add-mul, mul_assoc, mul_comm, mul-le-mul_right, add-one}
use Rattle.std.proofs.Math.Nat.{pow-zero, pow-le-pow_right}
use Rattle.std.proofs.lemmas.List.{length_push, take_more, length-take-le, get_or-take, get_or_past}
use Rattle.std.proofs.lemmas.Int.{ints}
use Rattle.std.proofs.lemmas.Bool.{leb-true, and_parts, cases_lt, true≢false}
use Rattle.rings.specs.Ring.{Codes, first_stray, IsFirstStray}
use Rattle.rings.specs.Local.{span}
use Rattle.rings.specs.Automaton.{Lawful}
use Rattle.rings.proofs.Ring.{is_first_stray}
use Rattle.rules.specs.Tables.{entry_index, table_fits, stored, stored_table}
use Rattle.rules.specs.declared.Shape.{Shape}
use Rattle.rules.specs.Windows.{Readable}

-- the index of an entry

pub pow_more : (q n : ℕ) → q ^ (n + 1) ≡ q ^ n * q
pow_more q n = ap (λ k. q ^ k) (add-one n) ∙ pow-suc q n

entry_index_push : (q : ℕ) (xs : List ℕ) (y : ℕ) → entry_index q (xs ++ y ∷ []) ≡ entry_index q xs * q + y
unfolding entry_index
entry_index_push q [] y = omega (arith, ap (λ k. y * k) (pow-zero q))
entry_index_push q (x ∷ xs) y =
    let p : x * q ^ length (xs ++ y ∷ []) ≡ x * q ^ length xs * q = ap (λ n. x * q ^ n) (length_push xs y) ∙ ap (λ k. x * k) (pow_more q (length xs)) ∙ sym (mul_assoc x (q ^ length xs) q) in
    omega (arith, p, entry_index_push q xs y, add-mul (x * q ^ length xs) (entry_index q xs) q)

pub entry_index_more : (q : ℕ) (ws : List ℕ) (i index : ℕ) → i < length ws → index ≡ entry_index q (take i ws) → index * q + slice_index ws i ≡ entry_index q (take (i + 1) ws)
entry_index_more q ws i index h e =
    ap (λ n. n * q + slice_index ws i) e ∙ sym (entry_index_push q (take i ws) (slice_index ws i)) ∙ ap (entry_index q) (sym (take_more ws i 0 h))

pub entry_index_lt : (q : ℕ) (ws : List ℕ) → Codes q ws → entry_index q ws < q ^ length ws
unfolding entry_index
entry_index_lt q [] codes = rw pow-zero (omega arith)
entry_index_lt q (x ∷ xs) codes =
    let rest = entry_index_lt q xs (λ k l. codes (suc k) (omega arith)) in
    let less : x + 1 ≤ q = omega (arith, codes 0 (omega arith)) in
    let top : (x + 1) * q ^ length xs ≤ q * q ^ length xs = mul-le-mul_right (q ^ length xs) less in
    omega (arith, top, pow-suc q (length xs), mul_comm (q ^ length xs) q, add-mul x 1 (q ^ length xs))

pub codes-take : (q n : ℕ) (ws : List ℕ) → n ≤ length ws → Codes q ws → Codes q (take n ws)
codes-take q n ws h codes k l =
    let s : k < n = omega (arith, length-take-le n ws h) in
    rw (get_or-take n ws k 0 s) (codes k (omega arith))

-- each index on the way is small
pub entry_index_small : (q : ℕ) (ws : List ℕ) (n limit : ℕ) → 1 ≤ q → Codes q ws → q ^ length ws ≤ limit → n ≤ length ws → entry_index q (take n ws) < limit
entry_index_small q ws n limit some codes few h =
    let less = entry_index_lt q (take n ws) (codes-take q n ws h codes) in
    let grows : q ^ n ≤ q ^ length ws = pow-le-pow_right some h in
    omega (arith, less, ap (λ k. q ^ k) (length-take-le n ws h))

-- a table is lawful

-- what the sizes of a table say
pub record Sized (q : ℕ) (lo hi : ℤ) : Type 0 where
  pub some : 1 ≤ q
  pub few : q ≤ 1024
  pub low : negsuc 127 ≤ℤ lo
  pub ordered : lo ≤ℤ hi
  pub high : hi ≤ℤ pos 128
  pub narrow : span lo hi ≤ 64
  pub entries : q ^ span lo hi ≤ 1024

le_z_true : (a b : ℤ) → int_le a b ≡ true → a ≤ℤ b
le_z_true a b h = grind (arith, ints)

pub sized : (q : ℕ) (lo hi : ℤ) → table_fits q lo hi ≡ true → Sized q lo hi
sized q lo hi h =
    let a = and_parts _ _ h in
    let b = and_parts _ _ a.1 in
    let c = and_parts _ _ b.1 in
    let d = and_parts _ _ c.0 in
    let e = and_parts _ _ d.1 in
    let f = and_parts _ _ e.1 in
    record {
      some = leb-true _ _ a.0;
      few = leb-true _ _ b.0;
      low = le_z_true _ _ e.0;
      ordered = le_z_true _ _ d.0;
      high = le_z_true _ _ f.0;
      narrow = leb-true _ _ f.1;
      entries = leb-true _ _ c.1;
    }

-- an entry is a state, and so is 0, which is read past them
entry_lt : (q : ℕ) (entries : List ℕ) (i : ℕ) → 1 ≤ q → Codes q entries → slice_index entries i < q
entry_lt q entries i some codes = ⊎_elim (λ h. codes i h) (λ h. omega (arith, get_or_past entries i 0 h)) (cases_lt i (length entries))

pub codes_none : (q : ℕ) (c : List ℕ) → is_some (first_stray q c) ≡ false → Codes q c
codes_none q c = from (first_stray q c) (is_first_stray q c) where
  from : (o : Option ℕ) → IsFirstStray q c o → is_some o ≡ false → Codes q c
  from None codes h = codes
  from (Some i) s h = absurd (true≢false h)

pub table_lawful : (s : Shape) (store : List ℕ) → table_fits s.states s.lo s.hi ≡ true → is_some (first_stray s.states (stored s store)) ≡ false → Lawful (stored_table s store)
table_lawful s store fits closed =
    let z = sized s.states s.lo s.hi fits in
    record {
      bounded = record { few = omega (arith, z.few); forward = record { low = z.low; high = z.high; narrow = z.narrow }; inverse = tt };
      sound = record {
        some = z.some;
        forward = record { ordered = z.ordered; closed = λ ws e codes. entry_lt s.states (stored s store) (entry_index s.states ws) z.some (codes_none s.states (stored s store) closed) };
        inverse = tt;
      };
    }

-- what a table reads at a window of its own
module _ (s : Shape) (store ws : List ℕ) (fits : table_fits s.states s.lo s.hi ≡ true) (r : Readable s.states (span s.lo s.hi) ws) where
  pub index_inside : (i : ℕ) → i ≡ entry_index s.states ws → i < s.states ^ span s.lo s.hi
  index_inside i k = omega (arith, entry_index_lt s.states ws r.codes, ap (λ n. s.states ^ n) r.len)

  pub index_small : (i : ℕ) → i ≡ entry_index s.states ws → i < 1024
  index_small i k = omega (arith, index_inside i k, (sized s.states s.lo s.hi fits).entries)

  pub entry_stored : (i : ℕ) → i ≡ entry_index s.states ws → slice_index store i ≡ slice_index (stored s store) (entry_index s.states ws)
  entry_stored i k = sym (ap (λ n. slice_index (stored s store) n) (sym k) ∙ get_or-take (s.states ^ span s.lo s.hi) store i 0 (index_inside i k))
