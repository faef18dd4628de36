-- Each transformation of a tower that stands gives one that stands.
use Rattle.std.specs.Prelude.{◌≡◌, ℕ, ◌+◌, ◌-◌, ◌*◌, ◌/◌, ◌%◌, ◌^◌, ◌<◌, ◌≤◌, max, Bool, true, false, not, List, length, ℤ, pos, ◌+ℤ◌, ◌*ℤ◌, neg_ℤ, is_some, Some, None, Option, slice_index, slice_index_or, refl}
use Rattle.std.proofs.Common.{sym, ap, ap₂, ◌∙◌, arith, div-add-mod', mod-lt, mul_comm, mul-div_cancel, mul-pos, one-mul}
use Rattle.std.proofs.Math.Arith.{digits_div, digits_mod, digits_lt}
use Rattle.std.proofs.Math.IntN.{neg_ℤ-neg_ℤ}
use borrow.Author.Differences.{neg_is}
use Rattle.std.proofs.lemmas.Nat.{div_below}
use Rattle.std.proofs.lemmas.List.{get_or-reverse}
use Rattle.std.proofs.lemmas.Int.{ints}
use Rattle.std.specs.Option.{option_map}
use Rattle.rings.specs.Line.{power}
use Rattle.rings.specs.Ring.{Ring, rotate, reflect}
use Rattle.rings.specs.Local.{Local, width, ring_map}
use Rattle.rings.specs.Automaton.{Automaton, Sound}
use Rattle.rings.specs.Packing.{digit, blocks, unblocks}
use Rattle.rings.specs.Transformations.{iterate_local, shift_local, mirror_local, pack_local, iterate, shift}
use Rattle.rings.proofs.Ring.{rotate-rotate, length-reflect, ring-reflect, reflect-reflect, rotate-reflect, reflect_is_reverse}
use Rattle.rings.proofs.Packing.{pow_mul, digit-digit, length-unblocks, ring-unblocks, length-blocks, ring-blocks, digit-blocks, unblocks-blocks, rotate-blocks, blocks-unblocks}
use Rattle.rings.proofs.Transformations.{ring_map-iterate, ring_map-shift, ring_map-mirror, ring_map-pack, sound-iterate, sound-shift, sound-mirror, sound-pack}
use Rattle.towers.specs.Towers.{Tower, signed, Fitting, Found, Stands}
use Rattle.towers.specs.TowersLemmas.{fitting-rotate, fitting-power, some-encode, encode-rotate, power-encode}
use Rattle.floors.specs.Transformed.{with_top, iterate_tower, shift_tower, mirror_tower, pack_tower, reduce_tower}

-- signs

signed-signed : (v : Bool) (s : ℤ) → signed v (signed v s) ≡ s
signed-signed false s = refl
signed-signed true s = neg_ℤ-neg_ℤ s

signed_times : (v : Bool) (s : ℤ) (m : ℕ) → signed v s *ℤ pos m ≡ signed v (s *ℤ pos m)
signed_times false s m = refl
signed_times true s m = omega (arith, ints, ap (λ k. k * m) (neg_is s).0, ap (λ k. k * m) (neg_is s).1)

signed_not : (v : Bool) (s : ℤ) → signed (not v) s ≡ neg_ℤ (signed v s)
signed_not false s = refl
signed_not true s = sym (neg_ℤ-neg_ℤ s)

is_some_mapped : (h : Local → Local) (o : Option Local) → is_some (option_map h o) ≡ is_some o
is_some_mapped h None = refl
is_some_mapped h (Some l) = refl

module _ (t : Tower) (stands : Stands t) where
  -- another top over the same encoding

  stands_with_top : (a : Automaton) (steps : ℕ) (drift : ℤ) → 1 ≤ steps → Sound a → is_some a.inverse ≡ is_some t.top.inverse → a.states ≡ t.top.states
      → ((k : ℕ) (c : List ℕ) → Fitting t k c → ring_map a.forward (t.encode c) ≡ t.encode (rotate drift (power (ring_map t.bottom.forward) steps c)))
      → Stands (with_top a steps drift t)
  stands_with_top a steps drift some sound same-inverse same-states step = record {
    block = stands.block;
    steps = some;
    top = sound;
    bottom = stands.bottom;
    inverse = same-inverse ∙ stands.inverse;
    states = same-states ∙ stands.states;
    ring_encode = λ k c w. rw same-states (stands.ring_encode k c w);
    length_encode = stands.length_encode;
    fitting_decode = λ d r. stands.fitting_decode d (rw same-states at r);
    decode_encode = stands.decode_encode;
    encode_decode = λ d r. stands.encode_decode d (rw same-states at r);
    step = step;
    rotation = stands.rotation;
    found = stands.found;
    apart = stands.apart;
  }

  pub stands_iterate : (u : ℕ) → 1 ≤ u → Stands (iterate_tower u t)
  stands_iterate u some =
      stands_with_top (iterate u t.top) (t.steps * u) (t.drift *ℤ pos u) (mul-pos stands.steps some) (sound-iterate u t.top stands.top) (is_some_mapped (iterate_local u) t.top.inverse) refl
      (λ k c w. ring_map-iterate u t.top.forward (t.encode c) stands.top.forward.ordered (some-encode t stands k c w) ∙ power-encode t stands u k c w)

  pub stands_shift : (s : ℤ) → Stands (shift_tower s t)
  stands_shift s =
      let turn = signed t.mirrored s *ℤ pos t.block in
      stands_with_top (shift s t.top) t.steps (t.drift +ℤ turn) stands.steps (sound-shift s t.top stands.top) (is_some_mapped (shift_local (neg_ℤ s)) t.top.inverse) refl
      (λ k c w.
      let y = power (ring_map t.bottom.forward) t.steps c in
      let w_y = fitting-power t stands t.steps k c w in
      let x = rotate t.drift y in
      let order : turn +ℤ t.drift ≡ t.drift +ℤ turn = omega (arith, ints) in
      ring_map-shift s t.top.forward (t.encode c) (some-encode t stands k c w) ∙ ap (rotate s) (stands.step k c w) ∙
      ap (λ z. rotate z (t.encode x)) (sym (signed-signed t.mirrored s)) ∙ sym (encode-rotate t stands (signed t.mirrored s) k x (fitting-rotate t stands t.drift k y w_y)) ∙
      ap t.encode (rotate-rotate turn t.drift y w_y.ring.some ∙ ap (λ z. rotate z y) order))

  -- the top seen in a mirror

  pub stands_mirror : Stands (mirror_tower t)
  stands_mirror = record {
    block = stands.block;
    steps = stands.steps;
    top = sound-mirror t.top stands.top;
    bottom = stands.bottom;
    inverse = is_some_mapped mirror_local t.top.inverse ∙ stands.inverse;
    states = stands.states;
    ring_encode = λ k c w. ring-reflect t.top.states (t.encode c) (stands.ring_encode k c w);
    length_encode = λ k c w. length-reflect (t.encode c) ∙ stands.length_encode k c w;
    fitting_decode = λ d r.
        let w = stands.fitting_decode (reflect d) (ring-reflect t.top.states d r) in
        record { some = r.some; ring = w.ring; size = w.size ∙ ap (λ n. n * t.block) (length-reflect d) };
    decode_encode = λ k c w. ap t.decode (reflect-reflect (t.encode c) (some-encode t stands k c w)) ∙ stands.decode_encode k c w;
    encode_decode = λ d r. ap reflect (stands.encode_decode (reflect d) (ring-reflect t.top.states d r)) ∙ reflect-reflect d r.some;
    step = λ k c w.
        ring_map-mirror t.top.forward (reflect (t.encode c)) stands.top.forward.ordered (omega (arith, some-encode t stands k c w, length-reflect (t.encode c))) ∙
        ap (λ d. reflect (ring_map t.top.forward d)) (reflect-reflect (t.encode c) (some-encode t stands k c w)) ∙ ap reflect (stands.step k c w);
    rotation = λ k c w.
        let one = signed t.mirrored (pos 1) in
        ap reflect (stands.rotation k c w ∙ ap (λ z. rotate z (t.encode c)) (sym (neg_ℤ-neg_ℤ one))) ∙
        sym (rotate-reflect (neg_ℤ one) (t.encode c) (some-encode t stands k c w)) ∙ ap (λ z. rotate z (reflect (t.encode c))) (sym (signed_not t.mirrored (pos 1)));
    found = found;
    apart = λ k c w i j h l e.
        let n = count k c w in
        let at_i = stands.found k c w i h in
        let at_j = stands.found k c w j l in
        let cells = ap (λ (p : ℕ × ℕ). p.0) e in
        stands.apart k c w i j h l (ap₂ (λ (a b : ℕ). (a, b)) (omega (arith, at_i.cell, at_j.cell)) (ap (λ (p : ℕ × ℕ). p.1) e));
  } where
    count : (k : ℕ) (c : List ℕ) → Fitting t k c → length c / t.block ≡ k
    count k c w = ap (λ n. n / t.block) w.size ∙ mul-div_cancel k stands.block

    found : (k : ℕ) (c : List ℕ) → Fitting t k c → (j : ℕ) → j < length c → Found (mirror_tower t) k c j
    found k c w j l =
        let at_j = stands.found k c w j l in
        let i = (t.place (length c) j).0 in
        let inside : i < k = at_j.cell in
        let n : length c / t.block ≡ k = count k c w in
        let size : length (t.encode c) ≡ k = stands.length_encode k c w in
        let same : slice_index_or (reflect (t.encode c)) (length c / t.block - 1 - i) 0 ≡ slice_index_or (t.encode c) i 0 =
        ap₂ (λ (d : List ℕ) (x : ℕ). slice_index d (x - 1 - i)) (reflect_is_reverse (t.encode c)) n ∙ get_or-reverse (t.encode c) (k - 1 - i) 0 (omega arith) ∙ ap (λ x. slice_index (t.encode c) x) (omega arith) in
        record { cell = omega arith; place = at_j.place; code = ap (λ v. digit t.bottom.states v (t.place (length c) j).1) same ∙ at_j.code }

  -- the top on blocks of cells

  pub stands_pack : (m : ℕ) → 1 ≤ m → Stands (pack_tower m t)
  stands_pack m positive = record {
    block = mul-pos stands.block positive;
    steps = stands.steps;
    top = sound-pack m t.top positive stands.top;
    bottom = stands.bottom;
    inverse = is_some_mapped (pack_local q m) t.top.inverse ∙ stands.inverse;
    states = ap (λ n. n ^ m) stands.states ∙ sym (pow_mul t.bottom.states t.block m);
    ring_encode = λ k c w. ring-blocks q m k (t.encode c) positive w.some (size k c w) (ring k c w);
    length_encode = λ k c w. length-blocks q m k (t.encode c) positive w.some (size k c w);
    fitting_decode = λ d r.
        let w = stands.fitting_decode (unblocks q m d) (ring-unblocks q m d positive stands.top.some r.some) in
        record { some = r.some; ring = w.ring; size = w.size ∙ ap (λ n. n * t.block) (length-unblocks q m d) ∙ sym (regroup (length d)) };
    decode_encode = λ k c w. ap t.decode (unpacked k c w) ∙ stands.decode_encode (k * m) c (fitting k c w);
    encode_decode = λ d r. ap (blocks q m) (stands.encode_decode (unblocks q m d) (ring-unblocks q m d positive stands.top.some r.some)) ∙ blocks-unblocks q m d positive stands.top.some r;
    step = λ k c w.
        ring_map-pack q m t.top.forward (blocks q m (t.encode c)) positive stands.top.forward.ordered (omega (arith, w.some, length-blocks q m k (t.encode c) positive w.some (size k c w))) ∙
        ap (λ d. blocks q m (ring_map t.top.forward d)) (unpacked k c w) ∙ ap (blocks q m) (stands.step (k * m) c (fitting k c w));
    rotation = λ k c w.
        let v = t.mirrored in
        let turn : signed v (pos m) ≡ signed v (pos 1) *ℤ pos m = sym (signed_times v (pos 1) m ∙ ap (λ n. signed v (pos n)) (one-mul m)) in
        ap (blocks q m) (ap (λ n. t.encode (rotate (pos n) c)) (mul_comm t.block m) ∙ encode-rotate t stands (pos m) (k * m) c (fitting k c w) ∙ ap (λ z. rotate z (t.encode c)) turn) ∙
        sym (rotate-blocks q m k (t.encode c) positive w.some (size k c w) (signed v (pos 1)));
    found = found;
    apart = λ k c w i j h l e.
        let at_i = stands.found (k * m) c (fitting k c w) i h in
        let at_j = stands.found (k * m) c (fitting k c w) j l in
        let same = place_same (t.place (length c) i) (t.place (length c) j) at_i.place at_j.place (ap (λ (p : ℕ × ℕ). p.0) e) (ap (λ (p : ℕ × ℕ). p.1) e) in
        stands.apart (k * m) c (fitting k c w) i j h l same;
  } where
    q : ℕ
    q = t.top.states

    regroup : (k : ℕ) → k * (t.block * m) ≡ k * m * t.block
    regroup k = omega arith

    fitting : (k : ℕ) (c : List ℕ) → Fitting (pack_tower m t) k c → Fitting t (k * m) c
    fitting k c w = record { some = mul-pos w.some positive; ring = w.ring; size = w.size ∙ regroup k }

    size : (k : ℕ) (c : List ℕ) → Fitting (pack_tower m t) k c → length (t.encode c) ≡ k * m
    size k c w = stands.length_encode (k * m) c (fitting k c w)

    ring : (k : ℕ) (c : List ℕ) → Fitting (pack_tower m t) k c → Ring t.top.states (t.encode c)
    ring k c w = stands.ring_encode (k * m) c (fitting k c w)

    unpacked : (k : ℕ) (c : List ℕ) → Fitting (pack_tower m t) k c → unblocks t.top.states m (blocks t.top.states m (t.encode c)) ≡ t.encode c
    unpacked k c w = unblocks-blocks t.top.states m k (t.encode c) positive w.some (size k c w) (ring k c w)

    found : (k : ℕ) (c : List ℕ) → Fitting (pack_tower m t) k c → (j : ℕ) → j < length c → Found (pack_tower m t) k c j
    found k c w j l =
        let at_j = stands.found (k * m) c (fitting k c w) j l in
        let i = (t.place (length c) j).0 in
        let d = (t.place (length c) j).1 in
        let inside : i / m < k = div_below i m k positive at_j.cell in
        let code = slice_index_or (blocks t.top.states m (t.encode c)) (i / m) 0 in
        record {
          cell = inside;
          place = rw (mul_comm t.block m) (digits_lt (mod-lt i positive) at_j.place);
          code =
              sym (digit-digit t.bottom.states t.block code (i % m) d stands.bottom.some at_j.place) ∙
              ap (λ x. digit t.bottom.states (digit x code (i % m)) d) (sym stands.states) ∙
              ap (λ x. digit t.bottom.states x d) (digit-blocks t.top.states m k (t.encode c) positive w.some (size k c w) (ring k c w) (i / m) (i % m) inside (mod-lt i positive) ∙
              ap (λ x. slice_index (t.encode c) x) (div-add-mod' i m)) ∙ at_j.code;
        }

    place_same : (p r : ℕ × ℕ) → p.1 < t.block → r.1 < t.block → p.0 / m ≡ r.0 / m → p.0 % m * t.block + p.1 ≡ r.0 % m * t.block + r.1 → p ≡ r
    place_same p r h l cells digits =
        let high : p.0 % m ≡ r.0 % m = sym (digits_div (p.0 % m) h) ∙ ap (λ n. n / t.block) digits ∙ digits_div (r.0 % m) l in
        let low : p.1 ≡ r.1 = sym (digits_mod (p.0 % m) h) ∙ ap (λ n. n % t.block) digits ∙ digits_mod (r.0 % m) l in
        ap₂ (λ (a b : ℕ). (a, b)) (sym (div-add-mod' p.0 m) ∙ ap₂ (λ (a b : ℕ). a * m + b) cells high ∙ div-add-mod' r.0 m) low

pub stands_reduce : (t : Tower) → Stands t → Stands (reduce_tower t)
stands_reduce t stands =
    let s = neg_ℤ t.top.forward.lo in
    stands_pack (shift_tower s t) (stands_shift t stands s) (max 1 (width t.top.forward - 1)) (omega arith)
