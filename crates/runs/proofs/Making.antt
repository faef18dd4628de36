-- Lemmas on making a run: what is refused, what is written, and what the new run shows.
use Rattle.std.proofs.Common.{◌≡◌, ℕ, ◌/◌, ◌≤◌, min, List, ◌++◌, length, take, drop, pos, Some, None, Ok, Err, Result, sym, refl, ap, ◌∙◌, subst, append_assoc, arith}
use Rattle.std.proofs.lemmas.List.{length-take-le, take-append-drop, drop-append-le}
use Rattle.std.specs.Option.{option_map}
use Rattle.rings.specs.Line.{power}
use Rattle.rings.specs.Refusals.{unless_refused}
use Rattle.rings.specs.declared.Refused.{Refused}
use Rattle.rings.proofs.Refusals.{accepted, refused}
use Rattle.rules.specs.Maps.{written_over}
use Rattle.towers.specs.declared.fault.TowerFault.{TowerFault}
use Rattle.towers.specs.Towers.{Tower as Meaning, Fitting}
use Rattle.towers.specs.Numbers.{Standing}
use Rattle.towers.specs.Encodings.{encode_fault, encode_answer, encode_buffer}
use Rattle.towers.proofs.Calls.{Encodable, encodable, fitting_of}
use Rattle.runs.specs.declared.run.Run.{Run}
use Rattle.runs.specs.declared.fault.RunFault.{RunFault}
use Rattle.runs.specs.declared.fault.RunFault.TheVariants.{Tower}
use Rattle.runs.specs.Calls.{made}
use Rattle.runs.specs.Laws.{Shows}
use Rattle.runs.specs.Views.{state_of, Begins, Makes}
use Rattle.runs.proofs.Moving.{state_is, take-written, length-written}

-- the encoded ring in the part of a buffer that may be used

module _ (t : Meaning) (c a : List ℕ) (room : ℕ) (h : room ≤ length a) where
  same_fault : encode_fault t.bottom.states t.block c (length (take room a)) ≡ encode_fault t.bottom.states t.block c room
  same_fault = ap (encode_fault t.bottom.states t.block c) (length-take-le room a h)

  pub encode-refused : (f : TowerFault) → Err f ≡ encode_answer t c (take room a) → encode_fault t.bottom.states t.block c room ≡ Some f
  encode-refused f answer = sym (refused (encode_fault t.bottom.states t.block c (length (take room a))) f answer ∙ same_fault)

  pub encode-accepted : Ok tt ≡ encode_answer t c (take room a) → encode_fault t.bottom.states t.block c room ≡ None
  encode-accepted answer = sym (accepted (encode_fault t.bottom.states t.block c (length (take room a))) answer ∙ same_fault)

  pub encode_unchanged : (f : TowerFault) → encode_fault t.bottom.states t.block c room ≡ Some f → encode_buffer t c (take room a) ++ drop room a ≡ a
  encode_unchanged f refused =
      ap (λ o. unless_refused o (written_over (t.encode c) (take room a)) (take room a) ++ drop room a) (same_fault ∙ refused) ∙ take-append-drop room a

  module _ (standing : Standing t) (accepted : encode_fault t.bottom.states t.block c room ≡ None) where
    good : Encodable t.bottom.states t.block c room
    good = encodable t.bottom.states t.block c room (sym accepted)

    pub fitting-made : Fitting t (length c / t.block) c
    fitting-made = fitting_of t standing c room good

    pub cells_room : length c / t.block ≤ room
    cells_room = good.accepts.fits

    pub length-made : length (t.encode c) ≡ length c / t.block
    length-made = standing.laws.length_encode (length c / t.block) c fitting-made

    pub encode-written : encode_buffer t c (take room a) ++ drop room a ≡ written_over (t.encode c) a
    encode-written =
        let l : length (t.encode c) ≤ length (take room a) = omega (arith, length-made, cells_room, length-take-le room a h) in
        ap (λ o. unless_refused o (written_over (t.encode c) (take room a)) (take room a) ++ drop room a) (same_fault ∙ accepted)
        ∙ append_assoc (t.encode c) (drop (length (t.encode c)) (take room a)) (drop room a)
        ∙ ap (λ l. t.encode c ++ l) (sym (drop-append-le (length (t.encode c)) (take room a) (drop room a) l) ∙ ap (drop (length (t.encode c))) (take-append-drop room a))

    -- the new run shows the ring after no step
    pub shows-made : (b : List ℕ) → room ≤ length b → Shows t c (pos 0) (made t c a b)
    unfolding power
    shows-made b rb = record {
      fitting = fitting-made;
      room_a = omega (arith, length-written (t.encode c) a (omega (arith, length-made, cells_room)), cells_room);
      room_b = omega (arith, cells_room);
      count = refl;
      goes = tt;
      ring = take-written (length c / t.block) (t.encode c) a length-made;
    }

-- the run that is made

pub makes : {T : Type 0} (t : Meaning) (x : T) (c a b after_a : List ℕ) (r : Result (Run T) (Refused T RunFault)) → Standing t → Begins t x c (min (length a) (length b)) a r after_a → Makes t x c a b r after_a
makes t x c a b after_a (Ok run) standing (accepted, tower, cells, steps, written) =
    let room : min (length a) (length b) ≤ length a = omega arith in
    let rb : min (length a) (length b) ≤ length b = omega arith in
    let is : state_of run after_a b ≡ made t c a b = state_is cells steps written refl in
    (ap (option_map Tower) accepted, (tower, is), subst (Shows t c (pos 0)) (sym is) (shows-made t c a (min (length a) (length b)) room standing accepted b rb))
makes t x c a b after_a (Err e) standing h = h
