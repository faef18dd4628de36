-- Lemmas on what a run shows: the limits alone decide its calls, and steps lead from what it shows to what it shows next.
use Rattle.std.proofs.Common.{◌≡◌, ℕ, zero, suc, ◌+◌, ◌*◌, Bool, true, false, cond, ◌||◌, ltb, List, [], ◌∷◌, length, ℤ, pos, negsuc, ◌+ℤ◌, ◌-ℤ◌, neg_ℤ, is_some, Some, None, Option, Result, sym, refl, ap, ◌∙◌, subst, ap₂, arith}
use Rattle.std.proofs.lemmas.Int.{ints}
use Rattle.std.specs.Option.{option_map, option_or}
use Rattle.rings.specs.declared.Direction.{Direction}
use Rattle.rings.specs.declared.Direction.TheVariants.{Forward, Backward}
use Rattle.rings.specs.Ring.{Ring, first_stray}
use Rattle.rings.specs.Automaton.{Automaton, toward, after, Goes, toward_steps}
use Rattle.rings.specs.Refusals.{outcome, unless_refused}
use Rattle.rings.proofs.Ring.{first_stray-codes}
use Rattle.rings.proofs.Automaton.{after_add, length-after, ring-after, goes_any}
use Rattle.rules.specs.declared.fault.RuleFault.TheVariants.{ShortBuffer, NoInverse}
use Rattle.towers.specs.Towers.{Tower, Fitting, Stands}
use Rattle.towers.proofs.Steps.{goes_same}
use Rattle.runs.specs.declared.Call.{Call}
use Rattle.runs.specs.declared.Call.TheVariants.{Advance, Back, Read, Present, Tell}
use Rattle.runs.specs.declared.RefusedCall.{RefusedCall}
use Rattle.runs.specs.declared.fault.RunFault.{RunFault}
use Rattle.runs.specs.declared.fault.RunFault.TheVariants.{TooFar}
use Rattle.runs.specs.States.{State, held, holding, moved}
use Rattle.runs.specs.Calls.{rule_fault, refused_if, stray_fault, is_too_far, move_fault, tried, call_fault, called, performed, refused_at, first_refused}
use Rattle.runs.specs.Laws.{Shows, limit_fault, accepted_steps, next_count, count_after, accepted, last_of, last_step, limit_refused, has_inverse, shown, MoveLaw, PerformLaw}
use Rattle.runs.proofs.Refusals.{Roomy, not_short}
use Rattle.runs.proofs.Moving.{goes_always, goes-toward, no_steps, held_moved, cells-moved, steps-moved, roomy-moved, holding_twice}

-- steps that an automaton can go

goes-forward : (a : Automaton) (k : ℤ) (n : ℕ) → Goes a k → Goes a (k +ℤ pos n)
goes-forward a (pos m) n g = let e : pos (m + n) ≡ pos m +ℤ pos n = omega (arith, ints) in subst (Goes a) e tt
goes-forward a (negsuc m) n g = goes_any a m g (negsuc m +ℤ pos n)

goes_more : (d : Direction) (a : Automaton) (k : ℤ) (n : ℕ) → is_some (toward d a) ≡ true → Goes a k → Goes a (k +ℤ toward_steps d n)
goes_more Forward a k n e g = goes-forward a k n g
goes_more Backward a k n e g = goes_always a (k +ℤ toward_steps Backward n) e

one_less : (d : Direction) (k : ℤ) (m : ℕ) → k +ℤ toward_steps d m ≡ (k +ℤ toward_steps d (suc m)) -ℤ toward_steps d 1
one_less Forward k m = omega (arith, ints)
one_less Backward k m = omega (arith, ints)

module _ (t : Tower) (st : Stands t) where
  -- top and bottom go the same ways
  same_way : (d : Direction) → is_some (toward d t.top) ≡ is_some (toward d t.bottom)
  same_way Forward = refl
  same_way Backward = st.inverse

  module _ (c : List ℕ) (k : ℤ) (s : State) (w : Shows t c k s) where
    has_room : Roomy s
    has_room = record { a = w.room_a; b = w.room_b }

    ring_start : Ring t.top.states (t.encode c)
    ring_start = st.ring_encode s.cells c w.fitting

    goes-top : Goes t.top k
    goes-top = goes_same t.top t.bottom st.inverse k w.goes

    pub ring-shown : Ring t.top.states (held s)
    ring-shown = subst (Ring t.top.states) (sym w.ring) (ring-after t.top st.top k (t.encode c) ring_start)

    pub no_stray : stray_fault (first_stray t.top.states (held s)) ≡ None
    no_stray = ap stray_fault (first_stray-codes 0 t.top.states (held s) ring-shown.codes)

    -- only the limits refuse

    pub move_fault-shown : (d : Direction) (n : ℕ) → move_fault d t.top n s ≡ cond (is_some (toward d t.bottom)) (refused_if (is_too_far d k n) TooFar) (Some (rule_fault NoInverse))
    move_fault-shown d n =
        ap₂ (λ b o. cond (is_some (toward d t.top)) (cond b (Some (rule_fault ShortBuffer)) (cond (is_too_far d s.steps n) (Some TooFar) o)) (Some (rule_fault NoInverse))) (not_short s has_room) no_stray
        ∙ ap₂ (λ b z. cond b (cond (is_too_far d z n) (Some TooFar) None) (Some (rule_fault NoInverse))) (same_way d) w.count

    pub call_fault-shown : (call : Call) (room : ℕ) → call_fault t call s room ≡ limit_fault (has_inverse t) (ltb room (length c)) k call
    call_fault-shown (Advance n) room = move_fault-shown Forward n
    call_fault-shown (Back n) room = move_fault-shown Backward n
    call_fault-shown Read room =
        ap₂ (λ b o. cond (b || ltb room (s.cells * t.block)) (Some (rule_fault ShortBuffer)) o) (not_short s has_room) no_stray
        ∙ ap (λ n. cond (ltb room n) (Some (rule_fault ShortBuffer)) None) (sym w.fitting.size)
    call_fault-shown Present room = ap (λ b. refused_if b (rule_fault ShortBuffer)) (not_short s has_room)
    call_fault-shown Tell room = refl

    -- steps that are not refused

    after-shown : (d : Direction) (n : ℕ) → is_some (toward d t.bottom) ≡ true → after t.top (toward_steps d n) (held s) ≡ after t.top (k +ℤ toward_steps d n) (t.encode c)
    after-shown d n e =
        let swap : toward_steps d n +ℤ k ≡ k +ℤ toward_steps d n = omega (arith, ints) in
        ap (after t.top (toward_steps d n)) w.ring
        ∙ after_add t.top st.top (toward_steps d n) k (t.encode c) ring_start (goes-toward d t.top n (same_way d ∙ e)) goes-top
        ∙ ap (λ z. after t.top z (t.encode c)) swap

    -- n steps lead to what the run shows after n steps more
    pub shows-moved : (d : Direction) (n : ℕ) → is_some (toward d t.bottom) ≡ true → Shows t c (k +ℤ toward_steps d n) (moved d t.top n s)
    shows-moved d n e =
        let cells = cells-moved d t.top n s in
        record {
          fitting = subst (λ m. Fitting t m c) (sym cells) w.fitting;
          room_a = (roomy-moved d t.top s has_room n).a;
          room_b = (roomy-moved d t.top s has_room n).b;
          count = steps-moved d t.top n s ∙ ap (λ z. z +ℤ toward_steps d n) w.count;
          goes = goes_more d t.bottom k n e w.goes;
          ring = held_moved d t.top s has_room n ∙ after-shown d n e;
        }

    -- the buffers after one step or more
    pub moved-shown : (d : Direction) (m : ℕ) → is_some (toward d t.bottom) ≡ true → moved d t.top (suc m) s ≡ shown t c (k +ℤ toward_steps d (suc m)) (Some d) s
    unfolding moved
    moved-shown d m e =
        let before : k +ℤ toward_steps d m ≡ (k +ℤ toward_steps d (suc m)) -ℤ toward_steps d 1 = one_less d k m in
        ap₂ (λ x y. holding (s.steps +ℤ toward_steps d (suc m)) x y s) (after-shown d (suc m) e) (after-shown d m e ∙ ap (λ z. after t.top z (t.encode c)) before)
        ∙ ap (λ z. holding (z +ℤ toward_steps d (suc m)) (after t.top (k +ℤ toward_steps d (suc m)) (t.encode c)) (after t.top ((k +ℤ toward_steps d (suc m)) -ℤ toward_steps d 1) (t.encode c)) s) w.count

    -- the accepted steps of a call

    -- why n steps are refused, if they are
    abbrev limit : Direction → ℕ → Option RunFault
    limit d n = cond (is_some (toward d t.bottom)) (refused_if (is_too_far d k n) TooFar) (Some (rule_fault NoInverse))

    taken : Direction → ℕ → ℕ
    taken d n = unless_refused (limit d n) n 0

    tried-shown : (d : Direction) (n : ℕ) → tried d t.top n s ≡ moved d t.top (taken d n) s
    unfolding taken moved
    tried-shown d n = ap (λ o. unless_refused o (moved d t.top n s) s) (move_fault-shown d n) ∙ by (limit d n) where
      by : (o : Option RunFault) → unless_refused o (moved d t.top n s) s ≡ moved d t.top (unless_refused o n 0) s
      by None = refl
      by (Some f) = refl

    -- where steps are taken, the bottom goes that way
    taken_goes : (d : Direction) (n m : ℕ) → taken d n ≡ suc m → is_some (toward d t.bottom) ≡ true
    unfolding taken
    taken_goes d n m h = by (is_some (toward d t.bottom)) h where
      by : (b : Bool) → unless_refused (cond b (refused_if (is_too_far d k n) TooFar) (Some (rule_fault NoInverse))) n 0 ≡ suc m → b ≡ true
      by true h = refl
      by false h = cc

-- a state in which a run with the first state `first` can be: it shows c after k steps, and its last step went in a direction
pub record Stage (t : Tower) (c : List ℕ) (first : State) (k : ℤ) (last : Option Direction) (s : State) : Type 0 where
  pub shows : Shows t c k s
  pub is : s ≡ shown t c k last first
  pub lengths : length (t.encode c) ≡ first.cells
  pub room : Roomy first

same : (k : ℤ) → k ≡ (k +ℤ pos 0) -ℤ pos 0
same k = omega (arith, ints)

module _ (t : Tower) (c : List ℕ) where
  holding-shown : (k z : ℤ) (last : Option Direction) (x y : List ℕ) (s : State) → Roomy s → length (t.encode c) ≡ s.cells → length x ≡ s.cells → length y ≡ s.cells
      → holding z x y (shown t c k last s) ≡ holding z x y s
  holding-shown k z None x y s room e ex ey = refl
  holding-shown k z (Some d) x y s room e ex ey =
      holding_twice z k x y (after t.top k (t.encode c)) (after t.top (k -ℤ toward_steps d 1) (t.encode c)) s ex ey (length-after t.top k (t.encode c) ∙ e) (length-after t.top (k -ℤ toward_steps d 1) (t.encode c) ∙ e)

module _ (t : Tower) (st : Stands t) (c : List ℕ) (first : State) where
  -- after m accepted steps of a direction
  stage_moved : (k : ℤ) (last : Option Direction) (s : State) → Stage t c first k last s → (d : Direction) (m : ℕ) → ((j : ℕ) → m ≡ suc j → is_some (toward d t.bottom) ≡ true)
      → Stage t c first (k +ℤ toward_steps d m) (last_of d m last) (moved d t.top m s)
  unfolding moved
  stage_moved k last s g d zero way = subst (λ z. Stage t c first z last s) (sym (no_steps d k)) g
  stage_moved k last s g d (suc j) way =
      let e = way j refl in
      let z = k +ℤ toward_steps d (suc j) in
      let ring = length-after t.top z (t.encode c) ∙ g.lengths in
      let earlier = length-after t.top (z -ℤ toward_steps d 1) (t.encode c) ∙ g.lengths in
      record {
        shows = shows-moved t st c k s g.shows d (suc j) e;
        is =
            moved-shown t st c k s g.shows d j e
            ∙ ap (holding z (after t.top z (t.encode c)) (after t.top (z -ℤ toward_steps d 1) (t.encode c))) g.is
            ∙ holding-shown t c k z last (after t.top z (t.encode c)) (after t.top (z -ℤ toward_steps d 1) (t.encode c)) first g.room g.lengths ring earlier;
        lengths = g.lengths;
        room = g.room;
      }

  -- after a call
  pub stage_called : (k : ℤ) (last : Option Direction) (s : State) → Stage t c first k last s → (call : Call)
      → Stage t c first (next_count (has_inverse t) k call) (last_of Backward (accepted_steps (has_inverse t) k call Backward) (last_of Forward (accepted_steps (has_inverse t) k call Forward) last)) (called t call s)
  unfolding taken
  stage_called k last s g (Advance n) =
      let m = accepted_steps (has_inverse t) k (Advance n) Forward in
      let e : k +ℤ pos m ≡ (k +ℤ pos m) -ℤ pos 0 = omega (arith, ints) in
      subst (λ x. Stage t c first ((k +ℤ pos m) -ℤ pos 0) (last_of Forward m last) x) (sym (tried-shown t st c k s g.shows Forward n))
      (subst (λ z. Stage t c first z (last_of Forward m last) (moved Forward t.top m s)) e (stage_moved k last s g Forward m (λ j h. refl)))
  stage_called k last s g (Back n) =
      let m = accepted_steps (has_inverse t) k (Back n) Backward in
      let e : k +ℤ neg_ℤ (pos m) ≡ (k +ℤ pos 0) -ℤ pos m = omega (arith, ints) in
      subst (λ x. Stage t c first ((k +ℤ pos 0) -ℤ pos m) (last_of Backward m last) x) (sym (tried-shown t st c k s g.shows Backward n))
      (subst (λ z. Stage t c first z (last_of Backward m last) (moved Backward t.top m s)) e (stage_moved k last s g Backward m (taken_goes t st c k s g.shows Backward n)))
  stage_called k last s g Read = subst (λ z. Stage t c first z last s) (same k) g
  stage_called k last s g Present = subst (λ z. Stage t c first z last s) (same k) g
  stage_called k last s g Tell = subst (λ z. Stage t c first z last s) (same k) g

  -- after a list of calls
  pub stage_performed : (calls : List Call) (k : ℤ) (last : Option Direction) (s : State) → Stage t c first k last s
      → Stage t c first (count_after (has_inverse t) calls k) (last_step (has_inverse t) calls k last) (performed t calls s)
  unfolding count_after last_step performed
  stage_performed [] k last s g = g
  stage_performed (call ∷ calls) k last s g = stage_performed calls _ _ (called t call s) (stage_called k last s g call)

  -- the first refused call is told from the limits alone
  pub first_refused-shown : (calls : List Call) (i room : ℕ) (k : ℤ) (last : Option Direction) (s : State) → Stage t c first k last s
      → first_refused t i calls s room ≡ limit_refused (has_inverse t) (ltb room (length c)) i calls k
  unfolding first_refused limit_refused
  first_refused-shown [] i room k last s g = refl
  first_refused-shown (call ∷ calls) i room k last s g =
      ap₂ (λ f rest. option_or (option_map (refused_at i) f) rest) (call_fault-shown t st c k s g.shows call room)
      (first_refused-shown calls (i + 1) room (next_count (has_inverse t) k call) _ (called t call s) (stage_called k last s g call))

-- the count is the accepted steps forward less those back
pub count-accepted : (inverse : Bool) (calls : List Call) (k : ℤ) → count_after inverse calls k ≡ (k +ℤ pos (accepted inverse Forward calls k)) -ℤ pos (accepted inverse Backward calls k)
unfolding count_after accepted
count-accepted inverse [] k = omega (arith, ints)
count-accepted inverse (call ∷ calls) k =
    let rest = count-accepted inverse calls (next_count inverse k call) in
    rest ∙ omega (arith, ints)

-- the call for steps of a direction
abbrev pub step_call : Direction → ℕ → Call
step_call Forward n = Advance n
step_call Backward n = Back n

-- the laws of the calls
module _ (t : Tower) (st : Stands t) where
  pub stage_first : (c : List ℕ) (k : ℤ) (s : State) → Shows t c k s → Stage t c s k None s
  stage_first c k s w = record { shows = w; is = refl; lengths = st.length_encode s.cells c w.fitting; room = record { a = w.room_a; b = w.room_b } }

  -- the law of a step call
  pub move_law : (d : Direction) (n : ℕ) (s after_call : State) (r : Result (Unit {0}) RunFault) → r ≡ outcome (move_fault d t.top n s) → after_call ≡ tried d t.top n s → MoveLaw t (step_call d n) s after_call r
  move_law Forward n s after_call r answer state c k w = record {
    answer = answer ∙ ap outcome (move_fault-shown t st c k s w Forward n);
    shows = subst (Shows t c (next_count (has_inverse t) k (Advance n))) (sym state) (stage_called t st c s k None s (stage_first c k s w) (Advance n)).shows;
  }
  move_law Backward n s after_call r answer state c k w = record {
    answer = answer ∙ ap outcome (move_fault-shown t st c k s w Backward n);
    shows = subst (Shows t c (next_count (has_inverse t) k (Back n))) (sym state) (stage_called t st c s k None s (stage_first c k s w) (Back n)).shows;
  }

  pub perform_law : (calls : List Call) (s after_calls : State) (room : ℕ) (r : Option RefusedCall) → r ≡ first_refused t 0 calls s room → after_calls ≡ performed t calls s → PerformLaw t calls s after_calls room r
  perform_law calls s after_calls room r answer state c k w =
      let g = stage_performed t st c s calls k None s (stage_first c k s w) in
      record {
        answer = answer ∙ first_refused-shown t st c s calls 0 room k None s (stage_first c k s w);
        shows = subst (Shows t c (count_after (has_inverse t) calls k)) (sym state) g.shows;
        buffers = state ∙ g.is;
        count = count-accepted (has_inverse t) calls k;
      }
