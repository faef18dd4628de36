-- Lemmas on the automata of Turing machines: they are lawful, and they step as their machines do.
use Rattle.std.specs.Prelude.{◌≡◌, ℕ, zero, suc, ◌+◌, ◌-◌, ◌*◌, ◌/◌, ◌%◌, ◌<◌, ◌≤◌, Bool, true, false, ◌&&◌, List, length, ℤ, pos, negsuc, ◌+ℤ◌, ◌*ℤ◌, neg_ℤ, IfSome, Some, None, Option, ◌==◌, nat_eq, slice_index, slice_index_or, slice_set}
use Rattle.std.proofs.Math.Path.{refl, sym}
use Rattle.std.proofs.Common.{ap, ap₂, ◌∙◌, arith, mod-eq_of_lt, mod-lt, mul_comm}
use Rattle.std.proofs.Math.Nat.{add-mul-mod_self_left, add-mul-div_left, div-eq_of_lt}
use Rattle.std.proofs.lemmas.Nat.{mul-add-lt, mul-le, div_below}
use Rattle.std.proofs.lemmas.List.{get_or-set_same, get_or-set_other, length-set}
use Rattle.std.proofs.lemmas.Int.{ints}
use Rattle.std.proofs.lemmas.Bool.{cases_eq}
use Rattle.std.proofs.lemmas.Bool.Decides.{nat_tests, Decides-eqb, Decides-like, same_from_decides}
use Rattle.std.specs.Option.{option_or}
use Rattle.std.specs.Bool.{then_some}
use Rattle.rings.specs.Integers.{floor_div, floor_mod}
use Rattle.rings.specs.Line.{tabulate, power}
use Rattle.rings.specs.Ring.{at, Codes}
use Rattle.rings.specs.Local.{ring_map}
use Rattle.rings.specs.Automaton.{Lawful}
use Rattle.rings.specs.Limits.{max_states}
use Rattle.rings.proofs.Integers.{floor_div_mod, floor_mod_lt, floor_mod_turns}
use Rattle.rings.proofs.Line.{length-tabulate, slice_index-tabulate, is_tabulate}
use Rattle.rings.proofs.Local.{length-ring_map, slice_index-ring_map}
use Rattle.machines.specs.declared.transition.Move.{Move}
use Rattle.machines.specs.declared.transition.Move.TheVariants.{Left, Stay, Right}
use Rattle.machines.specs.Turing.{Machine, ProperMachine, head_number, numbered_head, code_of, symbol_of, head_of, same_move, acting, written, next_symbol, moving, arriving, next_head, next_code, turing, Configuration, ProperConfiguration, moved, transition_at, step, head_on, cell, drawing, StepsAsItsMachine}

-- codes

pub symbol_of_code_of : (a y : ℕ) (o : Option ℕ) → y < a → symbol_of a (code_of a y o) ≡ y
symbol_of_code_of a y o h = add-mul-mod_self_left y a (head_number o) ∙ mod-eq_of_lt h

numbered_head_number : (o : Option ℕ) → numbered_head (head_number o) ≡ o
numbered_head_number None = refl
numbered_head_number (Some z) = grind (arith, nat_tests)

pub head_of_code_of : (a y : ℕ) (o : Option ℕ) → y < a → head_of a (code_of a y o) ≡ o
head_of_code_of a y o h =
    let some : 0 < a = omega arith in
    let quotient : code_of a y o / a ≡ head_number o = omega (arith, add-mul-div_left y (head_number o) some, div-eq_of_lt h) in
    ap numbered_head quotient ∙ numbered_head_number o

-- a machine's automaton is lawful

-- there is no head, or its state is below h
abbrev pub Fitting : ℕ → Option ℕ → Type 0
Fitting h o = IfSome o (λ z. z < h)

pub fitting_or_other : (h : ℕ) (o p : Option ℕ) → Fitting h o → Fitting h p → Fitting h (option_or o p)
fitting_or_other h None p f g = g
fitting_or_other h (Some z) p f g = f

fitting_head_of : (a h x : ℕ) → 0 < a → x < a * (h + 1) → Fitting h (head_of a x)
fitting_head_of a h x some l = grind (arith, nat_tests, div_below, mul_comm)

head_number_lt : (h : ℕ) (o : Option ℕ) → Fitting h o → head_number o < h + 1
head_number_lt h o f = grind arith

code_of_lt : (a h y : ℕ) (o : Option ℕ) → y < a → Fitting h o → code_of a y o < a * (h + 1)
code_of_lt a h y o l f = omega (arith, mul-add-lt (head_number o) a y (h + 1) (head_number_lt h o f) l, mul_comm a (head_number o))

module _ (m : Machine) (p : ProperMachine m) where
  written_lt : (y : ℕ) (o : Option ℕ) → y < m.symbols → Fitting m.heads o → written y (acting m y o) < m.symbols
  written_lt y None l f = l
  written_lt y (Some z) l f = p.writes z y f l

  fitting_moving : (v : Move) (y : ℕ) (o : Option ℕ) → y < m.symbols → Fitting m.heads o → Fitting m.heads (moving v (acting m y o))
  fitting_moving v y None l f = tt
  fitting_moving v y (Some z) l f = by (same_move (m.transition z y).step v) where
    by : (b : Bool) → Fitting m.heads (then_some b (m.transition z y).next)
    by true = p.leads z y f l
    by false = tt

  -- a cell with the code x
  module _ (x : ℕ) (h : x < (turing m).states) where
    fitting_head : Fitting m.heads (head_of m.symbols x)
    fitting_head = fitting_head_of m.symbols m.heads x p.some_symbol h

    pub next_symbol_lt : next_symbol m x < m.symbols
    next_symbol_lt = written_lt (symbol_of m.symbols x) (head_of m.symbols x) (mod-lt x p.some_symbol) fitting_head

    pub fitting_arriving : (v : Move) → Fitting m.heads (arriving m v x)
    fitting_arriving v = fitting_moving v (symbol_of m.symbols x) (head_of m.symbols x) (mod-lt x p.some_symbol) fitting_head

  pub fitting_next_head : (left own right : ℕ) → left < (turing m).states → own < (turing m).states → right < (turing m).states → Fitting m.heads (next_head m left own right)
  fitting_next_head left own right f g h =
      fitting_or_other m.heads (arriving m Right left) (option_or (arriving m Stay own) (arriving m Left right)) (fitting_arriving left f Right)
      (fitting_or_other m.heads (arriving m Stay own) (arriving m Left right) (fitting_arriving own g Stay) (fitting_arriving right h Left))

  next_code_lt : (left own right : ℕ) → left < (turing m).states → own < (turing m).states → right < (turing m).states → next_code m left own right < (turing m).states
  next_code_lt left own right f g h = code_of_lt m.symbols m.heads (next_symbol m own) (next_head m left own right) (next_symbol_lt own g) (fitting_next_head left own right f g h)

  pub turing_lawful : m.symbols * (m.heads + 1) ≤ max_states → Lawful (turing m)
  turing_lawful few = record {
    bounded = record { few = few; forward = record { low = omega (arith, ints); high = omega (arith, ints); narrow = omega arith }; inverse = tt };
    sound = record {
      some = mul-le 1 1 m.symbols (m.heads + 1) p.some_symbol (omega arith);
      forward = record { ordered = omega (arith, ints); closed = λ ws e codes. next_code_lt (slice_index ws 0) (slice_index ws 1) (slice_index ws 2) (codes 0 (omega arith)) (codes 1 (omega arith)) (codes 2 (omega arith)) };
      inverse = tt;
    };
  }

-- moves on a circular tape

-- a move as a number of cells to the right
abbrev shift : Move → ℤ
shift Left = negsuc 0
shift Stay = pos 0
shift Right = pos 1

moved_floor_mod : (n : ℕ) (v : Move) (i : ℕ) → i < n → moved n v i ≡ floor_mod (pos i +ℤ shift v) n
unfolding floor_mod
moved_floor_mod n Left i h =
    let turned : pos (i + n - 1) ≡ pos i +ℤ negsuc 0 +ℤ pos 1 *ℤ pos n = omega (arith, ints) in
    ap (λ z. floor_mod z n) turned ∙ floor_mod_turns (pos i +ℤ negsuc 0) (pos 1) n (omega arith)
moved_floor_mod n Stay i h = sym (ap (λ k. k % n) (omega arith) ∙ mod-eq_of_lt h)
moved_floor_mod n Right i h = refl

moved_lt : (n : ℕ) (v : Move) (i : ℕ) → i < n → moved n v i < n
moved_lt n v i h = omega (arith, moved_floor_mod n v i h, floor_mod_lt (pos i +ℤ shift v) n (omega arith))

-- a shift by s, and one by t that undoes it
floor_mod_back : (n i : ℕ) (s t : ℤ) → i < n → s +ℤ t ≡ pos 0 → floor_mod (pos (floor_mod (pos i +ℤ s) n) +ℤ t) n ≡ i
unfolding floor_mod
floor_mod_back n i s t h e =
    let some : 0 < n = omega arith in
    let z = pos i +ℤ s in
    let turned : pos (floor_mod z n) +ℤ t +ℤ floor_div z n *ℤ pos n ≡ pos i = omega (arith, ints, floor_div_mod z n some) in
    sym (floor_mod_turns (pos (floor_mod z n) +ℤ t) (floor_div z n) n some) ∙ ap (λ y. floor_mod y n) turned ∙ mod-eq_of_lt h

-- a move from k leads to i exactly if the opposite move from i leads to k
nat_eq_moved : (n : ℕ) (v : Move) (i k : ℕ) → i < n → k < n → (floor_mod (pos i +ℤ neg_ℤ (shift v)) n == k) ≡ (i == moved n v k)
nat_eq_moved n v i k h l =
    let s = shift v in
    let t = neg_ℤ s in
    same_from_decides (floor_mod (pos i +ℤ t) n == k) (i == moved n v k) (Decides-eqb (floor_mod (pos i +ℤ t) n) k)
    (Decides-like (i == moved n v k)
    (λ e. ap (λ j. floor_mod (pos j +ℤ t) n) (e ∙ moved_floor_mod n v k l) ∙ floor_mod_back n k s t l (omega (arith, ints)))
    (λ e. sym (moved_floor_mod n v k l ∙ ap (λ j. floor_mod (pos j +ℤ s) n) (sym e) ∙ floor_mod_back n i t s h (omega (arith, ints))))
    (Decides-eqb i (moved n v k)))

-- the heads that come to a cell

or_other_none : (o : Option ℕ) → option_or o None ≡ o
or_other_none None = refl
or_other_none (Some z) = refl

-- if every head makes the move v, those of the other moves do not come
or_other_moves : (from : Move → Bool) (z : ℕ) (v : Move)
    → option_or (then_some (same_move v Right && from Right) z) (option_or (then_some (same_move v Stay && from Stay) z) (then_some (same_move v Left && from Left) z)) ≡ then_some (from v) z
or_other_moves from z Left = refl
or_other_moves from z Stay = or_other_none (then_some (from Stay) z)
or_other_moves from z Right = or_other_none (then_some (from Right) z)

-- one step

module _ (m : Machine) (c : Configuration) (p : ProperConfiguration m c) where
  at_drawing : (z : ℤ) → at (drawing m c) z ≡ cell m c (floor_mod z (length c.tape))
  at_drawing z =
      let n = length c.tape in
      ap (λ k. slice_index (drawing m c) (floor_mod z k)) (length-tabulate (cell m c) n) ∙ slice_index-tabulate (cell m c) n (floor_mod z n) (floor_mod_lt z n p.tape.some)

  -- the symbol and the head of a cell, as any function reads them
  read_cell : {X : Type 0} (f : ℕ → Option ℕ → X) (i : ℕ) → i < length c.tape → f (symbol_of m.symbols (cell m c i)) (head_of m.symbols (cell m c i)) ≡ f (slice_index c.tape i) (head_on c i)
  read_cell f i h =
      let l = p.tape.codes i h in
      ap₂ f (symbol_of_code_of m.symbols (slice_index c.tape i) (head_on c i) l) (head_of_code_of m.symbols (slice_index c.tape i) (head_on c i) l)

  next_symbol_cell : (i : ℕ) → i < length c.tape → next_symbol m (cell m c i) ≡ slice_index (step m c).tape i
  next_symbol_cell i h = read_cell (λ y o. written y (acting m y o)) i h ∙ grind (arith, nat_tests, get_or-set_same, get_or-set_other, cases_eq i c.position)

  arriving_cell : (v : Move) (i : ℕ) → i < length c.tape → arriving m v (cell m c i) ≡ then_some (same_move (transition_at m c).step v && i == c.position) (transition_at m c).next
  arriving_cell v i h = read_cell (λ y o. moving v (acting m y o)) i h ∙ grind (arith, nat_tests, cases_eq i c.position)

  -- a head that comes to the cell i by the move v, from the cell z
  arriving_drawing : (v : Move) (i : ℕ) (z : ℤ) → z ≡ pos i +ℤ neg_ℤ (shift v) → i < length c.tape
      → arriving m v (at (drawing m c) z) ≡ then_some (same_move (transition_at m c).step v && i == moved (length c.tape) v c.position) (transition_at m c).next
  arriving_drawing v i z e h =
      let n = length c.tape in
      ap (arriving m v) (at_drawing z) ∙ arriving_cell v (floor_mod z n) (floor_mod_lt z n p.tape.some) ∙
      ap (λ b. then_some (same_move (transition_at m c).step v && b) (transition_at m c).next) (ap (λ y. nat_eq (floor_mod y n) c.position) e ∙ nat_eq_moved n v i c.position h p.position)

  -- the codes around the cell i, of which the first is at z
  next_code_drawing : (i : ℕ) (z : ℤ) → z ≡ pos i +ℤ negsuc 0 → i < length c.tape
      → next_code m (at (drawing m c) (z +ℤ pos 0)) (at (drawing m c) (z +ℤ pos 1)) (at (drawing m c) (z +ℤ pos 2)) ≡ cell m (step m c) i
  next_code_drawing i z e h =
      let n = length c.tape in
      let here : z +ℤ pos 1 ≡ pos i +ℤ pos 0 = omega (arith, ints) in
      let own : at (drawing m c) (z +ℤ pos 1) ≡ cell m c i = at_drawing (z +ℤ pos 1) ∙ ap (cell m c) (ap (λ y. floor_mod y n) here ∙ sym (moved_floor_mod n Stay i h)) in
      ap₂ (code_of m.symbols) (ap (next_symbol m) own ∙ next_symbol_cell i h)
      (ap₂ option_or (arriving_drawing Right i (z +ℤ pos 0) (omega (arith, ints)) h)
      (ap₂ option_or (arriving_drawing Stay i (z +ℤ pos 1) here h) (arriving_drawing Left i (z +ℤ pos 2) (omega (arith, ints)) h)) ∙
      or_other_moves (λ v. nat_eq i (moved n v c.position)) (transition_at m c).next (transition_at m c).step)

  pub ring_map_drawing : ring_map (turing m).forward (drawing m c) ≡ drawing m (step m c)
  unfolding tabulate
  ring_map_drawing =
      let n = length-tabulate (cell m c) (length c.tape) in
      let k = length-set c.tape c.position (transition_at m c).write in
      is_tabulate (cell m (step m c)) (length (step m c).tape) (ring_map (turing m).forward (drawing m c)) (length-ring_map (turing m).forward (drawing m c) ∙ n ∙ sym k)
      (λ i h. slice_index-ring_map (turing m).forward (drawing m c) i (omega (arith, n, k)) ∙ next_code_drawing i (pos i +ℤ negsuc 0) refl (omega (arith, k)))

-- many steps

codes_set : (q : ℕ) (xs : List ℕ) (i v : ℕ) → v < q → Codes q xs → Codes q (slice_set xs i v)
codes_set q xs i v l codes k h =
    let inside : k < length xs = omega (arith, length-set xs i v) in
    let old = codes k inside in
    grind (arith, get_or-set_same, get_or-set_other, cases_eq k i)

pub step_proper : (m : Machine) → ProperMachine m → (c : Configuration) → ProperConfiguration m c → ProperConfiguration m (step m c)
step_proper m p c q =
    let y = slice_index_or c.tape c.position 0 in
    let symbol : y < m.symbols = q.tape.codes c.position q.position in
    let n = length-set c.tape c.position (transition_at m c).write in
    record {
      tape = record { some = omega (arith, n, q.tape.some); codes = codes_set m.symbols c.tape c.position (transition_at m c).write (p.writes c.state y q.state symbol) q.tape.codes };
      position = omega (arith, n, moved_lt (length c.tape) (transition_at m c).step c.position q.position);
      state = p.leads c.state y q.state symbol;
    }

pub turing_steps : (m : Machine) → ProperMachine m → StepsAsItsMachine m
unfolding power
turing_steps m p c q zero = refl
turing_steps m p c q (suc n) = ap (power (ring_map (turing m).forward) n) (ring_map_drawing m c q) ∙ turing_steps m p (step m c) (step_proper m p c q) n
