-- Components summed up as they are read: what is due after one is what was due with it. Assumes nothing.
use Rattle.std.specs.Prelude.{◌≡◌, ◌||◌, ◌⊎◌, ℕ, suc, ◌+◌, ◌*◌, ◌^◌, ◌≤◌, ◌<◌, length, get_or, drop, Option, Some}
use Rattle.std.proofs.Math.Path.{refl, sym, ap}
use Rattle.std.proofs.Common.{◌∙◌, inl, inr, add-one, arith, drop_of_length-le, drop-cons}
use Rattle.std.proofs.Math.Bool.{true, false, not}
use Rattle.std.proofs.lemmas.Bool.{false≢true}
use mathlib.Core.List.{List, [], ◌∷◌}
use Rattle.std.proofs.Math.Nat.{add-zero, zero-add, add_assoc}
use borrow.Author.Tests.{lt-leb}
use Rattle.std.proofs.Math.Dec.{eqb}
use Rattle.rules.specs.declared.Length.{Length}
use Rattle.rules.specs.declared.Refusal.TheVariants.{NotIso}
use Rattle.rules.specs.Common.{when◌then◌else◌, sees, starts}
use Rattle.rules.specs.NumbersHandedBack.{Outcome, got, refused, ◌>>=◌}
use Rattle.rules.proofs.Laws.Outcomes.{bind_got, bind_refused}
use Rattle.rules.proofs.Laws.Tests.{eqb_sym}
use Rattle.rules.proofs.Laws.Texts.{sees_in, sees_here}
use Rattle.rules.specs.Evaluation.{spelled}
use Rattle.iso.specs.IsoTimings.{Component, Stand, DAYS, ANY, start, date, wanted, unit, closed, none, closes, decimals, may_come, seconds_of, nanoseconds_of, after_letter, step, on, may_end, read_from, components, held}
use Rattle.iso.proofs.Laws.Runs.{goes_on}
use Rattle.iso.proofs.Laws.Letters.{came_date, came_below}
use Rattle.iso.proofs.Laws.OneComponent.{open_kind}
use Rattle.iso.proofs.Laws.Stands.{or_false_right}
use Rattle.iso.specs.Laws.Worth.{whole_worth, fraction_worth}
use Rattle.iso.proofs.Laws.Worth.{worth_first, worth_none}
use Rattle.iso_reader.specs.declared.counted.Counted.{Counted}
use Rattle.iso_reader.specs.declared.counted.Kind.{Kind}
use Rattle.iso_reader.specs.Kinds.{kind_number}
use Rattle.iso_reader.specs.Steps.{component_of, component_then}
use Rattle.iso_reader.specs.Due.{due, worth}
use Rattle.iso_reader.specs.Tenths.{tenths}

-- ---- what comes of components that are read: their length; with seconds so far; with so many nanoseconds more

abbrev pub valued : Outcome (List Component) → Outcome Length
valued read = read >>= λ cs. held (nanoseconds_of cs)

abbrev pub summed : Outcome (List Component) → Option ℕ → Outcome Length
summed read total = read >>= worth total

abbrev pub due_then : Outcome (List Component) → Option ℕ → ℕ → Outcome Length
due_then read total n = read >>= λ cs. due total n

-- ---- a component

pub next_within : {a b : ℕ} → a < b → a + 1 ≤ b
next_within h = omega arith

no_bytes : (xs : List ℕ) → length xs < 1 → xs ≡ []
no_bytes [] h = refl
no_bytes (x ∷ xs) h = absurd (omega (arith, h))

unmarked : (fs : List ℕ) → not (none fs) ≡ false → fs ≡ []
unfolding none
unmarked [] e = refl
unmarked (m ∷ fs) e = absurd (false≢true (sym e))

module _ (c : Counted) where
  abbrev comp : Component
  comp = component_of c

  -- whether it closes, by its kind
  pub closes_by : (k : Kind) → c.kind ≡ k → closes comp ≡ (eqb (kind_number k) 7 || eqb (kind_number k) 3 || not (none c.typed.fraction.now))
  unfolding closes
  closes_by k e = ap (λ k. eqb (kind_number k) 7 || eqb (kind_number k) 3 || not (none c.typed.fraction.now)) e

  open_fraction : closes comp ≡ false → comp.fraction ≡ []
  unfolding closes
  open_fraction e = unmarked comp.fraction (or_false_right (eqb (kind_number c.kind) 7 || eqb (kind_number c.kind) 3) (not (none comp.fraction)) e)

  -- ---- what it is worth

  fraction_empty : comp.fraction ≡ [] → fraction_worth comp ≡ 0
  unfolding fraction_worth decimals spelled
  fraction_empty e = rw e (omega arith)

  pub fraction_none : length c.typed.fraction.now < 1 → 0 ≡ fraction_worth comp
  fraction_none h = sym (fraction_empty (no_bytes c.typed.fraction.now h))

  pub fraction_some : tenths (seconds_of (kind_number c.kind) * 10 ^ 9) (drop 1 c.typed.fraction.now) ≡ fraction_worth comp
  unfolding fraction_worth decimals tenths
  fraction_some = refl

  -- ---- what is due with it

  -- its whole seconds are among those so far
  module _ (total sum : Option ℕ) (added : (n : ℕ) → due sum n ≡ due total (whole_worth comp + n)) where
    with_it : (cs : List Component) → (comp.fraction ≡ []) ⊎ (cs ≡ []) → due sum (fraction_worth comp + nanoseconds_of cs) ≡ worth total (comp ∷ cs)
    unfolding worth
    with_it cs either = added (fraction_worth comp + nanoseconds_of cs) ∙ ap (due total) (sym (worth_first comp cs either ∙ add_assoc (whole_worth comp) (fraction_worth comp) (nanoseconds_of cs)))

    module _ (text : List ℕ) where
      -- nothing comes after it
      pub sum_closes : closes comp ≡ true → due_then (read_from closed c.next (drop c.next text)) sum (fraction_worth comp) ≡ summed (component_then text c) total
      unfolding component_then after_letter when◌then◌else◌ read_from step may_end ◌>>=◌
      sum_closes e = rw e (go (drop c.next text))
        where
          go : (rest : List ℕ) → due_then (read_from closed c.next rest) sum (fraction_worth comp) ≡ summed (read_from closed c.next rest >>= λ cs. got (comp ∷ cs)) total
          go [] = ap (due sum) (sym (ap (λ n. fraction_worth comp + n) worth_none ∙ add-zero (fraction_worth comp))) ∙ with_it [] (inr refl)
          go (b ∷ rest) = refl

      -- others come after it
      pub sum_open : closes comp ≡ false → summed (read_from (unit (kind_number c.kind)) c.next (drop c.next text)) sum ≡ summed (component_then text c) total
      unfolding component_then after_letter when◌then◌else◌ worth ◌>>=◌
      sum_open e = rw e (go (read_from (unit (kind_number c.kind)) c.next (drop c.next text)))
        where
          go : (m : Outcome (List Component)) → summed m sum ≡ summed (m >>= λ cs. got (comp ∷ cs)) total
          go (got cs) =
              let none_behind = fraction_empty (open_fraction e) in
              ap (due sum) (sym (ap (λ n. n + nanoseconds_of cs) none_behind ∙ zero-add (nanoseconds_of cs))) ∙ with_it cs (inl (open_fraction e))
          go (refused cause) = refl

-- ---- what may come at a place of a text

module _ (text : List ℕ) (place : ℕ) where
  pub closed_ends : length text ≤ place → read_from closed place (drop place text) ≡ got []
  unfolding read_from may_end when◌then◌else◌
  closed_ends h = rw (drop_of_length-le text h)

  pub closed_refused : place < length text → read_from closed place (drop place text) ≡ refused (NotIso place)
  unfolding read_from step ◌>>=◌
  closed_refused h = rw (drop-cons text place 0 h)

  pub unit_ends : (k : ℕ) → length text ≤ place → read_from (unit k) place (drop place text) ≡ got []
  unfolding read_from may_end when◌then◌else◌
  unit_ends k h = rw (drop_of_length-le text h)

  -- after hours or minutes a digit
  pub unit_number : (k : ℕ) → k < DAYS → place < length text → read_from (unit k) place (drop place text) ≡ read_from (wanted k) place (drop place text)
  unfolding read_from step when◌then◌else◌
  unit_number k h within = rw (drop-cons text place 0 within, lt-leb DAYS k h)

  clock_comes : (s : Stand) → ((b : ℕ) → eqb b 84 ≡ true → step s place b ≡ on (wanted DAYS)) → sees (eqb 84) text place ≡ true → read_from s place (drop place text) ≡ read_from (wanted DAYS) (place + 1) (drop (place + 1) text)
  clock_comes s steps e =
      let within = sees_in (eqb 84) text place e in
      rw (drop-cons text place 0 within, add-one place)
      (goes_on s (wanted DAYS) place (get_or text place 0) (drop (suc place) text) (steps (get_or text place 0) (eqb_sym (get_or text place 0) 84 ∙ sym (sees_here (eqb 84) text place within) ∙ e)))

  -- after days `T`
  pub unit_clock : sees (eqb 84) text place ≡ true → read_from (unit DAYS) place (drop place text) ≡ read_from (wanted DAYS) (place + 1) (drop (place + 1) text)
  unfolding step when◌then◌else◌
  unit_clock = clock_comes (unit DAYS) (λ b e. rw e)

  pub unit_refused : place < length text → sees (eqb 84) text place ≡ false → read_from (unit DAYS) place (drop place text) ≡ refused (NotIso place)
  unfolding read_from step when◌then◌else◌ ◌>>=◌
  unit_refused within e = rw (drop-cons text place 0 within, eqb_sym (get_or text place 0) 84, sym (sees_here (eqb 84) text place within) ∙ e)

  -- after `P` the same, or a digit
  pub date_clock : sees (eqb 84) text place ≡ true → read_from date place (drop place text) ≡ read_from (wanted DAYS) (place + 1) (drop (place + 1) text)
  unfolding step when◌then◌else◌
  date_clock = clock_comes date (λ b e. rw e)

  pub date_number : sees (eqb 84) text place ≡ false → read_from date place (drop place text) ≡ read_from (wanted ANY) place (drop place text)
  unfolding sees starts read_from step may_end when◌then◌else◌
  date_number e = go (drop place text) e
    where
      go : (rest : List ℕ) → starts (eqb 84) rest ≡ false → read_from date place rest ≡ read_from (wanted ANY) place rest
      go [] e = refl
      go (b ∷ rest) e = rw (eqb_sym b 84, e)

-- the first byte
pub first_refused : (text : List ℕ) → sees (eqb 80) text 0 ≡ false → refused (NotIso 0) ≡ components text
unfolding components read_from step may_end sees starts when◌then◌else◌ ◌>>=◌
first_refused [] e = refl
first_refused (b ∷ text) e = rw (eqb_sym b 80, e)

pub first_is : (text : List ℕ) → sees (eqb 80) text 0 ≡ true → components text ≡ read_from date 1 (drop 1 text)
unfolding components step sees starts when◌then◌else◌
first_is [] e = absurd (false≢true e)
first_is (b ∷ text) e = goes_on start date 0 b text (rw (eqb_sym b 80, e))

-- with no seconds so far
pub none_so_far : (read : Outcome (List Component)) → summed read (Some 0) ≡ valued read
unfolding worth due ◌>>=◌
none_so_far (got cs) = ap held (omega arith)
none_so_far (refused cause) = refl

-- ---- a component that does not close, and what comes after it

module _ (text : List ℕ) (c : Counted) (total sum : Option ℕ) (added : (n : ℕ) → due sum n ≡ due total (whole_worth (component_of c) + n)) (more : closes (component_of c) ≡ false) where
  -- the text's end
  pub sum_ends : length text ≤ c.next → due sum 0 ≡ summed (component_then text c) total
  unfolding worth
  sum_ends h = sym (bind_got _ (unit_ends text c.next (kind_number c.kind) h) ∙ ap (due sum) worth_none) ∙ sum_open c total sum added text more

  -- another one
  pub sum_goes_on : kind_number c.kind < DAYS → c.next < length text → summed (read_from (wanted (kind_number c.kind)) c.next (drop c.next text)) sum ≡ summed (component_then text c) total
  sum_goes_on k h = ap (λ read. summed read sum) (sym (unit_number text c.next (kind_number c.kind) k h)) ∙ sum_open c total sum added text more

  -- `T` after days, and something else
  module _ (k : kind_number c.kind ≡ DAYS) where
    pub sum_clock : sees (eqb 84) text c.next ≡ true → summed (read_from (wanted DAYS) (c.next + 1) (drop (c.next + 1) text)) sum ≡ summed (component_then text c) total
    sum_clock e = ap (λ read. summed read sum) (sym (rw k (unit_clock text c.next e))) ∙ sum_open c total sum added text more

    pub sum_no_clock : c.next < length text → sees (eqb 84) text c.next ≡ false → refused (NotIso c.next) ≡ summed (component_then text c) total
    sum_no_clock h e = sym (bind_refused _ (rw k (unit_refused text c.next h e))) ∙ sum_open c total sum added text more

-- a first component that does not close is of days
pub days : (c : Counted) → may_come ANY (kind_number c.kind) ≡ true → closes (component_of c) ≡ false → kind_number c.kind ≡ DAYS
days c comes e =
    let kind = came_date (kind_number c.kind) comes in
    let other = open_kind (component_of c) e in
    omega (arith, kind.0, kind.1, other)

-- the kinds fall
pub falls : (c : Counted) (least : Kind) → kind_number least ≤ DAYS → may_come (kind_number least) (kind_number c.kind) ≡ true → kind_number c.kind < kind_number least
falls c least h comes = (came_below (kind_number least) (kind_number c.kind) (omega arith) comes).1
