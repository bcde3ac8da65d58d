-- What is written of a length is a right text, worth that length: read, it is the length again. Assumes nothing.
use Rattle.std.specs.Prelude.{◌≡◌, Bool, not, ◌↔◌, eqb, drop}
use Rattle.std.proofs.Math.Path.{refl, ap}
use Rattle.std.proofs.Common.{sym, ◌∙◌, inl, inr, zero-mul, mul_assoc, mul-div_cancel, arith, pow-add, drop_at}
use Rattle.std.proofs.Math.Bool.{true, false}
use mathlib.Core.List.{List, [], ◌∷◌, ◌++◌}
use Prim.Native.Nat.{ℕ, suc, ◌+◌, ◌*◌, ◌-◌, ◌/◌, ◌%◌, ◌^◌, ◌≤◌, ◌<◌}
use borrow.Author.Tests.{eqb-true, eqb-false, le-leb, lt-leb, leb-true, leb-false}
use Rattle.std.proofs.Math.Dec.{leb}
use Rattle.std.proofs.Math.ListN.{length, take, length-append}
use Rattle.std.proofs.Math.Seq.{slice, take_at, length-take-le}
use Rattle.rules.specs.declared.Length.{Length}
use Rattle.rules.specs.declared.Reading.{Reading}
use Rattle.rules.specs.declared.Refusal.TheVariants.{NegativeForbidden, NoRoom, Beyond, Malformed}
use Rattle.rules.specs.Common.{when◌then◌else◌, all}
use Rattle.rules.specs.NumbersHandedBack.{got, refused, ◌>>◌, unless}
use Rattle.rules.specs.ThePartOfTheCrateWeTake.{nanoseconds_per_second, seconds_limit, longest_text, size, well_formed}
use Rattle.rules.specs.SettingsAndUnitTable.{DIGIT, is, kind_coefficients}
use Rattle.rules.specs.Evaluation.{spelled, length_of}
use Rattle.rules.specs.WriterAndShiftTotal.{whole_digits, fraction_digits, written_fraction}
use Rattle.rules.proofs.Laws.Apart.{few_seconds, proper, length_of_size}
use Rattle.rules.proofs.Laws.Choices.{and_both, if_either}
use Rattle.rules.proofs.Laws.Written.{whole_digits_only, fraction_digits_only}
use Rattle.writing.specs.Digits.{ten_pos, whole_some, whole_few}
use Rattle.writing.specs.Forms.{all_zeros}
use Rattle.readback.specs.Spelled.{spelled_whole, spelled_fraction, fraction_few}
use Rattle.iso.specs.IsoTimings.{Component, SECONDS, MINUTES, HOURS, none, digits, is_mark, right_fraction, right_number, closes, right_after, right, decimals, seconds_of, nanoseconds_of, read_iso, component, components_of, iso_written, writing_iso, iso_buffer_after, iso_written_buffer}
use Rattle.iso.proofs.Laws.Right.{reads_exactly}
use Rattle.iso.proofs.Laws.Sound.{never}
use Rattle.iso.specs.Laws.Worth.{whole_worth, fraction_worth}
use Rattle.iso.proofs.Laws.Worth.{worth_none, worth_first}
use Rattle.iso_writer.specs.Components.{shown, left_out, if_shown, chosen, hours_shown, minutes_shown, seconds_shown, one_shown, components_shown}
use Rattle.iso_writer.specs.Forms.{written_part, in_parts}

-- ---- what is written is right

some_digits : (ds : List ℕ) → 0 < length ds → all (is DIGIT) ds ≡ true → digits ds ≡ true
unfolding digits none
some_digits [] h e = absurd (omega arith)
some_digits (d ∷ ds) h e = e

-- nanoseconds that are not zero have a digit that is not
fraction_right : (nanoseconds : ℕ) → nanoseconds < 10 ^ 9 → right_fraction (written_fraction nanoseconds) ≡ true
unfolding right_fraction written_fraction is_mark fraction_digits
fraction_right n h = if_either (λ f. right_fraction f ≡ true) (eqb n 0) (λ _. refl) (λ e. some_digits (fraction_digits n) (some e) (fraction_digits_only n))
  where
    not_empty : (ds : List ℕ) → (ds ≡ [] → ⊥) → 0 < length ds
    not_empty [] e = absurd (e refl)
    not_empty (d ∷ ds) e = omega arith

    some : eqb n 0 ≡ false → 0 < length (fraction_digits n)
    some e = not_empty (fraction_digits n) (λ z. eqb-false n 0 e (all_zeros 9 n h z))

number_right : (kind number nanoseconds : ℕ) → nanoseconds < 10 ^ 9 → right_number (component kind number nanoseconds) ≡ true
unfolding right_number component
number_right kind number nanoseconds h = and_both (some_digits (whole_digits number) (whole_some number) (whole_digits_only number)) (fraction_right nanoseconds h)

chosen_right :
    (hours minutes seconds nanoseconds : ℕ)
    → nanoseconds < 10 ^ 9
    → (h m s : Bool)
    → (h ≡ false → m ≡ false → s ≡ false → ⊥)
    → right (chosen hours minutes seconds nanoseconds h m s) ≡ true
unfolding right right_after closes none if_shown component written_fraction when◌then◌else◌
chosen_right hours minutes seconds nanoseconds short h m s some = go h m s some
  where
    h_right : right_number (component HOURS hours 0) ≡ true
    h_right = number_right HOURS hours 0 (omega arith)

    m_right : right_number (component MINUTES minutes 0) ≡ true
    m_right = number_right MINUTES minutes 0 (omega arith)

    s_right : right_number (component SECONDS seconds nanoseconds) ≡ true
    s_right = number_right SECONDS seconds nanoseconds short

    go : (h m s : Bool) → (h ≡ false → m ≡ false → s ≡ false → ⊥) → right (chosen hours minutes seconds nanoseconds h m s) ≡ true
    go false false false some = absurd (some refl refl refl)
    go false false true some = rw s_right
    go false true false some = rw m_right
    go false true true some = rw (m_right, s_right)
    go true false false some = rw h_right
    go true false true some = rw (h_right, s_right)
    go true true false some = rw (h_right, m_right)
    go true true true some = rw (h_right, m_right, s_right)

pub written_right : (l : Length) → well_formed l ≡ true → right (components_of l) ≡ true
written_right l good =
    ap right (components_shown l)
    ∙ chosen_right (l.seconds / 3600) (l.seconds / 60 % 60) (l.seconds % 60) l.nanoseconds (proper l good) (hours_shown l) (minutes_shown l) (seconds_shown l) (one_shown l)

-- ---- and is worth the length

whole_of : (kind number nanoseconds : ℕ) → number < 2 ^ 64 → whole_worth (component kind number nanoseconds) ≡ number * seconds_of kind * nanoseconds_per_second
unfolding whole_worth component
whole_of kind number nanoseconds h = rw (spelled_whole number h)

fraction_none : (kind number : ℕ) → fraction_worth (component kind number 0) ≡ 0
unfolding fraction_worth component decimals written_fraction spelled when◌then◌else◌
fraction_none kind number = rw (zero-mul (seconds_of kind * nanoseconds_per_second))

-- the nine digits less trailing zeros are worth the nanoseconds
fraction_of : (number nanoseconds : ℕ) → nanoseconds < 10 ^ 9 → fraction_worth (component SECONDS number nanoseconds) ≡ nanoseconds
unfolding fraction_worth component decimals written_fraction seconds_of kind_coefficients spelled
fraction_of number n h =
    if_either (λ f. spelled 0 (drop 1 f) * nanoseconds_per_second / 10 ^ length (drop 1 f) ≡ n) (eqb n 0) (λ e. sym (eqb-true n 0 e)) (λ _. nine)
  where
    sum : ℕ
    sum = spelled 0 (fraction_digits n)

    count : ℕ
    count = length (fraction_digits n)

    powers : 10 ^ 9 ≡ 10 ^ (9 - count) * 10 ^ count
    powers =
        let all : 9 ≡ 9 - count + count = omega (arith, fraction_few n) in
        ap (λ k. 10 ^ k) all ∙ pow-add 10 (9 - count) count

    nine : sum * 10 ^ 9 / 10 ^ count ≡ n
    nine =
        ap (λ p. sum * p / 10 ^ count) powers
        ∙ ap (λ x. x / 10 ^ count) (sym (mul_assoc sum (10 ^ (9 - count)) (10 ^ count)))
        ∙ mul-div_cancel (sum * 10 ^ (9 - count)) (ten_pos count)
        ∙ spelled_fraction 0 n h
        ∙ omega arith

-- hours and minutes, with what stands behind them
worth_whole :
    (kind number : ℕ) (others : List Component)
    → number < 2 ^ 64
    → nanoseconds_of (if_shown (shown false number 0) (component kind number 0) ++ others) ≡ number * seconds_of kind * nanoseconds_per_second + nanoseconds_of others
unfolding if_shown when◌then◌else◌ component written_fraction
worth_whole kind number others h = go (shown false number 0) refl
  where
    go :
        (b : Bool)
        → shown false number 0 ≡ b
        → nanoseconds_of ((when b then component kind number 0 ∷ [] else []) ++ others) ≡ number * seconds_of kind * nanoseconds_per_second + nanoseconds_of others
    go true e = worth_first (component kind number 0) others (inl refl) ∙ rw (whole_of kind number 0 h, fraction_none kind number) (omega arith)
    go false e = rw ((left_out false number 0 e).1, zero-mul (seconds_of kind)) (omega arith)

worth_last :
    (needed : Bool) (number nanoseconds : ℕ)
    → number < 2 ^ 64
    → nanoseconds < 10 ^ 9
    → nanoseconds_of (if_shown (shown needed number nanoseconds) (component SECONDS number nanoseconds)) ≡ number * nanoseconds_per_second + nanoseconds
unfolding if_shown when◌then◌else◌ seconds_of kind_coefficients
worth_last needed number n h short = go (shown needed number n) refl
  where
    go :
        (b : Bool)
        → shown needed number n ≡ b
        → nanoseconds_of (when b then component SECONDS number n ∷ [] else []) ≡ number * nanoseconds_per_second + n
    go true e =
        worth_first (component SECONDS number n) [] (inr refl) ∙ rw (whole_of SECONDS number n h, fraction_of number n short, worth_none) (omega arith)
    go false e = let zero = left_out needed number n e in worth_none ∙ omega (arith, zero.1, zero.2)

pub written_worth : (l : Length) → well_formed l ≡ true → nanoseconds_of (components_of l) ≡ size l
unfolding size seconds_of kind_coefficients
written_worth l good =
    let small : l.seconds < 2 ^ 64 = few_seconds l good in
    ap nanoseconds_of (components_shown l)
    ∙ worth_whole HOURS (l.seconds / 3600) _ (omega arith)
    ∙ ap (λ n. l.seconds / 3600 * 3600 * nanoseconds_per_second + n) (worth_whole MINUTES (l.seconds / 60 % 60) _ (omega arith))
    ∙ ap (λ n. l.seconds / 3600 * 3600 * nanoseconds_per_second + (l.seconds / 60 % 60 * 60 * nanoseconds_per_second + n))
    (worth_last (eqb l.seconds 0) (l.seconds % 60) l.nanoseconds (omega arith) (proper l good))
    ∙ omega arith

-- ---- how long it is

written_fraction_few : (nanoseconds : ℕ) → length (written_fraction nanoseconds) ≤ 10
unfolding written_fraction
written_fraction_few n =
    if_either (λ f. length f ≤ 10) (eqb n 0) {x = []} {y = 46 ∷ fraction_digits n} (λ _. omega arith) (λ _. omega (arith, fraction_few n))

part_few :
    (unit : ℕ) (needed : Bool) (number nanoseconds k : ℕ)
    → k < 20
    → number < 10 ^ suc k
    → length (written_part unit needed number nanoseconds) ≤ suc k + length (written_fraction nanoseconds) + 1
unfolding written_part
part_few unit needed number nanoseconds k few h =
    if_either (λ l. length l ≤ suc k + length (written_fraction nanoseconds) + 1) (shown needed number nanoseconds)
    {x = whole_digits number ++ written_fraction nanoseconds ++ unit ∷ []} {y = []}
    (λ _. simp length-append (omega (arith, whole_few k number few h))) (λ _. omega arith)

-- 16 digits of hours, two of minutes, two of seconds and nine decimals, and `P`, `T`, a point and three letters
pub written_short : (l : Length) → well_formed l ≡ true → length (iso_written l) ≤ 35
unfolding written_fraction when◌then◌else◌
written_short l good =
    let small : l.seconds < 2 ^ 64 = few_seconds l good in
    let hours : List ℕ = written_part 72 false (l.seconds / 3600) 0 in
    let minutes : List ℕ = written_part 77 false (l.seconds / 60 % 60) 0 in
    let seconds : List ℕ = written_part 83 (eqb l.seconds 0) (l.seconds % 60) l.nanoseconds in
    let all : length (iso_written l) ≡ suc (suc (length (hours ++ minutes ++ seconds))) = ap length (in_parts l) in
    omega (
      arith,
      all,
      length-append (hours ++ minutes) seconds,
      length-append hours minutes,
      part_few 72 false (l.seconds / 3600) 0 15 (omega arith) (omega arith),
      part_few 77 false (l.seconds / 60 % 60) 0 1 (omega arith) (omega arith),
      part_few 83 (eqb l.seconds 0) (l.seconds % 60) l.nanoseconds 1 (omega arith) (omega arith),
      written_fraction_few l.nanoseconds,
    )

-- ---- where it is written

module _ (l : Length) (buffer : List ℕ) (place : ℕ) where
  -- what was asked before anything was written, and where that ends
  pub record Wrote (r : Reading) : Type 0 where
    pub good : well_formed l ≡ true
    pub plus : l.negative ≡ false
    pub within : place ≤ length buffer
    pub fits : length (iso_written l) ≤ length buffer - place
    pub next : r.next ≡ place + length (iso_written l)

  pub wrote : (r : Reading) → writing_iso l buffer place ≡ got r → Wrote r
  unfolding writing_iso unless ◌>>◌
  wrote r e = go (well_formed l) l.negative (leb place (length buffer)) (leb (length (iso_written l)) (length buffer - place)) refl refl refl refl e
    where
      go :
          (a b c d : Bool)
          → well_formed l ≡ a
          → l.negative ≡ b
          → leb place (length buffer) ≡ c
          → leb (length (iso_written l)) (length buffer - place) ≡ d
          → (unless Malformed a
          >> (unless (NegativeForbidden 0) (not b)
          >> (unless (Beyond place) c >> (unless (NoRoom place) d >> got (record { length = l; next = place + length (iso_written l) })))))
          ≡ got r
          → Wrote r
      go false b c d p q x y e = never e
      go true true c d p q x y e = never e
      go true false false d p q x y e = never e
      go true false true false p q x y e = never e
      go true false true true p q x y e =
          let same : record { length = l; next = place + length (iso_written l) } ≡ r = cc in
          record {
            good = p;
            plus = q;
            within = leb-true place (length buffer) x;
            fits = leb-true (length (iso_written l)) (length buffer - place) y;
            next = ap (λ a. a.next) (sym same);
          }

  -- none that fits is refused
  module _ (good : well_formed l ≡ true) (plus : l.negative ≡ false) (within : place ≤ length buffer) where
    pub none_refused_that_fits : (writing_iso l buffer place ≡ refused (NoRoom place)) ↔ (length buffer - place < length (iso_written l))
    unfolding writing_iso unless ◌>>◌
    none_refused_that_fits = (full (leb (length (iso_written l)) (length buffer - place)) refl, none)
      where
        none : length buffer - place < length (iso_written l) → writing_iso l buffer place ≡ refused (NoRoom place)
        none h = rw (good, le-leb place (length buffer) within, lt-leb (length (iso_written l)) (length buffer - place) h, plus)

        full :
            (b : Bool)
            → leb (length (iso_written l)) (length buffer - place) ≡ b
            → writing_iso l buffer place ≡ refused (NoRoom place)
            → length buffer - place < length (iso_written l)
        full true e h =
            let fits : writing_iso l buffer place ≡ got (record { length = l; next = place + length (iso_written l) }) =
            rw (good, le-leb place (length buffer) within, e, plus) in
            never (sym h ∙ fits)
        full false e h = leb-false (length (iso_written l)) (length buffer - place) e

  -- the bytes from the place on are what is written
  pub stands : (r : Reading) → writing_iso l buffer place ≡ got r → slice place r.next (iso_written_buffer l buffer place) ≡ iso_written l
  unfolding iso_written_buffer iso_buffer_after
  stands r e =
      let asked = wrote r e in
      let front : List ℕ = take place buffer in
      let before : length front ≡ place = length-take-le place buffer asked.within in
      let through : length (front ++ iso_written l) ≡ r.next = length-append front (iso_written l) ∙ omega (arith, before, asked.next) in
      rw (e, take_at (front ++ iso_written l) (drop r.next buffer) r.next through) (drop_at front (iso_written l) place before)

-- ---- read again

size_below : (l : Length) → well_formed l ≡ true → size l < seconds_limit * nanoseconds_per_second
unfolding size
size_below l good = omega (arith, few_seconds l good, proper l good)

pub reads_back : (l : Length) → well_formed l ≡ true → l.negative ≡ false → read_iso (iso_written l) ≡ got l
unfolding iso_written
reads_back l good plus =
    let worth = written_worth l good in
    let short : length (iso_written l) ≤ longest_text = omega (arith, written_short l good) in
    let same : l ≡ length_of false (size l) = sym (length_of_size l good) ∙ ap (λ b. length_of b (size l)) plus in
    (reads_exactly (iso_written l) l).1 (
      record { parts = components_of l; rightly = written_right l good; spells = refl; short = short },
      omega (arith, worth, size_below l good),
      same ∙ ap (length_of false) (sym worth),
    )

-- no two lengths are written alike
pub written_one :
    (l m : Length)
    → well_formed l ≡ true
    → well_formed m ≡ true
    → l.negative ≡ false
    → m.negative ≡ false
    → iso_written l ≡ iso_written m
    → l ≡ m
written_one l m good fine plus too same =
    let both : got l ≡ got m = sym (reads_back l good plus) ∙ ap read_iso same ∙ reads_back m fine too in
    cc

-- what stands in the buffer reads back
pub in_buffer :
    (l : Length) (buffer : List ℕ) (place : ℕ) (r : Reading)
    → writing_iso l buffer place ≡ got r
    → (slice place r.next (iso_written_buffer l buffer place) ≡ iso_written l) × (read_iso (slice place r.next (iso_written_buffer l buffer place)) ≡ got l)
in_buffer l buffer place r e =
    let asked = wrote l buffer place r e in
    let here = stands l buffer place r e in
    (here, ap read_iso here ∙ reads_back l asked.good asked.plus)
