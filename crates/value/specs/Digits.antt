-- Laws of document 01's digits: the bytes of a run, the number that digits spell, and the parts of a span.
-- Assumes nothing.
use Rattle.std.specs.Prelude.{◌≡◌, refl, Bool, true, false, ◌&&◌, ◌||◌, List, [], ◌∷◌, ◌++◌, ℕ, zero, suc, ◌+◌, ◌*◌, ◌-◌, ◌^◌, ◌≤◌, ◌<◌, ◌⊎◌, min, max, leb, ltb, eqb, length, get_or, take, drop}
use Rattle.std.proofs.Common.{inl, inr, ap, ◌∙◌, add_assoc, add-zero, zero-add, suc-add, add-suc, mul_assoc, zero-mul, add-mul, le_refl, le_trans, lt_of_lt_of_le, add-one, arith, le-leb, leb-true, leb-false, lt-ltb, le-ltb, ltb-true, ltb-false, eqb-true, lit<, length-take, length-drop, take-append-drop, drop_of_length-le, drop-cons, pow-add, length-take-le, drop-drop}
use Rattle.std.proofs.Math.Path.{sym}
use Rattle.std.proofs.Math.Nat.{pow-succ', one-le-pow, pow-le-pow_right, min-eq_left, zero-min, min-zero, suc-min-suc, sub-zero, zero-sub, suc-sub-suc}
use Rattle.std.proofs.lemmas.Bool.{eqb-false}
use Rattle.std.proofs.Math.Seq.{slice, slice_empty, slice-cons, take-nil, drop-nil}
use Rattle.rules.specs.Common.{when◌then◌else◌, between, all, front, run}
use Rattle.rules.specs.SettingsAndUnitTable.{DIGIT, class, is}
use Rattle.rules.specs.Evaluation.{spelled}
use Rattle.rules.proofs.Laws.Choices.{and_left, and_right, and_both, if_either, all_first, all_others}
use Rattle.rules.proofs.Laws.Tests.{between_below, between_above}
use Rattle.rules.proofs.Laws.Texts.{sees_here, sees_end, run_more, run_stop, run_from, run_within, slice_shift}
use Rattle.value.specs.Numbers.{summed, Counts, typed, spoken, counted}

-- ---- powers of ten

pub ten_pos : (k : ℕ) → 0 < 10 ^ k
ten_pos k = one-le-pow k 10 (lit< tt)

pub ten_grows : {i j : ℕ} → i ≤ j → 10 ^ i ≤ 10 ^ j
ten_grows h = pow-le-pow_right (lit< tt) h

pub ten_sum : (i j k : ℕ) → k ≡ i + j → 10 ^ k ≡ 10 ^ i * 10 ^ j
ten_sum i j k e = ap (λ n. 10 ^ n) e ∙ pow-add 10 i j

-- ---- the bytes of a run

-- a byte that passes goes on with the run, one that does not stops it, and so does the end
pub run_on : (test : ℕ → Bool) (text : List ℕ) (place : ℕ) → place < length text → test (get_or text place 0) ≡ true → run test text place ≡ run test text (place + 1)
run_on test text place h e = run_more test text place (sees_here test text place h ∙ e)

pub run_off : (test : ℕ → Bool) (text : List ℕ) (place : ℕ) → place < length text → test (get_or text place 0) ≡ false → run test text place ≡ place
run_off test text place h e = run_stop test text place (sees_here test text place h ∙ e)

pub run_end : (test : ℕ → Bool) (text : List ℕ) (place : ℕ) → length text ≤ place → run test text place ≡ place
run_end test text place h = run_stop test text place (sees_end test text place h)

-- a run that has gone on to the text's end ends there, or where it began, if that is beyond
pub run_over : (test : ℕ → Bool) (text : List ℕ) (place next : ℕ) → length text ≤ next → (place ≤ length text → next ≤ length text) → run test text next ≡ run test text place → {end : ℕ} → end ≡ max place (length text) → end ≡ run test text place
run_over test text place next h k e {end} f = go (leb (length text) place) refl
  where
    go : (c : Bool) → leb (length text) place ≡ c → end ≡ run test text place
    go true l = let here : end ≡ place = omega (arith, leb-true (length text) place l) in here ∙ sym (run_end test text place (leb-true (length text) place l))
    go false l =
        let inside : place < length text = leb-false (length text) place l in
        let here : end ≡ next = omega (arith, k (omega arith)) in
        here ∙ sym (run_end test text next h) ∙ e

-- a byte that is below low, or above high
pub between_off : (low high b : ℕ) → (b < low) ⊎ ((low ≤ b) × (high < b)) → between low high b ≡ false
between_off low high b (inl h) = between_below low high b h
between_off low high b (inr h) = between_above low high b h.1

-- so many bytes that pass go on with it at once
front_many : (test : ℕ → Bool) (n : ℕ) (rest : List ℕ) → n ≤ length rest → all test (take n rest) ≡ true → front test rest ≡ n + front test (drop n rest)
unfolding front all when◌then◌else◌
front_many test zero rest h e = sym (zero-add (front test rest))
front_many test (suc n) [] h e = absurd (omega arith)
front_many test (suc n) (b ∷ rest) h e =
    rw (all_first test b (take n rest) e)
    (ap suc (front_many test n rest (omega arith) (all_others test b (take n rest) e)) ∙ sym (suc-add n (front test (drop n rest))))

pub run_many : (test : ℕ → Bool) (text : List ℕ) (place n : ℕ) → place + n ≤ length text → all test (take n (drop place text)) ≡ true → run test text (place + n) ≡ run test text place
unfolding run
run_many test text place n h e =
    let long : n ≤ length (drop place text) = rw (length-drop place text) (omega arith) in
    rw (front_many test n (drop place text) long e, drop-drop n place text) (omega arith)

-- what passes a test that is as strict stands in as long a run
front_same : (test other : ℕ → Bool) → ((b : ℕ) → test b ≡ other b) → (rest : List ℕ) → front test rest ≡ front other rest
unfolding front
front_same test other h [] = refl
front_same test other h (b ∷ rest) = rw (h b, front_same test other h rest)

pub run_same : (test other : ℕ → Bool) → ((b : ℕ) → test b ≡ other b) → (text : List ℕ) (place : ℕ) → run test text place ≡ run other text place
unfolding run
run_same test other h text place = rw (front_same test other h (drop place text))

front_through : (narrow broad : ℕ → Bool) → ((b : ℕ) → narrow b ≡ true → broad b ≡ true) → (rest : List ℕ) → front broad rest ≡ front narrow rest + front broad (drop (front narrow rest) rest)
unfolding front when◌then◌else◌
front_through narrow broad h [] = refl
front_through narrow broad h (b ∷ rest) = go (narrow b) refl (front_through narrow broad h rest)
  where
    go : (c : Bool) → narrow b ≡ c → front broad rest ≡ front narrow rest + front broad (drop (front narrow rest) rest) → front broad (b ∷ rest) ≡ (when c then suc (front narrow rest) else 0) + front broad (drop (when c then suc (front narrow rest) else 0) (b ∷ rest))
    go true e more = rw (h b e, suc-add) (ap suc more)
    go false e more = sym (zero-add _)

-- a run goes on from where a run of a narrower test ends
pub run_through : (narrow broad : ℕ → Bool) → ((b : ℕ) → narrow b ≡ true → broad b ≡ true) → (text : List ℕ) (place : ℕ) → run broad text place ≡ run broad text (run narrow text place)
unfolding run
run_through narrow broad h text place =
    rw (front_through narrow broad h (drop place text), drop-drop (front narrow (drop place text)) place text, add_assoc)

-- a digit is a byte from `0` to `9`
pub digit_between : (b : ℕ) → between 48 57 b ≡ is DIGIT b
unfolding is class when◌then◌else◌
digit_between b = go (between 48 57 b)
  where
    go : (c : Bool) → c ≡ eqb (when c then DIGIT else when eqb b 43 || eqb b 45 then 1 else when eqb b 46 then 2 else when between 65 90 b || between 97 122 b then 3 else 4) DIGIT
    go true = refl
    go false = other (eqb b 43 || eqb b 45) (eqb b 46) (between 65 90 b || between 97 122 b)
      where
        other : (x y z : Bool) → false ≡ eqb (when x then 1 else when y then 2 else when z then 3 else 4) DIGIT
        other true y z = refl
        other false true z = refl
        other false false true = refl
        other false false false = refl

-- from a byte to itself stands that byte alone
pub between_itself : (a b : ℕ) → between a a b ≡ eqb a b
unfolding between
between_itself a b = go (eqb a b) refl
  where
    go : (c : Bool) → eqb a b ≡ c → (leb a b && leb b a) ≡ c
    go true e = and_both (le-leb a b (omega (arith, eqb-true a b e))) (le-leb b a (omega (arith, eqb-true a b e)))
    go false e = apart (leb a b) refl (leb b a) refl
      where
        apart : (x : Bool) → leb a b ≡ x → (y : Bool) → leb b a ≡ y → (x && y) ≡ false
        apart true f true g = absurd (eqb-false a b e (omega (arith, leb-true a b f, leb-true b a g)))
        apart true f false g = refl
        apart false f y g = refl

-- a run of digits is a run from `0` to `9`, also after the zeros before it, and a run of zeros one from `0` to `0`
pub run_digits : (text : List ℕ) (place : ℕ) → run (between 48 57) text place ≡ run (is DIGIT) text place
run_digits text place = run_same (between 48 57) (is DIGIT) digit_between text place

pub run_zeros : (text : List ℕ) (place : ℕ) → run (between 48 48) text place ≡ run (eqb 48) text place
run_zeros text place = run_same (between 48 48) (eqb 48) (between_itself 48) text place

zero_digit : (b : ℕ) → eqb 48 b ≡ true → is DIGIT b ≡ true
unfolding is class between when◌then◌else◌
zero_digit b e = rw (← (eqb-true 48 b e))

pub run_after_zeros : (text : List ℕ) (place : ℕ) → run (is DIGIT) text (run (eqb 48) text place) ≡ run (is DIGIT) text place
run_after_zeros text place = sym (run_through (eqb 48) (is DIGIT) zero_digit text place)

-- where the zeros end is no later than where the digits end
pub zeros_first : (text : List ℕ) (place : ℕ) → run (eqb 48) text place ≤ run (is DIGIT) text place
zeros_first text place = rw (← (run_after_zeros text place)) (run_from (is DIGIT) text (run (eqb 48) text place))

pub digit_low : (b : ℕ) → is DIGIT b ≡ true → 48 ≤ b
unfolding between
digit_low b e = leb-true 48 b (and_left (leb 48 b) (leb b 57) (digit_between b ∙ e))

pub digit_high : (b : ℕ) → is DIGIT b ≡ true → b ≤ 57
unfolding between
digit_high b e = leb-true b 57 (and_right (leb 48 b) (leb b 57) (digit_between b ∙ e))

-- ---- a test on parts of a list

pub all_take : (test : ℕ → Bool) (k : ℕ) (xs : List ℕ) → all test xs ≡ true → all test (take k xs) ≡ true
unfolding all
all_take test zero xs e = refl
all_take test (suc k) [] e = refl
all_take test (suc k) (x ∷ xs) e = and_both (and_left (test x) (all test xs) e) (all_take test k xs (and_right (test x) (all test xs) e))

pub all_drop : (test : ℕ → Bool) (k : ℕ) (xs : List ℕ) → all test xs ≡ true → all test (drop k xs) ≡ true
unfolding all
all_drop test zero xs e = e
all_drop test (suc k) [] e = refl
all_drop test (suc k) (x ∷ xs) e = all_drop test k xs (and_right (test x) (all test xs) e)

pub all_left : (test : ℕ → Bool) (xs ys : List ℕ) → all test (xs ++ ys) ≡ true → all test xs ≡ true
unfolding all
all_left test [] ys e = refl
all_left test (x ∷ xs) ys e = and_both (and_left (test x) (all test (xs ++ ys)) e) (all_left test xs ys (and_right (test x) (all test (xs ++ ys)) e))

pub all_right : (test : ℕ → Bool) (xs ys : List ℕ) → all test (xs ++ ys) ≡ true → all test ys ≡ true
unfolding all
all_right test [] ys e = e
all_right test (x ∷ xs) ys e = all_right test xs ys (and_right (test x) (all test (xs ++ ys)) e)

-- ---- the first of two lists, and of both

pub take_both : (k : ℕ) (xs ys : List ℕ) → take k (xs ++ ys) ≡ take k xs ++ take (k - length xs) ys
take_both k [] ys = rw (sub-zero k) (ap (λ l. l ++ take k ys) (sym (take-nil k)))
take_both zero (x ∷ xs) ys = rw (zero-sub (suc (length xs)))
take_both (suc k) (x ∷ xs) ys = rw (suc-sub-suc k (length xs), take_both k xs ys)

pub drop_both : (k : ℕ) (xs ys : List ℕ) → drop k (xs ++ ys) ≡ drop k xs ++ drop (k - length xs) ys
drop_both k [] ys = rw (sub-zero k) (ap (λ l. l ++ drop k ys) (sym (drop-nil k)))
drop_both zero (x ∷ xs) ys = rw (zero-sub (suc (length xs)))
drop_both (suc k) (x ∷ xs) ys = rw (suc-sub-suc k (length xs)) (drop_both k xs ys)

-- ---- the parts of a span before and after so many bytes of it

pub slice_none : (start end : ℕ) (text : List ℕ) → end ≤ start → slice start end text ≡ []
slice_none start end text h = drop_of_length-le (take end text) {i = start} (omega (arith, length-take end text))

-- a span by its start and its size
sized : (start size : ℕ) (text : List ℕ) → take size (drop start text) ≡ slice start (start + size) text
sized start size text = slice_shift text start 0 size ∙ ap (λ n. slice n (start + size) text) (add-zero start)

pub slice_sized : (start end : ℕ) (text : List ℕ) → slice start end text ≡ take (end - start) (drop start text)
slice_sized start end text = go (leb start end) refl
  where
    go : (c : Bool) → leb start end ≡ c → slice start end text ≡ take (end - start) (drop start text)
    go true e = let sum : start + (end - start) ≡ end = omega (arith, leb-true start end e) in sym (sized start (end - start) text ∙ ap (λ n. slice start n text) sum)
    go false e =
        let none : end - start ≡ 0 = omega (arith, leb-false start end e) in
        slice_none start end text (omega (arith, leb-false start end e)) ∙ sym (ap (λ n. take n (drop start text)) none)

take_min : (m n : ℕ) (xs : List ℕ) → take m (take n xs) ≡ take (min m n) xs
take_min zero n xs = rw (zero-min n)
take_min (suc m) zero xs = rw (min-zero (suc m))
take_min (suc m) (suc n) [] = rw (suc-min-suc m n)
take_min (suc m) (suc n) (x ∷ xs) = rw (suc-min-suc m n, take_min m n xs)

-- they part at the cut, which is the span's end if it has fewer
module _ (start end count : ℕ) (text : List ℕ) {cut : ℕ} (at : cut ≡ start + min count (end - start)) where
  pub slice_before : take count (slice start end text) ≡ slice start cut text
  slice_before = rw (at, slice_sized start end text, take_min count (end - start) (drop start text)) (sized start (min count (end - start)) text)

  pub slice_after : drop count (slice start end text) ≡ slice cut end text
  slice_after = rw at (drop-drop count start (take end text) ∙ go (leb count (end - start)) refl)
    where
      go : (c : Bool) → leb count (end - start) ≡ c → slice (start + count) end text ≡ slice (start + min count (end - start)) end text
      go true e =
          let h : count ≤ end - start = leb-true count (end - start) e in
          ap (λ n. slice (start + n) end text) (sym (min-eq_left h))
      go false e =
          let h : end - start < count = leb-false count (end - start) e in
          slice_none (start + count) end text (omega arith) ∙ sym (slice_none (start + min count (end - start)) end text (omega arith))

  -- what passes in the span passes in either part
  pub passes_before : (test : ℕ → Bool) → all test (slice start end text) ≡ true → all test (slice start cut text) ≡ true
  passes_before test e = rw (← slice_before) (all_take test count (slice start end text) e)

  pub passes_after : (test : ℕ → Bool) → all test (slice start end text) ≡ true → all test (slice cut end text) ≡ true
  passes_after test e = rw (← slice_after) (all_drop test count (slice start end text) e)

-- the cut is not beyond the span, and of the count those bytes are left that the span lacks
module _ (start end count : ℕ) {cut : ℕ} (at : cut ≡ start + min count (end - start)) where
  pub cut_within : start ≤ end → cut ≤ end
  cut_within h = omega arith

  -- also where the span ends before it starts, if a place from the start on lies before the cut
  pub cut_inside : {place : ℕ} → start ≤ place → place < cut → cut ≤ end
  cut_inside h k = omega arith

  pub cut_after : start ≤ cut
  cut_after = omega arith

  pub cut_count : cut - start ≤ count
  cut_count = omega arith

  pub cut_left : count - (cut - start) ≡ count - (end - start)
  cut_left = omega arith

-- the bytes of a run pass
front_passes : (test : ℕ → Bool) (rest : List ℕ) → all test (take (front test rest) rest) ≡ true
unfolding front all when◌then◌else◌
front_passes test [] = refl
front_passes test (b ∷ rest) = go (test b) refl (front_passes test rest)
  where
    go : (c : Bool) → test b ≡ c → all test (take (front test rest) rest) ≡ true → all test (take (when c then suc (front test rest) else 0) (b ∷ rest)) ≡ true
    go true e more = and_both e more
    go false e more = refl

pub run_passes : (test : ℕ → Bool) (text : List ℕ) (place : ℕ) → all test (slice place (run test text place) text) ≡ true
unfolding run
run_passes test text place = rw (← (sized place (front test (drop place text)) text)) (front_passes test (drop place text))

-- ---- the number that digits spell

pub spelled_grows : (n : ℕ) (ds : List ℕ) → n ≤ spelled n ds
unfolding spelled
spelled_grows n [] = le_refl n
spelled_grows n (d ∷ ds) = le_trans (omega arith) (spelled_grows (n * 10 + (d - 48)) ds)

pub digit_small : (b : ℕ) → is DIGIT b ≡ true → b - 48 ≤ 9
digit_small b e = omega (arith, digit_high b e)

-- what is left to read of some digits, from an index on: after the number so far it spells the whole number
pub record Unread (ds : List ℕ) (so_far number index : ℕ) : Type 0 where
  pub spells : spelled number (drop index ds) ≡ spelled so_far ds
  pub digits : all (is DIGIT) (drop index ds) ≡ true

pub unread_all : (ds : List ℕ) (so_far : ℕ) → all (is DIGIT) ds ≡ true → Unread ds so_far so_far 0
unread_all ds so_far e = record { spells = refl; digits = e }

module _ {ds : List ℕ} {so_far number index : ℕ} (u : Unread ds so_far number index) where
  pub unread_done : length ds ≤ index → number ≡ spelled so_far ds
  unfolding spelled
  unread_done h = rw (drop_of_length-le ds {i = index} h) at u.spells

  -- one more digit: the number so far times ten, and the digit
  module _ (h : index < length ds) where
    pub unread_digit : is DIGIT (get_or ds index 0) ≡ true
    unread_digit = all_first (is DIGIT) (get_or ds index 0) (drop (suc index) ds) (rw (drop-cons ds index 0) at u.digits)

    pub unread_more : Unread ds so_far (number * 10 + (get_or ds index 0 - 48)) (index + 1)
    unfolding spelled
    unread_more = record {
      spells = rw (add-one index) (rw (drop-cons ds index 0) at u.spells);
      digits = rw (add-one index) (all_others (is DIGIT) (get_or ds index 0) (drop (suc index) ds) (rw (drop-cons ds index 0) at u.digits));
    }

    pub unread_grows : number * 10 + (get_or ds index 0 - 48) ≤ spelled so_far ds
    unread_grows = rw (← unread_more.spells) (spelled_grows (number * 10 + (get_or ds index 0 - 48)) (drop (index + 1) ds))

    pub unread_passes : {byte bound : ℕ} → byte ≡ get_or ds index 0 → bound ≤ number * 10 + (byte - 48) → bound ≤ spelled so_far ds
    unread_passes e b = le_trans (rw e at b) unread_grows

pub spelled_append : (n : ℕ) (ds es : List ℕ) → spelled n (ds ++ es) ≡ spelled (spelled n ds) es
unfolding spelled
spelled_append n [] es = refl
spelled_append n (d ∷ ds) es = spelled_append (n * 10 + (d - 48)) ds es

-- the number so far moves up by a place for each digit
pub spelled_from : (n : ℕ) (ds : List ℕ) → spelled n ds ≡ n * 10 ^ length ds + spelled 0 ds
unfolding spelled
spelled_from n [] = omega arith
spelled_from n (d ∷ ds) =
    rw (spelled_from (n * 10 + (d - 48)) ds, spelled_from (0 * 10 + (d - 48)) ds, pow-succ' 10 (length ds), add-mul (n * 10) (d - 48) _, mul_assoc n 10 (10 ^ length ds), zero-mul 10, zero-add (d - 48), add_assoc)

-- a digit after a number of k places makes one of k + 1
pub digit_below : (k n d : ℕ) → is DIGIT d ≡ true → n < 10 ^ k → n * 10 + (d - 48) < 10 ^ suc k
digit_below k n d e h = rw (pow-succ' 10 k) (omega (arith, digit_small d e))

-- digits after a number of k places spell a number of as many places more
pub spelled_below : (k n : ℕ) (ds : List ℕ) → all (is DIGIT) ds ≡ true → n < 10 ^ k → spelled n ds < 10 ^ (k + length ds)
unfolding spelled
spelled_below k n [] e h = rw (add-zero k) h
spelled_below k n (d ∷ ds) e h =
    rw (add-suc k (length ds), ← (suc-add k (length ds)))
    (spelled_below (suc k) (n * 10 + (d - 48)) ds (all_others (is DIGIT) d ds e) (digit_below k n d (all_first (is DIGIT) d ds e) h))

-- digits for which there is room, of k places in all, leave the room that is left
pub spelled_in_room : (k n room : ℕ) (ds : List ℕ) → room ≤ k → n < 10 ^ (k - room) → all (is DIGIT) ds ≡ true → spelled n (take room ds) < 10 ^ (k - (room - length ds))
spelled_in_room k n room ds h b e =
    let sum : k - room + length (take room ds) ≡ k - (room - length ds) = omega (arith, length-take room ds) in
    rw (← sum) (spelled_below (k - room) n (take room ds) (all_take (is DIGIT) room ds e) b)

pub spelled_in_all : (k n room : ℕ) (ds : List ℕ) → room ≤ k → n < 10 ^ (k - room) → all (is DIGIT) ds ≡ true → spelled n (take room ds) < 10 ^ k
spelled_in_all k n room ds h b e = lt_of_lt_of_le (spelled_in_room k n room ds h b e) (ten_grows {i = k - (room - length ds)} {j = k} (omega arith))

-- ---- digits summed up for as long as a word surely holds one more

-- one more digit, and none after the last that is sure to fit
summed_next : (n d : ℕ) (ds : List ℕ) → n < 10 ^ 18 → summed n (d ∷ ds) ≡ summed (n * 10 + (d - 48)) ds
unfolding summed when◌then◌else◌
summed_next n d ds h = rw (lt-ltb n (10 ^ 18) h)

summed_full : (n : ℕ) (ds : List ℕ) → 10 ^ 18 ≤ n → summed n ds ≡ n
unfolding summed when◌then◌else◌
summed_full n [] h = refl
summed_full n (d ∷ ds) h = rw (le-ltb n (10 ^ 18) h)

-- digits go on from a sum as from those that it was summed up from
pub summed_append : (n : ℕ) (ds es : List ℕ) → summed (summed n ds) es ≡ summed n (ds ++ es)
unfolding summed when◌then◌else◌
summed_append n [] es = refl
summed_append n (d ∷ ds) es = go (ltb n (10 ^ 18)) refl (summed_append (n * 10 + (d - 48)) ds es)
  where
    go : (c : Bool) → ltb n (10 ^ 18) ≡ c → summed (summed (n * 10 + (d - 48)) ds) es ≡ summed (n * 10 + (d - 48)) (ds ++ es) → summed (when c then summed (n * 10 + (d - 48)) ds else n) es ≡ (when c then summed (n * 10 + (d - 48)) (ds ++ es) else n)
    go true e more = more
    go false e more = summed_full n es (ltb-false n (10 ^ 18) e)

-- it has at most nineteen places
pub summed_below : (n : ℕ) (ds : List ℕ) → all (is DIGIT) ds ≡ true → n < 10 ^ 19 → summed n ds < 10 ^ 19
unfolding summed
summed_below n [] e h = h
summed_below n (d ∷ ds) e h =
    if_either (λ s. s < 10 ^ 19) (ltb n (10 ^ 18))
    (λ f. summed_below (n * 10 + (d - 48)) ds (all_others (is DIGIT) d ds e) (digit_below 18 n d (all_first (is DIGIT) d ds e) (ltb-true n (10 ^ 18) f)))
    (λ f. h)

-- digits that make at most nineteen places with those before them are all summed up
summed_in_room : (k n : ℕ) (ds : List ℕ) → all (is DIGIT) ds ≡ true → n < 10 ^ k → k + length ds ≤ 19 → summed n ds ≡ spelled n ds
unfolding summed spelled
summed_in_room k n [] e h room = refl
summed_in_room k n (d ∷ ds) e h room =
    summed_next n d ds (lt_of_lt_of_le h (ten_grows {i = k} {j = 18} (omega arith)))
    ∙ summed_in_room (suc k) (n * 10 + (d - 48)) ds (all_others (is DIGIT) d ds e) (digit_below k n d (all_first (is DIGIT) d ds e) h) (omega arith)

pub summed_few : (ds : List ℕ) → all (is DIGIT) ds ≡ true → length ds ≤ 19 → summed 0 ds ≡ spelled 0 ds
summed_few ds e h = summed_in_room 0 0 ds e (ten_pos 0) (omega arith)

-- of more, if the first is not `0`, it is the first nineteen
pub summed_many : (ds : List ℕ) → all (is DIGIT) ds ≡ true → 19 ≤ length ds → (get_or ds 0 0 ≡ 48 → ⊥) → summed 0 ds ≡ spelled 0 (take 19 ds)
unfolding spelled
summed_many [] e h some = absurd (omega arith)
summed_many (d ∷ ds) e h some =
    let few = summed_few (take 19 (d ∷ ds)) (all_take (is DIGIT) 19 (d ∷ ds) e) (omega (arith, length-take 19 (d ∷ ds))) in
    ap (summed 0) (sym (take-append-drop 19 (d ∷ ds)))
    ∙ sym (summed_append 0 (take 19 (d ∷ ds)) (drop 19 (d ∷ ds)))
    ∙ ap (λ n. summed n (drop 19 (d ∷ ds))) few
    ∙ summed_full (spelled 0 (take 19 (d ∷ ds))) (drop 19 (d ∷ ds)) large
  where
    large : 10 ^ 18 ≤ spelled 0 (take 19 (d ∷ ds))
    large = rw (spelled_from (0 * 10 + (d - 48)) (take 18 ds), length-take-le 18 ds (omega arith)) (omega (arith, digit_low d (all_first (is DIGIT) d ds e)))

-- ---- the number that counts

-- beside a sum it is what the digits spell
pub counted_summed : {number : ℕ} (ds : List ℕ) → number ≡ summed 0 ds → counted number ds ≡ spelled 0 ds
unfolding counted summed spelled
counted_summed [] e = e
counted_summed (d ∷ ds) e = refl

-- a spoken number has no digits, and beside some stands their sum
pub counts_summed : {number : ℕ} {ds : List ℕ} → Counts number ds → 0 < length ds → number ≡ summed 0 ds
counts_summed (typed e) some = e
counts_summed (spoken none one) some = absurd (omega (arith, ap length none))

-- it has at most nineteen places, and beside at most nineteen digits it is the number that counts
module _ {number : ℕ} {ds : List ℕ} (e : all (is DIGIT) ds ≡ true) where
  pub counts_below : Counts number ds → number < 10 ^ 19
  counts_below (typed sum) = rw sum (summed_below 0 ds e (lit< tt))
  counts_below (spoken none one) = rw one (lit< tt)

  pub counts_few : Counts number ds → length ds ≤ 19 → number ≡ counted number ds
  unfolding counted
  counts_few (typed sum) h = sum ∙ summed_few ds e h ∙ sym (counted_summed ds sum)
  counts_few (spoken none one) h = rw none

-- ---- a run summed up

-- what is left to sum, from a place on, of a run of digits that began at the start: after the number so far it comes to the whole sum
pub record Unsummed (text : List ℕ) (start so_far number place : ℕ) : Type 0 where
  pub ends : run (is DIGIT) text place ≡ run (is DIGIT) text start
  pub sums : summed number (slice place (run (is DIGIT) text start) text) ≡ summed so_far (slice start (run (is DIGIT) text start) text)

-- a run from the start on, and its sum after those that spelled so_far
abbrev pub SumsTo : List ℕ → ℕ → ℕ → ℕ → ℕ → Type 0
SumsTo text start so_far end number = (end ≡ run (is DIGIT) text start) × (number ≡ summed so_far (slice start end text))

module _ {text : List ℕ} {start so_far number place : ℕ} (u : Unsummed text start so_far number place) where
  pub unsummed_done : run (is DIGIT) text place ≡ place → {end : ℕ} → end ≡ run (is DIGIT) text start → SumsTo text start so_far end number
  unfolding summed
  unsummed_done e f =
      let here : run (is DIGIT) text start ≡ place = sym u.ends ∙ e in
      (f, rw f (sym (ap (summed number) (slice_empty place text)) ∙ ap (λ n. summed number (slice place n text)) (sym here) ∙ u.sums))

  pub unsummed_full : 10 ^ 18 ≤ number → {end : ℕ} → end ≡ run (is DIGIT) text place → SumsTo text start so_far end number
  unsummed_full h f = (f ∙ u.ends, rw (f ∙ u.ends) (sym (summed_full number _ h) ∙ u.sums))

  pub unsummed_more : place < length text → is DIGIT (get_or text place 0) ≡ true → number < 10 ^ 18 → Unsummed text start so_far (number * 10 + (get_or text place 0 - 48)) (place + 1)
  unsummed_more h d sure =
      let on = sym (run_on (is DIGIT) text place h d) ∙ u.ends in
      let inside : place < run (is DIGIT) text start = omega (arith, on, run_from (is DIGIT) text (place + 1)) in
      let within : run (is DIGIT) text start ≤ length text = rw (← u.ends) (run_within (is DIGIT) text place (omega arith)) in
      record {
        ends = on;
        sums = rw (add-one place) (sym (summed_next number (get_or text place 0) (slice (suc place) (run (is DIGIT) text start) text) sure) ∙ (rw (slice-cons place (run (is DIGIT) text start) text 0 inside within) at u.sums));
      }
