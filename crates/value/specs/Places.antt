-- Laws of the numbers that a text's digits come to in words of 64 bits: the first places of a number, a number of two spans cut
-- at a point, and a number moved by a power of ten. Assumes nothing.
use Rattle.std.specs.Prelude.{◌≡◌, ◌⊎◌, refl, Bool, List, ◌++◌, ltb, eqb, take, drop, Option, Some, None}
use Rattle.std.specs.Option.{SomeIff}
use Rattle.std.proofs.Math.Path.{ap, ap₂, sym}
use Rattle.std.proofs.Common.{inl, inr, ◌∙◌, append_assoc, zero-add, mul_assoc, mul-one, zero-mul, add-mul, lt_of_lt_of_le, mul-lt-mul_of_pos_right, div-lt_iff_lt-mul, div-one, div-add-mod', mod-lt, le-mul_of_pos_right, arith, length-take, length-drop, drop_of_length-le, pow-add, take-add, take_all}
use Rattle.std.proofs.Math.Bool.{true, false}
use Prim.Native.Nat.{ℕ, ◌+◌, ◌*◌, ◌-◌, ◌/◌, ◌%◌, ◌^◌, ◌≤◌, ◌<◌, min}
use Rattle.std.proofs.Math.Nat.{le_refl, le_trans, div-eq_of_lt, mul-div-mul_right, sub-add-eq}
use borrow.Author.Tests.{ltb-true, ltb-false, lt-ltb, le-ltb, leb-true, leb-false}
use Rattle.std.proofs.Math.Arith.{digits_div, digits_mod}
use Rattle.std.proofs.Math.Dec.{leb}
use Rattle.std.proofs.Math.ListN.{length, get_or, length-append, take-append-drop}
use Rattle.std.proofs.Math.Seq.{slice, slice_empty, slice-cons, length-slice, take-nil}
use Rattle.std.proofs.lemmas.List.{take-append-le, get_or_append_left}
use Rattle.std.proofs.lemmas.List as lists
use Rattle.rules.specs.declared.Span.{Span}
use Rattle.rules.specs.Common.{when◌then◌else◌, all, run}
use Rattle.rules.specs.SettingsAndUnitTable.{DIGIT, is}
use Rattle.rules.specs.Evaluation.{spelled, digits_of, attos}
use Rattle.rules.proofs.Laws.Choices.{all_append}
use Rattle.rules.proofs.Laws.Texts.{run_from, run_within}
use Rattle.value.specs.Numbers.{as_word, summed, Counts, counted, places, whole_size, fract_size, Spans, counted_attos, shifted_of, with_attos}
use Rattle.value.specs.Sums.{digits_none}
use Rattle.value.specs.Digits.{ten_pos, ten_grows, ten_sum, run_passes, run_after_zeros, zeros_first, all_take, all_drop, all_left, all_right, take_both, drop_both, slice_sized, slice_after, passes_after, cut_within, spelled_append, spelled_from, spelled_grows, spelled_below, spelled_in_room, summed_many, counted_summed, counts_summed, counts_few}

-- ---- a number as a word of 64 bits

pub word_fits : {n m : ℕ} → n ≡ m → n < 2 ^ 64 → Some n ≡ as_word m
unfolding as_word when◌then◌else◌
word_fits {n} e h = rw (← e, lt-ltb n (2 ^ 64) h)

pub word_too_large : (n : ℕ) → 2 ^ 64 ≤ n → None ≡ as_word n
unfolding as_word when◌then◌else◌
word_too_large n h = rw (le-ltb n (2 ^ 64) h)

pub fits_word : (n : ℕ) {m : ℕ} → Some m ≡ as_word n → m ≡ n
unfolding as_word when◌then◌else◌
fits_word n {m} e = go (ltb n (2 ^ 64)) e
  where
    go : (b : Bool) → Some m ≡ (when b then Some n else None) → m ≡ n
    go true e = cc
    go false e = cc

-- what is no less than a number that is too large is too large
still_too_large : (n m : ℕ) → n ≤ m → None ≡ as_word n → None ≡ as_word m
still_too_large n m h e = go (ltb n (2 ^ 64)) refl
  where
    go : (b : Bool) → ltb n (2 ^ 64) ≡ b → None ≡ as_word m
    go true f = cc (word_fits (refl {a = n}) (ltb-true n (2 ^ 64) f))
    go false f = word_too_large m (le_trans (ltb-false n (2 ^ 64) f) h)

pub zeros_too_large : (n zeros : ℕ) → None ≡ as_word n → None ≡ as_word (n * 10 ^ zeros)
zeros_too_large n zeros e = still_too_large n (n * 10 ^ zeros) (le-mul_of_pos_right n (ten_pos zeros)) e

-- ---- the first places of a number

pub places_none : (ds : List ℕ) → places 0 ds ≡ 0
unfolding places spelled
places_none ds = zero-mul _

-- a number of so many places
pub places_below : (k : ℕ) (ds : List ℕ) → all (is DIGIT) ds ≡ true → places k ds < 10 ^ k
unfolding places
places_below k ds e =
    rw (ten_sum (length (take k ds)) (k - length ds) k (omega (arith, length-take k ds)))
    (mul-lt-mul_of_pos_right (rw (zero-add (length (take k ds))) at (spelled_below 0 0 (take k ds) (all_take (is DIGIT) k ds e) (ten_pos 0))) (ten_pos (k - length ds)))

-- places from left to right: the first a, then b more
pub places_split : (a b : ℕ) (ds : List ℕ) → places (a + b) ds ≡ places a ds * 10 ^ b + places b (drop a ds)
unfolding places spelled
places_split a b ds =
    rw (take-add a b ds, spelled_append 0 (take a ds) (take b (drop a ds)), spelled_from (spelled 0 (take a ds)) (take b (drop a ds)), add-mul)
    (ap₂ ◌+◌ first (go (leb a (length ds)) refl))
  where
    first : spelled 0 (take a ds) * 10 ^ length (take b (drop a ds)) * 10 ^ (a + b - length ds) ≡ spelled 0 (take a ds) * 10 ^ (a - length ds) * 10 ^ b
    first =
        mul_assoc (spelled 0 (take a ds)) (10 ^ length (take b (drop a ds))) (10 ^ (a + b - length ds))
        ∙ ap (λ p. spelled 0 (take a ds) * p)
        (sym (pow-add 10 (length (take b (drop a ds))) (a + b - length ds))
        ∙ ten_sum (a - length ds) b _ (omega (arith, length-take b (drop a ds), length-drop a ds)))
        ∙ sym (mul_assoc (spelled 0 (take a ds)) (10 ^ (a - length ds)) (10 ^ b))

    -- beyond the digits there are none to move
    go : (c : Bool) → leb a (length ds) ≡ c → spelled 0 (take b (drop a ds)) * 10 ^ (a + b - length ds) ≡ spelled 0 (take b (drop a ds)) * 10 ^ (b - length (drop a ds))
    go true e = ap (λ p. spelled 0 (take b (drop a ds)) * 10 ^ p) (omega (arith, leb-true a (length ds) e, length-drop a ds))
    go false e = rw (none) (zero-mul _ ∙ sym (zero-mul _))
      where
        none : spelled 0 (take b (drop a ds)) ≡ 0
        none = rw (drop_of_length-le ds {i = a} (omega (arith, leb-false a (length ds) e)), take-nil b)

-- cut before its last b places
pub places_first : (a b : ℕ) (ds : List ℕ) → all (is DIGIT) ds ≡ true → places (a + b) ds / 10 ^ b ≡ places a ds
places_first a b ds e = rw (places_split a b ds) (digits_div (places a ds) (places_below b (drop a ds) (all_drop (is DIGIT) a ds e)))

-- as many places as there are digits, and zeros
pub places_all : (k : ℕ) (ds : List ℕ) → spelled 0 ds * 10 ^ k ≡ places (length ds + k) ds
unfolding places
places_all k ds = rw (take_all (length ds + k) ds (omega arith)) (ap (λ p. spelled 0 ds * 10 ^ p) (omega arith))

-- what a power of ten leaves of a number: its first places, and none if there are no more than those cut off
pub places_cut : (u d : ℕ) (ds : List ℕ) → all (is DIGIT) ds ≡ true → spelled 0 ds * 10 ^ u / 10 ^ d ≡ places (length ds + u - d) ds
places_cut u d ds e = rw (places_all u ds) (go (leb d (length ds + u)) refl)
  where
    go : (c : Bool) → leb d (length ds + u) ≡ c → places (length ds + u) ds / 10 ^ d ≡ places (length ds + u - d) ds
    go true f =
        let sum : length ds + u ≡ length ds + u - d + d = omega (arith, leb-true d (length ds + u) f) in
        ap (λ k. places k ds / 10 ^ d) sum ∙ places_first (length ds + u - d) d ds e
    go false f =
        let none : length ds + u - d ≡ 0 = omega (arith, leb-false d (length ds + u) f) in
        div-eq_of_lt (lt_of_lt_of_le (places_below (length ds + u) ds e) (ten_grows (omega (arith, leb-false d (length ds + u) f))))
        ∙ sym (ap (λ k. places k ds) none ∙ places_none ds)

-- ---- the digits before a point and those after it

-- the first places of both: those of the first, those that are left of the second, and zeros
pub places_both : (k : ℕ) (xs ys : List ℕ) → places k (xs ++ ys) ≡ spelled (spelled 0 (take k xs)) (take (k - length xs) ys) * 10 ^ (k - length xs - length ys)
unfolding places
places_both k xs ys = rw (take_both k xs ys, spelled_append 0 (take k xs) (take (k - length xs) ys), length-append xs ys, sub-add-eq k (length xs) (length ys))

pub taken_both : (room : ℕ) (xs ys : List ℕ) {front left number over : ℕ} → front ≡ spelled 0 (take room xs) → left ≡ room - length xs → number ≡ spelled front (take left ys) → over ≡ left - length ys → number * 10 ^ over ≡ places room (xs ++ ys)
taken_both room xs ys e f g h = rw (g, h, e, f, places_both room xs ys)

-- no zeros follow where the number is zero, or there is no room left
pub no_zeros : {number room : ℕ} → (number ≡ 0) ⊎ ((number ≡ 0 → ⊥) × (room ≡ 0)) → number ≡ number * 10 ^ room
no_zeros {number} {room} (inl e) = rw e (sym (zero-mul (10 ^ room)))
no_zeros {number} {room} (inr e) = rw e.1 (sym (mul-one number))

-- digits for which there is room leave no more than nineteen places, and zeros fill the room that is left
pub room_left : (n room : ℕ) (ds : List ℕ) → (room ≤ 19) × (n < 10 ^ (19 - room)) → all (is DIGIT) ds ≡ true → (room - length ds ≤ 19) × (spelled n (take room ds) < 10 ^ (19 - (room - length ds)))
room_left n room ds (h, b) d = (omega arith, spelled_in_room 19 n room ds h b d)

pub room_filled : (n room : ℕ) → (room ≤ 19) × (n < 10 ^ (19 - room)) → n * 10 ^ room < 10 ^ 19
room_filled n room (h, b) = rw (ten_sum (19 - room) room 19 (omega arith)) (mul-lt-mul_of_pos_right b (ten_pos room))

-- both as one number: an overflow of the first is one of both
pub both_too_large : (so_far : ℕ) (xs ys : List ℕ) → None ≡ as_word (spelled so_far xs) → None ≡ as_word (spelled so_far (xs ++ ys))
both_too_large so_far xs ys e = rw (spelled_append so_far xs ys) (still_too_large _ _ (spelled_grows _ ys) e)

pub both_on : (so_far : ℕ) (xs ys : List ℕ) {front : ℕ} → Some front ≡ as_word (spelled so_far xs) → spelled front ys ≡ spelled so_far (xs ++ ys)
both_on so_far xs ys e = rw (spelled_append so_far xs ys, ← (fits_word _ e))

module _ (xs ys : List ℕ) (p : all (is DIGIT) xs ≡ true) (q : all (is DIGIT) ys ≡ true) where
  pub both_digits : all (is DIGIT) (xs ++ ys) ≡ true
  both_digits = all_append (is DIGIT) xs ys p q

  -- the sum of many digits that start with no `0` is the first nineteen, and the others go on from it
  pub rest_spelled : 19 ≤ length xs → {number : ℕ} → number ≡ summed 0 (xs ++ ys) → (get_or xs 0 0 ≡ 48 → ⊥) → spelled number (drop 19 xs ++ ys) ≡ spelled 0 (xs ++ ys)
  rest_spelled many sum some =
      rw
      (sum
      ∙ summed_many (xs ++ ys) both_digits (omega (arith, length-append xs ys)) (λ h. some (sym (get_or_append_left xs ys 0 0 (omega arith)) ∙ h))
      ∙ ap (spelled 0) (take-append-le 19 xs ys many))
      (sym (spelled_append 0 (take 19 xs) (drop 19 xs ++ ys)) ∙ ap (spelled 0) (sym (append_assoc (take 19 xs) (drop 19 xs) ys) ∙ ap (λ l. l ++ ys) (take-append-drop 19 xs)))

-- both cut at a point
module _ (point : ℕ) (xs ys : List ℕ) {in_whole in_fract : ℕ} (e : in_whole ≡ min point (length xs)) (f : in_fract ≡ min (point - in_whole) (length ys)) where
  left_of : min (point - in_whole) (length ys) ≡ min (point - length xs) (length ys)
  left_of = rw e (omega arith)

  pub cut_front : take in_whole xs ++ take in_fract ys ≡ take point (xs ++ ys)
  cut_front = rw (f, left_of, e, lists.take_min point xs, lists.take_min (point - length xs) ys, take_both point xs ys)

  pub cut_back : drop in_whole xs ++ drop in_fract ys ≡ drop point (xs ++ ys)
  cut_back = rw (f, left_of, e, lists.drop_min point xs, lists.drop_min (point - length xs) ys, drop_both point xs ys)

-- ---- a number moved by a power of ten

shifted_word : (a : ℕ) → shifted_of a ≡ with_attos (as_word (a / 10 ^ 18)) (a % 10 ^ 18)
unfolding as_word shifted_of when◌then◌else◌
shifted_word a = go (ltb (a / 10 ^ 18) (2 ^ 64))
  where
    go : (b : Bool) → (when b then Some (record { seconds = a / 10 ^ 18; attos = a % 10 ^ 18 }) else None) ≡ with_attos (when b then Some (a / 10 ^ 18) else None) (a % 10 ^ 18)
    go true = refl
    go false = refl

-- so many seconds, as a word, and attoseconds
pub shifted_is : (seconds : ℕ) {a attos : ℕ} → a ≡ seconds * 10 ^ 18 + attos → attos < 10 ^ 18 → {word found : Option ℕ} → word ≡ as_word seconds → word ≡ found → with_attos found attos ≡ shifted_of a
shifted_is seconds {a} {attos} sum below e f =
    sym (ap shifted_of sum ∙ shifted_word (seconds * 10 ^ 18 + attos) ∙ ap₂ with_attos (ap as_word (digits_div seconds below) ∙ sym e ∙ f) (digits_mod seconds below))

-- powers of ten that stand on both sides fall away, and if they are all of the lower ones nothing is cut off
pub powers_both : (n u d k above below : ℕ) → above ≡ u + k → below ≡ d + k → n * 10 ^ u / 10 ^ d ≡ n * 10 ^ above / 10 ^ below
powers_both n u d k above below e f = sym (rw (ten_sum u k above e, ten_sum d k below f, ← (mul_assoc n (10 ^ u) (10 ^ k))) (mul-div-mul_right (n * 10 ^ u) (10 ^ d) (ten_pos k)))

powers_exact : (n u d above : ℕ) → above ≡ u + d → n * 10 ^ u ≡ n * 10 ^ above / 10 ^ d
powers_exact n u d above e = sym (div-one (n * 10 ^ u)) ∙ powers_both n u 0 d above d e (sym (zero-add d))

powers_twice : (n a b : ℕ) → n * 10 ^ a * 10 ^ b ≡ n * 10 ^ (a + b)
powers_twice n a b = mul_assoc n (10 ^ a) (10 ^ b) ∙ ap (λ p. n * p) (sym (pow-add 10 a b))

pub attos_whole : (n f up down : ℕ) → up ≡ f + down → n * 10 ^ 18 ≡ attos n f up down
unfolding attos
attos_whole n f up down e = powers_exact n 18 (f + down) (18 + up) (omega arith)

-- a number that moves by powers of ten either way: zeros are put in, or the last digits are decimals
module _ (n before after : ℕ) where
  pub word_raised : after ≤ before → n * 10 ^ (before - after) * 10 ^ 18 ≡ n * 10 ^ (18 + before) / 10 ^ after
  word_raised h = powers_twice n (before - after) 18 ∙ powers_exact n (before - after + 18) after (18 + before) (omega arith)

  pub word_lowered : before ≤ after → n * 10 ^ 18 / 10 ^ (after - before) ≡ n * 10 ^ (18 + before) / 10 ^ after
  word_lowered h = powers_both n 18 (after - before) before (18 + before) after refl (omega arith)

module _ (n decimals : ℕ) where
  -- at most eighteen decimals are all attoseconds, and with more there are no seconds
  module _ (few : decimals ≤ 18) {power zeros : ℕ} (e : power ≡ 10 ^ decimals) (f : zeros ≡ 10 ^ (18 - decimals)) where
    pub few_sum : n * 10 ^ 18 / 10 ^ decimals ≡ n / power * 10 ^ 18 + n % power * zeros
    few_sum =
        sym (powers_exact n (18 - decimals) decimals 18 (omega arith))
        ∙ ap₂ ◌*◌ (sym (div-add-mod' n power)) (sym f)
        ∙ add-mul (n / power * power) (n % power) zeros
        ∙ ap (λ m. m + n % power * zeros) (mul_assoc (n / power) power zeros ∙ ap (λ p. n / power * p) both)
      where
        both : power * zeros ≡ 10 ^ 18
        both = sym (rw (e, f) (ten_sum decimals (18 - decimals) 18 (omega arith)))

    pub few_below : n % power * zeros < 10 ^ 18
    few_below = rw (e, f, ten_sum decimals (18 - decimals) 18 (omega arith)) (mul-lt-mul_of_pos_right (mod-lt n (ten_pos decimals)) (ten_pos (18 - decimals)))

  module _ (more : 18 < decimals) {power : ℕ} (e : power ≡ 10 ^ (decimals - 18)) where
    pub more_sum : n * 10 ^ 18 / 10 ^ decimals ≡ 0 * 10 ^ 18 + n / power
    more_sum = sym (powers_both n 0 (decimals - 18) 18 18 decimals refl (omega arith)) ∙ rw (mul-one n, e) (sym (zero-add _))

    pub more_below : n < 10 ^ 19 → n / power < 10 ^ 18
    more_below h =
        rw e
        ((div-lt_iff_lt-mul (ten_pos (decimals - 18))).1
        (lt_of_lt_of_le h (rw (← (pow-add 10 18 (decimals - 18))) (ten_grows {i = 19} {j = 18 + (decimals - 18)} (omega arith)))))

    pub more_none : n < 10 ^ 19 → 36 < decimals → n / power ≡ 0
    more_none h most = rw e (div-eq_of_lt (lt_of_lt_of_le h (ten_grows {i = 19} {j = decimals - 18} (omega arith))))

-- digits before a point and after it, as one list, of which so many are before it and so many after it
module _ (ds : List ℕ) (before behind : ℕ) (size : length ds ≡ before + behind) (e : all (is DIGIT) ds ≡ true) where
  module _ {number : ℕ} (counts : Counts number ds) where
    -- beside few digits the number is what counts, and beside many it is their sum, and what counts is what they spell
    pub few_moved : before + behind ≤ 19 → (up down : ℕ) → number * 10 ^ (18 + up) / 10 ^ (behind + down) ≡ attos (counted number ds) behind up down
    unfolding attos
    few_moved few up down = rw (← (counts_few e counts (omega (arith, size))))

    module _ (many : 19 < before + behind) where
      pub many_summed : number ≡ summed 0 ds
      many_summed = counts_summed counts (omega (arith, size))

      pub many_counted : counted number ds ≡ spelled 0 ds
      many_counted = counted_summed ds many_summed

  module _ (up down : ℕ) {point room : ℕ} (here : point ≡ before + up - down) (left : room ≡ 18 - (down - (before + up))) where
    -- A of document 01: its places before the point, and eighteen after it, less the zeros that come first
    moved : attos (spelled 0 ds) behind up down ≡ places point ds * 10 ^ 18 + places room (drop point ds)
    unfolding attos
    moved =
        let sum : length ds + (18 + up) - (behind + down) ≡ point + room = omega (arith, size) in
        places_cut (18 + up) (behind + down) ds e
        ∙ ap (λ k. places k ds) sum
        ∙ places_split point room ds
        ∙ ap (λ k. k + places room (drop point ds)) (go (leb down (before + up)) refl)
      where
        go : (c : Bool) → leb down (before + up) ≡ c → places point ds * 10 ^ room ≡ places point ds * 10 ^ 18
        go true e =
            let all_eighteen : room ≡ 18 = omega (arith, leb-true down (before + up) e) in
            ap (λ k. places point ds * 10 ^ k) all_eighteen
        go false e =
            let none : point ≡ 0 = omega (arith, leb-false down (before + up) e) in
            rw (none, places_none ds) (zero-mul (10 ^ room) ∙ sym (zero-mul (10 ^ 18)))

    -- those before the point are the seconds, if they fit, and the others the attoseconds
    pub moved_is : {front back : List ℕ} {zeros decimals : ℕ} {seconds : Option ℕ} → front ≡ take point ds → back ≡ drop point ds → zeros ≡ point - (before + behind) → seconds ≡ as_word (spelled 0 front * 10 ^ zeros) → decimals ≡ places room back → with_attos seconds decimals ≡ shifted_of (attos (spelled 0 ds) behind up down)
    unfolding places
    moved_is first others none found rest =
        rw (rest, others)
        (shifted_is _ moved
        (lt_of_lt_of_le (places_below room _ (all_drop (is DIGIT) point ds e)) (ten_grows {i = room} {j = 18} (omega arith)))
        (found ∙ ap as_word (rw (first, none, size))) refl)

-- ---- the digits of two spans

module _ {text : List ℕ} {whole : Span} {fract : Span} (s : Spans text whole fract) {xs ys : List ℕ} (e : xs ≡ take (whole.end - whole.start) (drop whole.start text)) (f : ys ≡ take (fract.end - fract.start) (drop fract.start text)) where
  pub spans_digits : xs ++ ys ≡ digits_of text whole fract
  unfolding digits_of
  spans_digits = rw (e, f, slice_sized whole.start whole.end text, slice_sized fract.start fract.end text)

  pub spans_whole_digits : all (is DIGIT) xs ≡ true
  spans_whole_digits = all_left (is DIGIT) xs ys (rw spans_digits s.digits)

  pub spans_fract_digits : all (is DIGIT) ys ≡ true
  spans_fract_digits = all_right (is DIGIT) xs ys (rw spans_digits s.digits)

  spans_behind : length ys ≡ fract_size fract
  spans_behind = rw f (omega (arith, length-take (fract.end - fract.start) (drop fract.start text), length-drop fract.start text, s.fract_ends))

  -- the number moved by powers of ten
  pub spans_attos : (number up down : ℕ) → attos (counted number (xs ++ ys)) (length ys) up down ≡ counted_attos number text whole fract up down
  spans_attos number up down = rw (spans_digits, spans_behind)

-- the digits of each span
abbrev whole_of : List ℕ → Span → List ℕ
whole_of text whole = slice whole.start whole.end text

abbrev fract_of : List ℕ → Span → List ℕ
fract_of text fract = slice fract.start fract.end text

module _ {text : List ℕ} {whole : Span} {fract : Span} (s : Spans text whole fract) where
  whole_length : length (whole_of text whole) ≡ whole_size whole
  whole_length = length-slice whole.start whole.end text s.whole_ends

  fract_length : length (fract_of text fract) ≡ fract_size fract
  fract_length = length-slice fract.start fract.end text s.fract_ends

  digits_length : length (digits_of text whole fract) ≡ whole_size whole + fract_size fract
  unfolding digits_of
  digits_length = length-append (whole_of text whole) (fract_of text fract) ∙ ap₂ ◌+◌ whole_length fract_length

  pub whole_digits : all (is DIGIT) (whole_of text whole) ≡ true
  unfolding digits_of
  whole_digits = all_left (is DIGIT) (whole_of text whole) (fract_of text fract) s.digits

  pub fract_digits : all (is DIGIT) (fract_of text fract) ≡ true
  unfolding digits_of
  fract_digits = all_right (is DIGIT) (whole_of text whole) (fract_of text fract) s.digits

  -- after the first k whole digits the others are a typed number, whose digits go on from those
  module _ (k : ℕ) {cut : ℕ} (at : cut ≡ whole.start + min k (whole_size whole)) where
    pub spans_rest : Spans text (record { start = cut; end = whole.end }) fract
    unfolding digits_of
    spans_rest = record {
      whole_starts = cut_within whole.start whole.end k at s.whole_starts;
      whole_ends = s.whole_ends;
      fract_starts = s.fract_starts;
      fract_ends = s.fract_ends;
      digits = all_append (is DIGIT) _ _ (passes_after whole.start whole.end k text at (is DIGIT) whole_digits) fract_digits;
    }

    pub spelled_rest : {first : ℕ} → first ≡ spelled 0 (take k (whole_of text whole)) → spelled first (digits_of text (record { start = cut; end = whole.end }) fract) ≡ spelled 0 (digits_of text whole fract)
    unfolding digits_of
    spelled_rest e =
        rw (e, ← (slice_after whole.start whole.end k text at), ← (spelled_append 0 (take k (whole_of text whole)) (drop k (whole_of text whole) ++ fract_of text fract)), ← (append_assoc (take k (whole_of text whole)) (drop k (whole_of text whole)) (fract_of text fract)), take-append-drop k (whole_of text whole))

  -- the sum of many digits that start with no `0` is the first nineteen
  pub sum_first : {number : ℕ} → number ≡ summed 0 (digits_of text whole fract) → 19 ≤ whole_size whole → (get_or text whole.start 0 ≡ 48 → ⊥) → number ≡ spelled 0 (take 19 (whole_of text whole))
  unfolding digits_of
  sum_first sum many some =
      let size = whole_length in
      let here : get_or (digits_of text whole fract) 0 0 ≡ get_or text whole.start 0 = rw (slice-cons whole.start whole.end text 0 (omega arith) s.whole_ends) in
      sum
      ∙ summed_many (digits_of text whole fract) s.digits (omega (arith, digits_length)) (λ e. some (sym here ∙ e))
      ∙ rw (take-append-le 19 (whole_of text whole) (fract_of text fract) (omega arith))

-- ---- what is read is a typed number

module _ (text : List ℕ) (place next : ℕ) (h : place ≤ length text) (k : next ≤ length text) where
  read_digits : all (is DIGIT) (slice (run (eqb 48) text place) (run (is DIGIT) text place) text) ≡ true
  read_digits = rw (← (run_after_zeros text place)) (run_passes (is DIGIT) text (run (eqb 48) text place))

  -- with no fraction, and with one
  pub spans_whole : Spans text (record { start = run (eqb 48) text place; end = run (is DIGIT) text place }) (record { start = next; end = next })
  unfolding digits_of all
  spans_whole = record {
    whole_starts = zeros_first text place;
    whole_ends = run_within (is DIGIT) text place h;
    fract_starts = le_refl next;
    fract_ends = k;
    digits = all_append (is DIGIT) (slice (run (eqb 48) text place) (run (is DIGIT) text place) text) (slice next next text) read_digits (rw (slice_empty next text));
  }

  pub spans_both : Spans text (record { start = run (eqb 48) text place; end = run (is DIGIT) text place }) (record { start = next; end = run (is DIGIT) text next })
  unfolding digits_of
  spans_both = record {
    whole_starts = zeros_first text place;
    whole_ends = run_within (is DIGIT) text place h;
    fract_starts = run_from (is DIGIT) text next;
    fract_ends = run_within (is DIGIT) text next k;
    digits = all_append (is DIGIT) _ _ read_digits (run_passes (is DIGIT) text next);
  }

-- and with no digits at all
pub spans_none : (text : List ℕ) (place : ℕ) → place ≤ length text → Spans text (record { start = place; end = place }) (record { start = place; end = place })
unfolding all
spans_none text place h = record {
  whole_starts = le_refl place;
  whole_ends = h;
  fract_starts = le_refl place;
  fract_ends = h;
  digits = rw (digits_none text place);
}
