-- Laws of the stored form: digits and bytes one by one, and there and back. Assumes nothing.
use Rattle.std.specs.Prelude.{◌≡◌, refl, true, false, ◌&&◌, ℕ, zero, suc, ◌+◌, ◌*◌, ◌-◌, ◌/◌, ◌%◌, ◌≤◌, ◌<◌, eqb, get_or, take, drop, set}
use Rattle.std.proofs.Common.{sym, ◌∙◌, le_of_suc-le-suc, add-one, arith, lit<, length-append, take-append-drop, drop_of_length-le, drop-cons, take-suc, get_or-take, length-take-le}
use Rattle.std.proofs.Math.Path.{ap}
use mathlib.Core.List.{List, [], ◌∷◌, ◌++◌}
use Rattle.std.proofs.Math.ListN.{length, length-take}
use Rattle.std.proofs.lemmas.List.{set_at}
use Rattle.std.proofs.Math.Seq.{append_snoc, take_at, get_or_at}
use borrow.Author.Tests.{lt-ltb, le-ltb, ltb-true, eq-eqb, eqb-true}
use Rattle.rules.specs.Common.{when◌then◌else◌, between, all}
use Rattle.rules.specs.SettingsAndUnitTable.{row_size_in, hexadecimal, two_digits, stored}
use Rattle.rules.proofs.Laws.Choices.{if_either, and_left, and_right, all_first, all_others}
use Rattle.rules.proofs.Laws.Tables.{listed, entry}
use Rattle.stored.specs.Lines.{digits_size_in, line_size_in, digits_size, digit_value, spells, paired, line_accepted_in, restored_in, stores, line_after, restores, row_after}
use Rattle.rules.specs.Laws.Lists.{Bytes}
use Rattle.rules.proofs.Laws.Tests.{between_from, between_to, between_in, between_above}
use Rattle.rules.proofs.Laws.Lists.{all_index}

-- ---- one more element at the end of what is written

pub put_one : (p l : List ℕ) (n a : ℕ) → length p ≡ n → n < length l → set (p ++ drop n l) n a ≡ (p ++ (a ∷ [])) ++ drop (n + 1) l
put_one p l n a e h = rw (drop-cons l n 0 h, set_at p (get_or l n 0) (drop (suc n) l) a n e, add-one n) (sym (append_snoc p a (drop (suc n) l)))

pub two_digits_append : (xs ys : List ℕ) → two_digits (xs ++ ys) ≡ two_digits xs ++ two_digits ys
unfolding two_digits
two_digits_append [] ys = refl
two_digits_append (x ∷ xs) ys = rw (two_digits_append xs ys)

pub two_digits_more : (l : List ℕ) (i : ℕ) → i < length l → two_digits (take (i + 1) l) ≡ (two_digits (take i l) ++ (hexadecimal (get_or l i 0 / 16) ∷ [])) ++ (hexadecimal (get_or l i 0 % 16) ∷ [])
unfolding two_digits
two_digits_more l i h = rw (add-one i, take-suc l i 0 h, two_digits_append) (sym (append_snoc (two_digits (take i l)) (hexadecimal (get_or l i 0 / 16)) (hexadecimal (get_or l i 0 % 16) ∷ [])))

pub length_two_digits : (l : List ℕ) → length (two_digits l) ≡ 2 * length l
unfolding two_digits
length_two_digits [] = refl
length_two_digits (x ∷ l) = omega (arith, length_two_digits l)

-- two digits more on the line
pub digits_turn : (row before line : List ℕ) (i : ℕ) → i < length row → 2 * i + 1 < length before → line ≡ two_digits (take i row) ++ drop (2 * i) before → set (set line (2 * i) (hexadecimal (get_or row i 0 / 16))) (2 * i + 1) (hexadecimal (get_or row i 0 % 16)) ≡ two_digits (take (i + 1) row) ++ drop (2 * (i + 1)) before
digits_turn row before line i below room e =
    let p : List ℕ = two_digits (take i row) in
    let a : ℕ = hexadecimal (get_or row i 0 / 16) in
    let long : length p ≡ 2 * i = length_two_digits (take i row) ∙ ap (λ k. 2 * k) (length-take-le i row (omega arith)) in
    let longer : length (p ++ (a ∷ [])) ≡ 2 * i + 1 = length-append p (a ∷ []) ∙ ap (λ k. k + 1) long in
    let next : 2 * i + 1 + 1 ≡ 2 * (i + 1) = omega arith in
    rw (e, put_one p before (2 * i) a long (omega arith), put_one (p ++ (a ∷ [])) before (2 * i + 1) (hexadecimal (get_or row i 0 % 16)) longer (omega arith), two_digits_more row i below, next)

-- ---- what a digit stands for

module _ (b : ℕ) where
  pub value_low : 48 ≤ b → b ≤ 57 → digit_value b ≡ b - 48
  unfolding digit_value when◌then◌else◌
  value_low l h = rw (between_in 48 57 b l h)

  pub value_high : 97 ≤ b → b ≤ 102 → digit_value b ≡ b - 87
  unfolding digit_value when◌then◌else◌
  value_high l h = rw (between_above 48 57 b (omega arith), between_in 97 102 b l h)

  pub value_none : between 48 57 b ≡ false → between 97 102 b ≡ false → digit_value b ≡ 16
  unfolding digit_value when◌then◌else◌
  value_none l h = rw (l, h)

-- ---- bytes from digits, two by two

double : ℕ → ℕ
double zero = zero
double (suc i) = suc (suc (double i))

doubled : (i : ℕ) → 2 * i ≡ double i
unfolding double
doubled zero = refl
doubled (suc i) = omega (arith, doubled i)

paired_two : (i : ℕ) (l : List ℕ) → suc (double i) < length l → paired (take (suc (suc (double i))) l) ≡ paired (take (double i) l) ++ ((digit_value (get_or l (double i) 0) * 16 + digit_value (get_or l (suc (double i)) 0)) ∷ [])
unfolding double paired
paired_two i [] h = absurd (omega arith)
paired_two i (a ∷ []) h = absurd (omega arith)
paired_two zero (a ∷ b ∷ l) h = refl
paired_two (suc i) (a ∷ b ∷ l) h = rw (paired_two i l (le_of_suc-le-suc (le_of_suc-le-suc h)))

pub paired_more : (i : ℕ) (l : List ℕ) → 2 * i + 1 < length l → paired (take (2 * (i + 1)) l) ≡ paired (take (2 * i) l) ++ ((digit_value (get_or l (2 * i) 0) * 16 + digit_value (get_or l (2 * i + 1) 0)) ∷ [])
paired_more i l h =
    let one : 2 * i + 1 ≡ suc (double i) = omega (arith, doubled i) in
    let two : 2 * (i + 1) ≡ suc (suc (double i)) = omega (arith, doubled i) in
    rw (one, two, doubled i) (paired_two i l (omega (arith, doubled i)))

length_paired_two : (i : ℕ) (l : List ℕ) → double i ≤ length l → length (paired (take (double i) l)) ≡ i
unfolding double paired
length_paired_two zero l h = refl
length_paired_two (suc i) [] h = absurd (omega arith)
length_paired_two (suc i) (a ∷ []) h = absurd (omega arith)
length_paired_two (suc i) (a ∷ b ∷ l) h = ap suc (length_paired_two i l (le_of_suc-le-suc (le_of_suc-le-suc h)))

pub length_paired : (i : ℕ) (l : List ℕ) → 2 * i ≤ length l → length (paired (take (2 * i) l)) ≡ i
length_paired i l h = rw (doubled i) (length_paired_two i l (omega (arith, doubled i)))

-- a byte more in the row
pub bytes_turn : (line before row : List ℕ) (i : ℕ) → 2 * i + 1 < length line → i < length before → row ≡ paired (take (2 * i) line) ++ drop i before → set row i (digit_value (get_or line (2 * i) 0) * 16 + digit_value (get_or line (2 * i + 1) 0)) ≡ paired (take (2 * (i + 1)) line) ++ drop (i + 1) before
bytes_turn line before row i below room e =
    rw (e, put_one (paired (take (2 * i) line)) before i (digit_value (get_or line (2 * i) 0) * 16 + digit_value (get_or line (2 * i + 1) 0)) (length_paired i line (omega arith)) room, paired_more i line below)

pub digit_below : (line : List ℕ) (k : ℕ) → all spells (take digits_size line) ≡ true → digits_size ≤ length line → k < digits_size → digit_value (get_or line k 0) < 16
unfolding spells
digit_below line k e long h =
    let here : spells (get_or (take digits_size line) k 0) ≡ true = all_index spells (take digits_size line) k 0 e (simp length-take (omega arith)) in
    ltb-true (digit_value (get_or line k 0)) 16 (rw (get_or-take digits_size line k 0 h) at here)

-- what is refused changes nothing
pub line_kept : (row line : List ℕ) → stores row line ≡ false → (false ≡ stores row line) × (line ≡ line_after row line)
unfolding line_after when◌then◌else◌
line_kept row line e = (sym e, rw e)

pub row_kept : (line row : List ℕ) → restores line row ≡ false → (false ≡ restores line row) × (row ≡ row_after line row)
unfolding row_after when◌then◌else◌
row_kept line row e = (sym e, rw e)

-- ---- there and back

value_hexadecimal : (d : ℕ) → d < 16 → digit_value (hexadecimal d) ≡ d
unfolding listed digit_value hexadecimal between when◌then◌else◌
value_hexadecimal d h =
    let table : List ℕ = 0 ∷ 1 ∷ 2 ∷ 3 ∷ 4 ∷ 5 ∷ 6 ∷ 7 ∷ 8 ∷ 9 ∷ 10 ∷ 11 ∷ 12 ∷ 13 ∷ 14 ∷ 15 ∷ [] in
    sym (entry (λ k. digit_value (hexadecimal k)) 16 table refl d h) ∙ entry (λ k. k) 16 table refl d h

hexadecimal_digit : (d : ℕ) → d < 10 → hexadecimal d ≡ 48 + d
unfolding hexadecimal when◌then◌else◌
hexadecimal_digit d h = rw (lt-ltb d 10 h)

hexadecimal_letter : (d : ℕ) → 10 ≤ d → hexadecimal d ≡ 87 + d
unfolding hexadecimal when◌then◌else◌
hexadecimal_letter d h = rw (le-ltb d 10 h)

hexadecimal_value : (b : ℕ) → digit_value b < 16 → hexadecimal (digit_value b) ≡ b
unfolding digit_value
hexadecimal_value b =
    if_either (λ x. x < 16 → hexadecimal x ≡ b) (between 48 57 b)
    (λ e _. low (between_from 48 57 b e) (between_to 48 57 b e))
    (λ _. if_either (λ x. x < 16 → hexadecimal x ≡ b) (between 97 102 b)
    (λ e _. high (between_from 97 102 b e) (between_to 97 102 b e))
    (λ _ h. absurd (omega arith)))
  where
    low : 48 ≤ b → b ≤ 57 → hexadecimal (b - 48) ≡ b
    low from to = omega (arith, hexadecimal_digit (b - 48) (omega arith))

    high : 97 ≤ b → b ≤ 102 → hexadecimal (b - 87) ≡ b
    high from to = omega (arith, hexadecimal_letter (b - 87) (omega arith))

spells_hexadecimal : (d : ℕ) → d < 16 → spells (hexadecimal d) ≡ true
unfolding spells
spells_hexadecimal d h = lt-ltb (digit_value (hexadecimal d)) 16 (rw (value_hexadecimal d h) h)

high_digit : (b : ℕ) → b < 256 → b / 16 < 16
high_digit b h = omega arith

low_digit : (b : ℕ) → b % 16 < 16
low_digit b = omega arith

spells_two_digits : (l : List ℕ) → Bytes l → all spells (two_digits l) ≡ true
unfolding all two_digits
spells_two_digits [] p = refl
spells_two_digits (b ∷ l) p = rw (spells_hexadecimal (b / 16) (high_digit b (p 0)), spells_hexadecimal (b % 16) (low_digit b)) (spells_two_digits l (λ k. p (suc k)))

paired_two_digits : (l : List ℕ) → Bytes l → paired (two_digits l) ≡ l
unfolding paired two_digits
paired_two_digits [] p = refl
paired_two_digits (b ∷ l) p =
    let whole : b / 16 * 16 + b % 16 ≡ b = omega arith in
    rw (value_hexadecimal (b / 16) (high_digit b (p 0)), value_hexadecimal (b % 16) (low_digit b), whole, paired_two_digits l (λ k. p (suc k)))

module _ (room : ℕ) (r : List ℕ) (long : length r ≡ row_size_in room) (p : Bytes r) where
  digits_long : length (two_digits r) ≡ digits_size_in room
  digits_long = length_two_digits r ∙ ap (λ n. 2 * n) long

  -- a row stored is accepted
  pub stored_accepted : line_accepted_in room (stored r) ≡ true
  unfolding line_accepted_in stored
  stored_accepted =
      rw (
        eq-eqb (length (two_digits r ++ (10 ∷ []))) (line_size_in room) (length-append (two_digits r) (10 ∷ []) ∙ ap (λ n. n + 1) digits_long),
        get_or_at (two_digits r) 10 [] 0 (digits_size_in room) digits_long,
        take_at (two_digits r) (10 ∷ []) (digits_size_in room) digits_long,
      )
      (spells_two_digits r p)

  -- and comes back as it was
  pub restored_stored : restored_in room (stored r) ≡ r
  unfolding restored_in stored
  restored_stored = rw (take_at (two_digits r) (10 ∷ []) (digits_size_in room) digits_long) (paired_two_digits r p)

value_of_spelled : (b : ℕ) → spells b ≡ true → digit_value b < 16
unfolding spells
value_of_spelled b e = ltb-true (digit_value b) 16 e

two_digits_paired : (n : ℕ) (l : List ℕ) → length l ≡ double n → all spells l ≡ true → two_digits (paired l) ≡ l
unfolding paired two_digits double
two_digits_paired n [] h e = refl
two_digits_paired zero (a ∷ []) h e = absurd (omega arith)
two_digits_paired (suc n) (a ∷ []) h e = absurd (omega arith)
two_digits_paired zero (a ∷ b ∷ l) h e = absurd (omega arith)
two_digits_paired (suc n) (a ∷ b ∷ l) h e =
    let others = all_others spells a (b ∷ l) e in
    let va : digit_value a < 16 = value_of_spelled a (all_first spells a (b ∷ l) e) in
    let vb : digit_value b < 16 = value_of_spelled b (all_first spells b l others) in
    let high : (digit_value a * 16 + digit_value b) / 16 ≡ digit_value a = omega arith in
    let low : (digit_value a * 16 + digit_value b) % 16 ≡ digit_value b = omega arith in
    rw (high, low, hexadecimal_value a va, hexadecimal_value b vb, two_digits_paired n l (omega arith) (all_others spells b l others))

bytes_paired : (l : List ℕ) → all spells l ≡ true → Bytes (paired l)
unfolding paired
bytes_paired [] e k = lit< tt
bytes_paired (a ∷ []) e k = lit< tt
bytes_paired (a ∷ b ∷ l) e zero =
    let others = all_others spells a (b ∷ l) e in
    omega (arith, value_of_spelled a (all_first spells a (b ∷ l) e), value_of_spelled b (all_first spells b l others))
bytes_paired (a ∷ b ∷ l) e (suc k) = bytes_paired l (all_others spells b l (all_others spells a (b ∷ l) e)) k

module _ (room : ℕ) (line : List ℕ) (good : line_accepted_in room line ≡ true) where
  pub line_long : length line ≡ line_size_in room
  unfolding line_accepted_in
  line_long = eqb-true (length line) (line_size_in room) (and_left (eqb (length line) (line_size_in room)) (eqb (get_or line (digits_size_in room) 0) 10 && all spells (take (digits_size_in room) line)) good)

  line_rest : (eqb (get_or line (digits_size_in room) 0) 10 && all spells (take (digits_size_in room) line)) ≡ true
  unfolding line_accepted_in
  line_rest = and_right (eqb (length line) (line_size_in room)) (eqb (get_or line (digits_size_in room) 0) 10 && all spells (take (digits_size_in room) line)) good

  pub line_ends : drop (digits_size_in room) line ≡ 10 ∷ []
  line_ends =
      let newline : get_or line (digits_size_in room) 0 ≡ 10 = eqb-true (get_or line (digits_size_in room) 0) 10 (and_left (eqb (get_or line (digits_size_in room) 0) 10) (all spells (take (digits_size_in room) line)) line_rest) in
      rw (drop-cons line (digits_size_in room) 0 (omega (arith, line_long)), newline, drop_of_length-le line {i = suc (digits_size_in room)} (omega (arith, line_long)))

  pub line_spelled : all spells (take (digits_size_in room) line) ≡ true
  line_spelled = and_right (eqb (get_or line (digits_size_in room) 0) 10) (all spells (take (digits_size_in room) line)) line_rest

  -- a line that is accepted is a row stored: that of its bytes, as many as a row has
  pub stored_restored : stored (restored_in room line) ≡ line
  unfolding stored restored_in double
  stored_restored =
      let long : length (take (digits_size_in room) line) ≡ double (row_size_in room) = simp length-take (omega (arith, line_long, doubled (row_size_in room))) in
      rw (two_digits_paired (row_size_in room) (take (digits_size_in room) line) long line_spelled, ← line_ends) (take-append-drop (digits_size_in room) line)

  pub length_restored : length (restored_in room line) ≡ row_size_in room
  unfolding restored_in
  length_restored = length_paired (row_size_in room) line (omega (arith, line_long))

  pub bytes_restored : Bytes (restored_in room line)
  unfolding restored_in
  bytes_restored = bytes_paired (take (digits_size_in room) line) line_spelled
