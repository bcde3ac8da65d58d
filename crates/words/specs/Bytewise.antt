-- Arithmetic on all bytes of a number at once. Assumes nothing.
use Rattle.std.specs.Prelude.{◌≡◌, refl, Bool, true, false, ◌&&◌, List, [], ◌∷◌, ℕ, zero, suc, ◌+◌, ◌*◌, ◌-◌, ◌/◌, ◌%◌, ◌^◌, ◌≤◌, ◌<◌, length, take}
use Rattle.std.proofs.Common.{sym, ap, ap₂, ◌∙◌, mod-eq_of_lt, pow-suc, arith, lit<, le-leb}
use Rattle.std.specs.Int.Bits.{bit_and, bit_or, bit_xor}
use Rattle.std.proofs.lemmas.Nat.{and_block, or_block, xor_block, and_le_r, or_lt, xor_lt}
use Rattle.std.proofs.lemmas.Nat.Bits.{and_high}
use Rattle.rules.specs.Common.{when◌then◌else◌, all, between}
use Rattle.rules.specs.SettingsAndUnitTable.{LETTER, class, is, low_first}
use Rattle.rules.proofs.Laws.Choices.{and_both}
use Rattle.rules.specs.Laws.Lists.{Bytes}
use Rattle.rules.proofs.Laws.Tables.{listed, entry}

-- so many bytes that are all the same, as a number
unfoldable pub repeated : ℕ → ℕ → ℕ
repeated b zero = 0
repeated b (suc n) = b + 256 * repeated b n

above : (x y : ℕ) → x + 256 * y ≡ y * 2 ^ 8 + x
above x y = omega arith

-- an operation that goes bit by bit takes the first byte apart from the others
module _ (op : ℕ → ℕ → ℕ) (block : (rest more b m : ℕ) → b < 256 → m < 256 → op (rest * 2 ^ 8 + b) (more * 2 ^ 8 + m) ≡ op rest more * 2 ^ 8 + op b m) where
  first_apart : (b m rest more : ℕ) → b < 256 → m < 256 → op (b + 256 * rest) (m + 256 * more) ≡ op b m + 256 * op rest more
  first_apart b m rest more p q = ap₂ op (above b rest) (above m more) ∙ block rest more b m p q ∙ sym (above (op b m) (op rest more))

-- a byte of which the high half is 3
high_three : (b : ℕ) → b < 256 → bit_and b 240 ≡ 48 → b / 16 ≡ 3
high_three b h high =
    let below : b / 16 < 16 = omega arith in
    let half : b / 16 % 16 * 16 ≡ 48 = sym (and_high b 4 4) ∙ high in
    omega (arith, mod-eq_of_lt below)

-- is a digit, if it and 6 stay below 64
digit : (b : ℕ) → b < 256 → bit_and b 240 ≡ 48 → bit_and (b + 6) 64 ≡ 0 → between 48 57 b ≡ true
unfolding between
digit b h high low =
    let three : b / 16 ≡ 3 = high_three b h high in
    let few : (b + 6) / 64 < 2 = omega arith in
    let carried : (b + 6) / 64 % 2 * 64 ≡ 0 = sym (and_high (b + 6) 1 6) ∙ low in
    let none : (b + 6) / 64 ≡ 0 = omega (arith, mod-eq_of_lt few) in
    and_both (le-leb 48 b (omega arith)) (le-leb b 57 (omega arith))

-- so of all bytes at once

-- the first byte's high half, and the others'
halves :
    (b : ℕ) (bytes : List ℕ) → b < 256
    → bit_and (b + 256 * low_first bytes) (240 + 256 * repeated 240 (length bytes)) ≡ 48 + 256 * repeated 48 (length bytes)
    → (bit_and b 240 ≡ 48) × (bit_and (low_first bytes) (repeated 240 (length bytes)) ≡ repeated 48 (length bytes))
halves b bytes here high =
    let first : bit_and b 240 + 256 * bit_and (low_first bytes) (repeated 240 (length bytes)) ≡ 48 + 256 * repeated 48 (length bytes) =
    sym (first_apart bit_and (and_block 8) b 240 (low_first bytes) (repeated 240 (length bytes)) here (lit< tt)) ∙ high in
    (omega (arith, and_le_r b 240), omega (arith, and_le_r b 240))

-- 6 more in each carries out of none
pub sixes_fit :
    (bytes : List ℕ)
    → Bytes bytes
    → bit_and (low_first bytes) (repeated 240 (length bytes)) ≡ repeated 48 (length bytes)
    → low_first bytes + repeated 6 (length bytes) < 256 ^ length bytes
unfolding low_first repeated
sixes_fit [] p high = lit< tt
sixes_fit (b ∷ bytes) p high =
    let (here, others) = halves b bytes (p 0) high in
    let longer : 256 ^ suc (length bytes) ≡ 256 ^ length bytes * 256 = pow-suc 256 (length bytes) in
    omega (arith, high_three b (p 0) here, sixes_fit bytes (λ k. p (suc k)) others)

pub digits_only :
    (bytes : List ℕ)
    → Bytes bytes
    → bit_and (low_first bytes) (repeated 240 (length bytes)) ≡ repeated 48 (length bytes)
    → bit_and (low_first bytes + repeated 6 (length bytes)) (repeated 64 (length bytes)) ≡ 0
    → all (between 48 57) bytes ≡ true
unfolding all low_first repeated
digits_only [] p high low = refl
digits_only (b ∷ bytes) p high low =
    let n : ℕ = length bytes in
    let number : ℕ = low_first bytes in
    let (here, others) = halves b bytes (p 0) high in
    let sixes : b + 256 * number + (6 + 256 * repeated 6 n) ≡ b + 6 + 256 * (number + repeated 6 n) = omega arith in
    let second : bit_and (b + 6) 64 + 256 * bit_and (number + repeated 6 n) (repeated 64 n) ≡ 0 =
    sym (first_apart bit_and (and_block 8) (b + 6) 64 (number + repeated 6 n) (repeated 64 n) (omega (arith, high_three b (p 0) here)) (lit< tt))
    ∙ ap (λ x. bit_and x (64 + 256 * repeated 64 n)) (sym sixes)
    ∙ low in
    and_both (digit b (p 0) here (omega arith)) (digits_only bytes (λ k. p (suc k)) others (omega arith))

-- eight of them
pub eight_sixes_fit : (bytes : List ℕ) → length bytes ≡ 8 → Bytes bytes → bit_and (low_first bytes) 17361641481138401520 ≡ 3472328296227680304 → low_first bytes + 434041037028460038 < 2 ^ 64
unfolding repeated
eight_sixes_fit bytes eight p high = rw eight at (sixes_fit bytes p (rw eight high))

pub eight_digits_only :
    (bytes : List ℕ)
    → length bytes ≡ 8
    → Bytes bytes
    → bit_and (low_first bytes) 17361641481138401520 ≡ 3472328296227680304
    → bit_and (low_first bytes + 434041037028460038) 4629771061636907072 ≡ 0
    → all (between 48 57) bytes ≡ true
unfolding repeated
eight_digits_only bytes eight p high low = digits_only bytes p (rw eight high) (rw eight low)

-- ---- one byte, so many times

same_bytes : (b : ℕ) → b < 256 → (bytes : List ℕ) → Bytes bytes → low_first bytes ≡ repeated b (length bytes) → all (between b b) bytes ≡ true
unfolding all between low_first repeated
same_bytes b h [] p e = refl
same_bytes b h (x ∷ bytes) p e =
    let here : x ≡ b = omega (arith, p 0) in
    and_both (and_both (le-leb b x (omega arith)) (le-leb x b (omega arith))) (same_bytes b h bytes (λ k. p (suc k)) (omega (arith, p 0)))

pub eight_zeros_only : (bytes : List ℕ) → length bytes ≡ 8 → Bytes bytes → low_first bytes ≡ 3472328296227680304 → all (between 48 48) bytes ≡ true
unfolding repeated
eight_zeros_only bytes eight p e = same_bytes 48 (lit< tt) bytes p (rw eight e)

-- ---- letters, by the high bit of each byte

-- of each byte that is one
unfoldable pub marked : List ℕ → ℕ
marked [] = 0
marked (b ∷ bytes) = (when is LETTER b then 128 else 0) + 256 * marked bytes

-- a byte below 128 as a small letter, with what `a` lacks of 128, and with what the byte after `z` does
abbrev mark_of : ℕ → ℕ
mark_of b = bit_and (bit_xor (bit_or b 32 + 31) (bit_or b 32 + 5)) 128

one_mark : (b : ℕ) → b < 128 → mark_of b ≡ (when is LETTER b then 128 else 0)
unfolding listed is class between when◌then◌else◌
one_mark b h =
    let table : List ℕ = listed (λ b. when is LETTER b then 128 else 0) 0 128 in
    sym (entry mark_of 128 table refl b h) ∙ entry (λ b. when is LETTER b then 128 else 0) 128 table refl b h

-- none is from 128 on: the first, and the others
below_128 : (b : ℕ) (bytes : List ℕ) → b < 256 → bit_and (b + 256 * low_first bytes) (128 + 256 * repeated 128 (length bytes)) ≡ 0 → (b < 128) × (bit_and (low_first bytes) (repeated 128 (length bytes)) ≡ 0)
below_128 b bytes here e =
    let both : bit_and b 128 + 256 * bit_and (low_first bytes) (repeated 128 (length bytes)) ≡ 0 =
    sym (first_apart bit_and (and_block 8) b 128 (low_first bytes) (repeated 128 (length bytes)) here (lit< tt)) ∙ e in
    let bit : b / 128 % 2 * 128 ≡ 0 = sym (and_high b 1 7) ∙ (omega arith) in
    let half : b / 128 < 2 = omega arith in
    (omega (arith, mod-eq_of_lt half), omega arith)

-- the small letters, all at once
abbrev small : List ℕ → ℕ
small bytes = bit_or (low_first bytes) (repeated 32 (length bytes))

small_first : (b : ℕ) (bytes : List ℕ) (add : ℕ) → b < 128 → bit_or (b + 256 * low_first bytes) (32 + 256 * repeated 32 (length bytes)) + (add + 256 * repeated add (length bytes)) ≡ bit_or b 32 + add + 256 * (small bytes + repeated add (length bytes))
small_first b bytes add h = rw (first_apart bit_or (or_block 8) b 32 (low_first bytes) (repeated 32 (length bytes)) (omega arith) (lit< tt)) (omega arith)

-- what is added carries out of none
pub small_fits : (add : ℕ) → add < 128 → (bytes : List ℕ) → Bytes bytes → bit_and (low_first bytes) (repeated 128 (length bytes)) ≡ 0 → small bytes + repeated add (length bytes) < 256 ^ length bytes
unfolding low_first repeated
small_fits add few [] p e = lit< tt
small_fits add few (b ∷ bytes) p e =
    let (here, others) = below_128 b bytes (p 0) e in
    let longer : 256 ^ suc (length bytes) ≡ 256 ^ length bytes * 256 = pow-suc 256 (length bytes) in
    rw (small_first b bytes add here) (omega (arith, or_lt 7 b 32 here (lit< tt), small_fits add few bytes (λ k. p (suc k)) others))

pub marks_are :
    (bytes : List ℕ) → Bytes bytes → bit_and (low_first bytes) (repeated 128 (length bytes)) ≡ 0
    → bit_and (bit_xor (small bytes + repeated 31 (length bytes)) (small bytes + repeated 5 (length bytes))) (repeated 128 (length bytes)) ≡ marked bytes
unfolding low_first repeated marked
marks_are [] p e = refl
marks_are (b ∷ bytes) p e =
    let n : ℕ = length bytes in
    let (here, others) = below_128 b bytes (p 0) e in
    let few : bit_or b 32 < 128 = or_lt 7 b 32 here (lit< tt) in
    let rest : ℕ = bit_xor (small bytes + repeated 31 n) (small bytes + repeated 5 n) in
    ap₂ (λ x y. bit_and (bit_xor x y) (128 + 256 * repeated 128 n)) (small_first b bytes 31 here) (small_first b bytes 5 here)
    ∙ ap (λ x. bit_and x (128 + 256 * repeated 128 n)) (first_apart bit_xor (xor_block 8) (bit_or b 32 + 31) (bit_or b 32 + 5) (small bytes + repeated 31 n) (small bytes + repeated 5 n) (omega arith) (omega arith))
    ∙ first_apart bit_and (and_block 8) (bit_xor (bit_or b 32 + 31) (bit_or b 32 + 5)) 128 rest (repeated 128 n) (xor_lt 8 (bit_or b 32 + 31) (bit_or b 32 + 5) (omega arith) (omega arith)) (lit< tt)
    ∙ ap₂ (λ x y. x + 256 * y) (one_mark b here) (marks_are bytes (λ k. p (suc k)) others)

-- where the marks are those of the first n, these are letters
pub marked_letters : (bytes : List ℕ) (n : ℕ) → n ≤ length bytes → marked bytes ≡ repeated 128 n → all (is LETTER) (take n bytes) ≡ true
unfolding all marked repeated when◌then◌else◌
marked_letters bytes zero h e = refl
marked_letters [] (suc n) h e = absurd (omega arith)
marked_letters (b ∷ bytes) (suc n) h e = go (is LETTER b) e (marked_letters bytes n (omega arith))
  where
    go :
        (letter : Bool) → (when letter then 128 else 0) + 256 * marked bytes ≡ 128 + 256 * repeated 128 n
        → (marked bytes ≡ repeated 128 n → all (is LETTER) (take n bytes) ≡ true)
        → (letter && all (is LETTER) (take n bytes)) ≡ true
    go true e more = more (omega arith)
    go false e more = absurd (omega arith)

-- eight of them
pub eight_small_fit : (bytes : List ℕ) → length bytes ≡ 8 → Bytes bytes → bit_and (low_first bytes) 9259542123273814144 ≡ 0 → bit_or (low_first bytes) 2314885530818453536 + 2242545357980376863 < 2 ^ 64
unfolding repeated
eight_small_fit bytes eight p e = rw eight at (small_fits 31 (lit< tt) bytes p (rw eight e))

pub eight_marked :
    (bytes : List ℕ) → length bytes ≡ 8 → Bytes bytes → bit_and (low_first bytes) 9259542123273814144 ≡ 0
    → bit_and (bit_xor (bit_or (low_first bytes) 2314885530818453536 + 2242545357980376863) (bit_or (low_first bytes) 2314885530818453536 + 361700864190383365)) 9259542123273814144 ≡ marked bytes
unfolding repeated
eight_marked bytes eight p e = rw eight at (marks_are bytes p (rw eight e))

-- there is a mark where one byte is a letter
pub marks_some : (n : ℕ) → 1 ≤ n → 0 ≡ repeated 128 n → ⊥
unfolding repeated
marks_some zero h e = omega arith
marks_some (suc n) h e = omega arith

-- the marks of the first n of eight
pub marks_cut : (n : ℕ) → n < 9 → 9259542123273814144 / 2 ^ (64 - 8 * n) ≡ repeated 128 n
unfolding listed repeated
marks_cut n h =
    let table : List ℕ = listed (repeated 128) 0 9 in
    sym (entry (λ n. 9259542123273814144 / 2 ^ (64 - 8 * n)) 9 table refl n h) ∙ entry (repeated 128) 9 table refl n h
