-- Laws of byte sets: bytes that may not delimit stand in runs, and a run of bytes is a run of bits of one word. Assumes nothing.
use Rattle.std.specs.Prelude.{◌≡◌, Bool, true, ◌&&◌, ◌||◌}
use Rattle.std.proofs.Math.Path.{refl, sym}
use Rattle.std.proofs.Common.{ap, ◌∙◌, mod-lt, add-one, lit<, lit≤}
use Rattle.std.proofs.Math.Bool.{false, not, xor}
use Rattle.std.specs.Bool.{beq}
use Rattle.std.proofs.lemmas.Bool.{false≢true}
use Prim.Native.Nat.{ℕ, zero, suc, ◌+◌, ◌*◌, ◌-◌, ◌/◌, ◌%◌, ◌^◌, ◌≤◌, ◌<◌}
use Rattle.std.proofs.Math.Nat.{mod-one, zero-div}
use native.Mathlib.Omega.{arith}
use Rattle.std.proofs.Math.Dec.{eqb}
use Rattle.std.specs.Int.Bits.{bit_or}
use Rattle.std.proofs.lemmas.Nat.{or_shr, or_mod, mod-pow-add}
use Rattle.std.proofs.Math.Pow.{shr-shr}
use borrow.Author.Tests.{ne_eqb, not-true, eqb-true}
use Rattle.rules.specs.declared.ByteSet.{ByteSet}
use Rattle.rules.specs.Common.{when◌then◌else◌, between}
unfoldable pub use Rattle.rules.specs.Common.{runs}
use Rattle.rules.specs.SettingsAndUnitTable.{LETTER, class, is, word, holds, may_delimit, delimits, empty}
use Rattle.rules.proofs.Laws.Choices.{and_left, and_right}
use Rattle.rules.proofs.Laws.Lists.{runs_add, runs_at}
use Rattle.rules.proofs.Laws.Tests.{and_true, or_true, or_false, eqb_iff}
use Rattle.settings.specs.declared.sets.AsciiSet.{AsciiSet}
use Rattle.settings.specs.Sets.{bytes_of, either, passes}

-- one more bit is zero
bit_more : (x n : ℕ) → eqb (x % 2 ^ suc n) 0 ≡ (not (eqb (x % 2) 1) && eqb (x / 2 % 2 ^ n) 0)
bit_more x n = rw (← (add-one n), mod-pow-add x n 1) (go (x % 2) (mod-lt x (lit< tt)))
  where
    go : (low : ℕ) → low < 2 → eqb (x / 2 % 2 ^ n * 2 + low) 0 ≡ (not (eqb low 1) && eqb (x / 2 % 2 ^ n) 0)
    go zero h = eqb_iff (x / 2 % 2 ^ n * 2 + 0) 0 (x / 2 % 2 ^ n) 0 (λ e. omega arith) (λ e. omega arith)
    go (suc zero) h = ne_eqb (x / 2 % 2 ^ n * 2 + 1) 0 (λ e. omega arith)
    go (suc (suc low)) h = absurd (omega arith)

whole_word : (w : ℕ) → w < 2 ^ 64 → w / 2 ^ 0 % 2 ^ 64 ≡ w
whole_word w h = omega arith

-- tests one after the other: the first that fails decides
pub first_fails : {a : Bool} (b : Bool) → a ≡ false → false ≡ (a && b)
first_fails b e = sym (rw e)

pub first_passes : {a b r : Bool} → a ≡ true → r ≡ b → r ≡ (a && b)
first_passes e h = h ∙ sym (rw e)

-- the runs of bytes that may not delimit, each within a word
abbrev pub runs_free : ByteSet → Bool
runs_free set =
    eqb (set.word0 / 2 ^ 43 % 2) 0
    && (eqb (set.word0 / 2 ^ 45 % 2 ^ 2) 0
    && (eqb (set.word0 / 2 ^ 48 % 2 ^ 10) 0
    && (eqb (set.word1 / 2 ^ 1 % 2 ^ 26) 0
    && (eqb (set.word1 / 2 ^ 33 % 2 ^ 26) 0
    && (eqb set.word2 0 && eqb set.word3 0)))))

module _ (set : ByteSet) where
  abbrev right : ℕ → Bool
  right k = not (holds set k) || may_delimit k

  pub delimits_any : (b n : ℕ) → runs may_delimit b n ≡ true → delimits set b n ≡ true
  unfolding delimits runs
  delimits_any b zero e = refl
  delimits_any b (suc n) e =
      rw (and_left (may_delimit b) (runs may_delimit (suc b) n) e, or_true, delimits_any (suc b) n (and_right (may_delimit b) (runs may_delimit (suc b) n) e))

  abbrev none_held : ℕ → ℕ → Bool
  none_held = runs (λ k. not (holds set k))

  -- of a run of bytes within a word none is held exactly if its bits are zero
  none_bits : (b n : ℕ) → b % 64 + n ≤ 64 → none_held b n ≡ eqb (word set (b / 64) / 2 ^ (b % 64) % 2 ^ n) 0
  unfolding runs holds
  none_bits b zero h = rw mod-one
  none_bits b (suc n) h =
      rw (bit_more (word set (b / 64) / 2 ^ (b % 64)) n)
      (ap (λ t. not (eqb (word set (b / 64) / 2 ^ (b % 64) % 2) 1) && t) (none_bits (suc b) n (omega arith) ∙ next n h))
    where
      -- the next byte has the next bit of the same word, unless no byte is left
      next : (m : ℕ) → b % 64 + suc m ≤ 64 → eqb (word set (suc b / 64) / 2 ^ (suc b % 64) % 2 ^ m) 0 ≡ eqb (word set (b / 64) / 2 ^ (b % 64) / 2 % 2 ^ m) 0
      next zero h = simp mod-one
      next (suc m) h =
          let same_word : suc b / 64 ≡ b / 64 = omega arith in
          let next_bit : suc b % 64 ≡ b % 64 + 1 = omega arith in
          rw (same_word, next_bit, shr-shr (word set (b / 64)) (b % 64) 1)

  -- and bytes of which none may delimit are right if none is held
  delimits_none : (b n : ℕ) → runs (λ k. not (may_delimit k)) b n ≡ true → delimits set b n ≡ none_held b n
  unfolding delimits runs
  delimits_none b zero e = refl
  delimits_none b (suc n) e =
      let here : may_delimit b ≡ false = not-true (may_delimit b) (and_left (not (may_delimit b)) (runs (λ k. not (may_delimit k)) (suc b) n) e) in
      rw (here, or_false)
      (ap (λ t. not (holds set b) && t) (delimits_none (suc b) n (and_right (not (may_delimit b)) (runs (λ k. not (may_delimit k)) (suc b) n) e)))

  any_then : (b m n : ℕ) → runs may_delimit b m ≡ true → delimits set b (m + n) ≡ delimits set (b + m) n
  unfolding delimits
  any_then b m n e = rw (runs_add right b m n, delimits_any b m e)

  none_then : (b m n : ℕ) → b % 64 + m ≤ 64 → runs (λ k. not (may_delimit k)) b m ≡ true → delimits set b (m + n) ≡ (eqb (word set (b / 64) / 2 ^ (b % 64) % 2 ^ m) 0 && delimits set (b + m) n)
  unfolding delimits
  none_then b m n h e = rw (runs_add right b m n, delimits_none b m e, none_bits b m h)

  pub delimits_runs : set.word2 < 2 ^ 64 → set.word3 < 2 ^ 64 → delimits set 0 256 ≡ runs_free set
  unfolding runs may_delimit is class between when◌then◌else◌ word
  delimits_runs fits₂ fits₃ =
      rw (
        any_then 0 43 213 refl,
        none_then 43 1 212 (lit≤ tt) refl,
        any_then 44 1 211 refl,
        none_then 45 2 209 (lit≤ tt) refl,
        any_then 47 1 208 refl,
        none_then 48 10 198 (lit≤ tt) refl,
        any_then 58 7 191 refl,
        none_then 65 26 165 (lit≤ tt) refl,
        any_then 91 6 159 refl,
        none_then 97 26 133 (lit≤ tt) refl,
        any_then 123 5 128 refl,
        none_then 128 64 64 (lit≤ tt) refl,
        delimits_none 192 64 refl,
        none_bits 192 64 (lit≤ tt),
        whole_word set.word2 fits₂,
        whole_word set.word3 fits₃,
      )

-- ---- sets of two words

last_two : (a b c d e f g : Bool) → (a && (b && (c && (d && (e && (f && g)))))) ≡ true → (f ≡ true) × (g ≡ true)
last_two true true true true true true true h = (refl, refl)
last_two true true true true true true false h = absurd (false≢true h)
last_two true true true true true false g h = absurd (false≢true h)
last_two true true true true false f g h = absurd (false≢true h)
last_two true true true false e f g h = absurd (false≢true h)
last_two true true false d e f g h = absurd (false≢true h)
last_two true false c d e f g h = absurd (false≢true h)
last_two false b c d e f g h = absurd (false≢true h)

-- a set that may hold only delimiters has nothing in its upper words
pub low_words : (set : ByteSet) → set.word2 < 2 ^ 64 → set.word3 < 2 ^ 64 → delimits set 0 256 ≡ true → (set.word2 ≡ 0) × (set.word3 ≡ 0)
low_words set fits₂ fits₃ e =
    let free = sym (delimits_runs set fits₂ fits₃) ∙ e in
    let (second, third) =
    last_two (eqb (set.word0 / 2 ^ 43 % 2) 0) (eqb (set.word0 / 2 ^ 45 % 2 ^ 2) 0) (eqb (set.word0 / 2 ^ 48 % 2 ^ 10) 0)
    (eqb (set.word1 / 2 ^ 1 % 2 ^ 26) 0) (eqb (set.word1 / 2 ^ 33 % 2 ^ 26) 0) (eqb set.word2 0) (eqb set.word3 0) free in
    (eqb-true set.word2 0 second, eqb-true set.word3 0 third)

pub two_words : (set : ByteSet) → set.word2 < 2 ^ 64 → set.word3 < 2 ^ 64 → delimits set 0 256 ≡ true → bytes_of (record { low = set.word0; high = set.word1 }) ≡ set
unfolding bytes_of
two_words set fits₂ fits₃ e = let (second, third) = low_words set fits₂ fits₃ e in rw (second, third)

none_set : (k : ℕ) → eqb (0 / 2 ^ k % 2) 1 ≡ false
none_set k = rw (zero-div (2 ^ k))

module _ (set : AsciiSet) (b : ℕ) where
  pub holds_low : b < 64 → eqb (set.low / 2 ^ (b % 64) % 2) 1 ≡ holds (bytes_of set) b
  unfolding holds bytes_of word
  holds_low h = let here : b / 64 ≡ 0 = omega arith in rw here

  pub holds_high : 64 ≤ b → b < 128 → eqb (set.high / 2 ^ (b % 64) % 2) 1 ≡ holds (bytes_of set) b
  unfolding holds bytes_of word
  holds_high from to = let here : b / 64 ≡ 1 = omega arith in rw here

  pub holds_none : 128 ≤ b → b < 256 → false ≡ holds (bytes_of set) b
  unfolding holds bytes_of word
  holds_none from to = go (b / 64) (omega arith) (omega arith)
    where
      go : (i : ℕ) → 2 ≤ i → i < 4 → false ≡ eqb (word (bytes_of set) i / 2 ^ (b % 64) % 2) 1
      go zero low high = absurd (omega arith)
      go (suc zero) low high = absurd (omega arith)
      go (suc (suc zero)) low high = sym (none_set (b % 64))
      go (suc (suc (suc i))) low high = sym (none_set (b % 64))

-- and is empty exactly if both words are zero
pub empty_words : (set : AsciiSet) → set.low < 2 ^ 64 → set.high < 2 ^ 64 → empty (bytes_of set) ≡ (eqb set.low 0 && eqb set.high 0)
unfolding empty word bytes_of
empty_words set fits₀ fits₁ =
    rw (
      runs_add (λ k. not (holds (bytes_of set) k)) 0 64 192,
      runs_add (λ k. not (holds (bytes_of set) k)) 64 64 128,
      runs_add (λ k. not (holds (bytes_of set) k)) 128 64 64,
      none_bits (bytes_of set) 0 64 (lit≤ tt),
      none_bits (bytes_of set) 64 64 (lit≤ tt),
      none_bits (bytes_of set) 128 64 (lit≤ tt),
      none_bits (bytes_of set) 192 64 (lit≤ tt),
      whole_word set.low fits₀,
      whole_word set.high fits₁,
      and_true,
    )

-- ---- two tests that agree at each byte of a run agree at a byte of it: one computation for the run

alike : (a b : Bool) → beq a b ≡ true → a ≡ b
alike true true e = refl
alike true false e = sym e
alike false true e = e
alike false false e = refl

pub agree : (f g : ℕ → Bool) (from n : ℕ) → runs (λ b. beq (f b) (g b)) from n ≡ true → (b : ℕ) → from ≤ b → b < from + n → f b ≡ g b
agree f g from n e b low high =
    let here : from + (b - from) ≡ b = omega arith in
    alike (f b) (g b) (rw here at (runs_at (λ b. beq (f b) (g b)) n from (b - from) e (omega arith)))

pub letter_byte : (b : ℕ) → b < 256 → is LETTER b ≡ (between 65 90 b || between 97 122 b)
unfolding runs is class between when◌then◌else◌
letter_byte b h = agree (is LETTER) (λ b. between 65 90 b || between 97 122 b) 0 256 refl b (omega arith) h

-- ---- two sets as one

bits_or : (x y k : ℕ) → eqb (bit_or x y / 2 ^ k % 2) 1 ≡ (eqb (x / 2 ^ k % 2) 1 || eqb (y / 2 ^ k % 2) 1)
bits_or x y k = rw (or_shr x y k, or_mod (x / 2 ^ k) (y / 2 ^ k) 1) (go (x / 2 ^ k % 2) (y / 2 ^ k % 2) (mod-lt (x / 2 ^ k) (lit< tt)) (mod-lt (y / 2 ^ k) (lit< tt)))
  where
    go : (a b : ℕ) → a < 2 → b < 2 → eqb (bit_or a b) 1 ≡ (eqb a 1 || eqb b 1)
    go zero zero p q = refl
    go zero (suc zero) p q = refl
    go (suc zero) zero p q = refl
    go (suc zero) (suc zero) p q = refl
    go zero (suc (suc b)) p q = absurd (omega arith)
    go (suc zero) (suc (suc b)) p q = absurd (omega arith)
    go (suc (suc a)) b p q = absurd (omega arith)

either_word : (a b : ByteSet) (i : ℕ) → word (either a b) i ≡ bit_or (word a i) (word b i)
unfolding word either
either_word a b zero = refl
either_word a b (suc zero) = refl
either_word a b (suc (suc zero)) = refl
either_word a b (suc (suc (suc i))) = refl

pub either_holds : (a b : ByteSet) (x : ℕ) → holds (either a b) x ≡ (holds a x || holds b x)
unfolding holds
either_holds a b x = rw (either_word a b (x / 64), bits_or (word a (x / 64)) (word b (x / 64)) (x % 64))

-- a set of bytes below 64 alone: what its one word says, and nothing else
pub first_word : (w : ℕ) (test : ℕ → Bool) → runs (λ b. beq (eqb (w / 2 ^ b % 2) 1) (test b)) 0 64 ≡ true → runs (λ b. beq false (test b)) 64 192 ≡ true → (b : ℕ) → b < 256 → holds (record { word0 = w; word1 = 0; word2 = 0; word3 = 0 }) b ≡ test b
unfolding holds word
first_word w test low high b h = go (b / 64) refl
  where
    set : ByteSet
    set = record { word0 = w; word1 = 0; word2 = 0; word3 = 0 }

    above : 64 ≤ b → false ≡ test b
    above k = agree (λ b. false) test 64 192 high b k h

    go : (i : ℕ) → b / 64 ≡ i → eqb (word set i / 2 ^ (b % 64) % 2) 1 ≡ test b
    go zero e =
        let same_bit : b % 64 ≡ b = omega arith in
        rw same_bit (agree (λ b. eqb (w / 2 ^ b % 2) 1) test 0 64 low b (omega arith) (omega arith))
    go (suc zero) e = none_set (b % 64) ∙ above (omega arith)
    go (suc (suc zero)) e = none_set (b % 64) ∙ above (omega arith)
    go (suc (suc (suc i))) e = none_set (b % 64) ∙ above (omega arith)

-- ---- bytes in a set or outside it

alike_test : (a b : Bool) → xor a b ≡ false → beq a b ≡ true
unfolding xor
alike_test true true e = refl
alike_test true false e = absurd (false≢true (sym e))
alike_test false true e = absurd (false≢true (sym e))
alike_test false false e = refl

unlike_test : (a b : Bool) → xor a b ≡ true → beq a b ≡ false
unfolding xor
unlike_test true true e = absurd (false≢true e)
unlike_test true false e = refl
unlike_test false true e = refl
unlike_test false false e = absurd (false≢true e)

module _ (set : ByteSet) (held : Bool) (b : ℕ) {found : Bool} (asked : found ≡ holds set b) where
  -- a byte that was asked for passes, or does not
  pub held_alike : xor found held ≡ false → passes set held b ≡ true
  unfolding passes
  held_alike e = alike_test _ held (rw asked at e)

  pub held_unlike : xor found held ≡ true → passes set held b ≡ false
  unfolding passes
  held_unlike e = unlike_test _ held (rw asked at e)
