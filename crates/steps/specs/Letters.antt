-- A word at a place: how many of its letters stand there. Assumes nothing.
use Rattle.std.specs.Prelude.{◌≡◌, refl, Bool, true, false, ◌&&◌, List, [], ◌∷◌, ℕ, zero, suc, ◌+◌, ◌-◌, ◌/◌, ◌%◌, ◌≤◌, ◌<◌, eqb, length, get_or, drop}
use Rattle.std.proofs.Common.{sym, ◌∙◌, ne_eqb, sub-one}
use Rattle.std.proofs.Math.Path.{ap}
use Rattle.std.proofs.Math.Numerals.{add-one}
use native.Mathlib.Omega.{arith}
use Rattle.std.proofs.Math.ListN.{drop_of_length-le}
use Rattle.std.proofs.Math.Seq.{drop-cons}
use Rattle.rules.specs.Common.{when◌then◌else◌, all}
use Rattle.rules.specs.SettingsAndUnitTable.{low_bytes}
use Rattle.rules.specs.ReadingOnePart.{same_letter, prefix, says}
use Rattle.rules.proofs.Laws.Tests.{eqb_iff}

-- of the n low bytes: the lowest, and those above it
pub all_letters : (test : ℕ → Bool) (n x : ℕ) → 0 < n → all test (low_bytes n x) ≡ (test (x % 256) && all test (low_bytes (n - 1) (x / 256)))
unfolding all low_bytes
all_letters test zero x h = absurd (omega arith)
all_letters test (suc n) x h = rw (sub-one (suc n))

-- how many letters of the word the rest of the text begins with
unfoldable pub matching : List ℕ → List ℕ → ℕ
matching [] rest = 0
matching (w ∷ word) [] = 0
matching (w ∷ word) (b ∷ rest) = let more = suc (matching word rest) in when same_letter w b then more else 0

matching_nothing : (word : List ℕ) → matching word [] ≡ 0
unfolding matching
matching_nothing [] = refl
matching_nothing (w ∷ word) = refl

-- the word stands there if all of its letters do
prefix_matching : (word rest : List ℕ) → prefix word rest ≡ eqb (matching word rest) (length word)
unfolding prefix matching when◌then◌else◌
prefix_matching [] rest = refl
prefix_matching (w ∷ word) [] = sym (ne_eqb 0 (suc (length word)) (λ e. omega arith))
prefix_matching (w ∷ word) (b ∷ rest) = go (same_letter w b) (prefix_matching word rest)
  where
    go :
        (c : Bool)
        → prefix word rest ≡ eqb (matching word rest) (length word)
        → (c && prefix word rest) ≡ eqb (when c then suc (matching word rest) else 0) (suc (length word))
    go true e = e ∙ eqb_iff (matching word rest) (length word) (suc (matching word rest)) (suc (length word)) (ap suc) (λ h. omega arith)
    go false e = sym (ne_eqb 0 (suc (length word)) (λ h. omega arith))

pub says_matching : (word text : List ℕ) (place : ℕ) → eqb (matching word (drop place text)) (length word) ≡ says word text place
unfolding says
says_matching word text place = sym (prefix_matching word (drop place text))

-- ---- letter by letter, from letter i of the word and from a place of the text on

module _ (word text : List ℕ) (i place : ℕ) where
  pub matching_ends : length text ≤ place → matching (drop i word) (drop place text) ≡ 0
  matching_ends h = rw (drop_of_length-le text h) (matching_nothing (drop i word))

  pub matching_done : length word ≤ i → matching (drop i word) (drop place text) ≡ 0
  unfolding matching
  matching_done h = rw (drop_of_length-le word h)

  module _ (hi : i < length word) (hp : place < length text) where
    pub matching_more :
        same_letter (get_or word i 0) (get_or text place 0) ≡ true
        → matching (drop i word) (drop place text) ≡ suc (matching (drop (i + 1) word) (drop (place + 1) text))
    unfolding matching when◌then◌else◌
    matching_more e = rw (drop-cons word i 0 hi, drop-cons text place 0 hp, e, add-one i, add-one place)

    pub matching_stops : same_letter (get_or word i 0) (get_or text place 0) ≡ false → matching (drop i word) (drop place text) ≡ 0
    unfolding matching when◌then◌else◌
    matching_stops e = rw (drop-cons word i 0 hi, drop-cons text place 0 hp, e)

-- ---- the same for a word whose letters stand in a number

module _ (size letters : ℕ) (text : List ℕ) (place : ℕ) where
  pub letters_done : size ≤ 0 → says (low_bytes size letters) text place ≡ true
  unfolding says low_bytes prefix
  letters_done h = let none : size ≡ 0 = omega arith in rw none

  one_more : 0 < size → size ≡ suc (size - 1)
  one_more h = omega arith

  pub letters_end : 0 < size → length text ≤ place → says (low_bytes size letters) text place ≡ false
  unfolding says low_bytes prefix
  letters_end h k = rw (one_more h, drop_of_length-le text k)

  module _ (h : 0 < size) (k : place < length text) where
    letters_here :
        says (low_bytes size letters) text place
        ≡ (same_letter (letters % 256) (get_or text place 0) && says (low_bytes (size - 1) (letters / 256)) text (place + 1))
    unfolding says low_bytes prefix
    letters_here = ap (λ n. prefix (low_bytes n letters) (drop place text)) (one_more h) ∙ rw (drop-cons text place 0 k, add-one place)

    pub letters_more :
        same_letter (letters % 256) (get_or text place 0) ≡ true
        → says (low_bytes size letters) text place ≡ says (low_bytes (size - 1) (letters / 256)) text (place + 1)
    letters_more e = letters_here ∙ rw e

    pub letters_stop : same_letter (letters % 256) (get_or text place 0) ≡ false → says (low_bytes size letters) text place ≡ false
    letters_stop e = letters_here ∙ rw e
