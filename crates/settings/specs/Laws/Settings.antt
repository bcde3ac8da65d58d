-- Laws of the settings: words that are held to a limit, letters and conjunctions. Assumes nothing.
use Rattle.std.specs.Prelude.{◌≡◌, refl, Bool, true, ◌&&◌, Result, Ok, Err, ℕ, zero, suc, ◌+◌, ◌-◌, ◌/◌, ◌%◌, ◌^◌, ◌≤◌, ◌<◌, get_or, take, drop}
use Rattle.std.specs.Result.{OkIff, result_unwrap_or}
use Rattle.std.specs.Int.{byte_at, bytes_low_first}
use Rattle.std.specs.Char.{is_ascii_alphabetic}
use Rattle.std.proofs.Math.Nat.{div-div-eq-div-mul}
use Rattle.std.proofs.Common.{◌∙◌, pow-suc, sub-one, arith, length-take, get_or-take}
use Rattle.rules.specs.declared.Conjunction.{Conjunction}
use Rattle.rules.specs.declared.Settings.{Settings}
use Rattle.rules.specs.Common.{when◌then◌else◌, all, between, runs}
use Rattle.rules.specs.SettingsAsWords.{held_to}
use Rattle.rules.specs.SettingsAndUnitTable.{LETTER, class, is, low_bytes, conjunctions_of}
use Rattle.rules.proofs.Laws.SettingsAsWords.{held_fits, held_over}
use Rattle.rules.proofs.Laws.Lists.{all_from, all_done}
use Rattle.settings.specs.Conjunctions.{conjunctions_listed}
use Rattle.settings.specs.Laws.Sets.{agree}

-- a number that is tried, and the most that there can be
pub held_tried : {E : Type 0} (most : ℕ) (r : Result ℕ E) (word : ℕ) → OkIff r (word < most + 1) word → result_unwrap_or r most ≡ held_to most word
held_tried most (Ok x) word (fits, is) = is ∙ held_fits most word (omega arith)
held_tried most (Err e) word over = held_over most word (omega (arith, over))

-- of the n low bytes: the lowest, and those above it
pub all_letters : (test : ℕ → Bool) (n x : ℕ) → 0 < n → all test (low_bytes n x) ≡ (test (x % 256) && all test (low_bytes (n - 1) (x / 256)))
unfolding all low_bytes
all_letters test zero x h = absurd (omega arith)
all_letters test (suc n) x h = rw (sub-one (suc n))

-- the n low bytes are the library's
pub low_bytes_first : (n k i x : ℕ) → n ≤ k → take n (bytes_low_first i k x) ≡ low_bytes n (x / 256 ^ i)
unfolding low_bytes
low_bytes_first zero k i x h = refl
low_bytes_first (suc n) zero i x h = absurd (omega arith)
low_bytes_first (suc n) (suc k) i x h =
    let further : x / 256 ^ i / 256 ≡ x / 256 ^ suc i = rw (div-div-eq-div-mul, pow-suc 256 i) in
    rw (low_bytes_first n k (suc i) x (omega arith), further, here i) refl
  where
    here : (i : ℕ) → byte_at i x ≡ x / 256 ^ i % 256
    here zero = omega arith
    here (suc i) = refl

-- and each is a byte
pub low_byte : (n x i : ℕ) → get_or (low_bytes n x) i 0 < 256
unfolding low_bytes
low_byte zero x i = omega arith
low_byte (suc n) x zero = omega arith
low_byte (suc n) x (suc i) = low_byte n (x / 256) i

-- of which the library calls the same ones letters
pub byte_letter : (b : ℕ) → b < 256 → is_ascii_alphabetic b ≡ is LETTER b
unfolding runs is class between when◌then◌else◌
byte_letter b h = agree is_ascii_alphabetic (is LETTER) 0 256 refl b (omega arith) h

-- ---- the conjunctions one by one

-- beyond the third place stands the fourth
pub conjunction_last : (s : Settings) (i : ℕ) → 3 ≤ i → get_or (conjunctions_listed s) i s.fourth ≡ s.fourth
conjunction_last s zero h = absurd (omega arith)
conjunction_last s (suc zero) h = absurd (omega arith)
conjunction_last s (suc (suc zero)) h = absurd (omega arith)
conjunction_last s (suc (suc (suc zero))) h = refl
conjunction_last s (suc (suc (suc (suc i)))) h = refl

-- of the conjunctions from i on: the one at i, and those after it
pub conjunctions_next : (test : Conjunction → Bool) (s : Settings) (i : ℕ) → i < s.conjunctions → s.conjunctions ≤ 4 → all test (drop i (conjunctions_of s)) ≡ (test (get_or (conjunctions_listed s) i s.fourth) && all test (drop (i + 1) (conjunctions_of s)))
unfolding conjunctions_of
conjunctions_next test s i below few =
    rw (all_from test (conjunctions_of s) i s.fourth (simp length-take (omega arith)), get_or-take s.conjunctions (conjunctions_listed s) i s.fourth below)

pub conjunctions_done : (test : Conjunction → Bool) (s : Settings) (i : ℕ) → s.conjunctions ≤ i → all test (drop i (conjunctions_of s)) ≡ true
unfolding conjunctions_of
conjunctions_done test s i h = all_done test (conjunctions_of s) i (simp length-take (omega arith))
