-- Laws of the settings' words: what they say is what was meant, and what no field can hold is refused. Assumes nothing.
use Rattle.std.specs.Prelude.{◌≡◌, refl, Bool, true, false, List, ℕ, ◌≤◌, ◌<◌, leb}
use Rattle.std.proofs.Common.{arith}
use borrow.Author.Tests.{le-leb, lt-leb}
use Rattle.rules.specs.declared.Settings.{Settings}
use Rattle.rules.specs.Common.{when◌then◌else◌, between}
use Rattle.rules.specs.SettingsAndUnitTable.{most_conjunctions, most_letters, last_kind, conjunction_accepted, conjunctions_accepted}
use Rattle.rules.specs.SettingsAsWords.{word, on, held_to, most_of_a_byte, bit, set_of, conjunction_of, settings_of, settings_words}
use Rattle.rules.proofs.Laws.Choices.{if_either}
use Rattle.rules.proofs.Laws.Tests.{and_false}

-- ---- a word held to the most that its field can hold

module _ (most w : ℕ) where
  pub held_fits : w ≤ most → w ≡ held_to most w
  unfolding held_to when◌then◌else◌
  held_fits h = rw (le-leb w most h)

  pub held_over : most < w → most ≡ held_to most w
  unfolding held_to when◌then◌else◌
  held_over h = rw (lt-leb w most h)

  -- what reaches a limit that its field can hold reaches it when held
  pub held_reaches : (limit : ℕ) → limit ≤ most → limit ≤ w → limit ≤ held_to most w
  unfolding held_to
  held_reaches limit fits h = if_either (λ n. limit ≤ n) (leb w most) (λ e. h) (λ e. fits)

-- ---- so what no field can hold is refused, as is all else that is too large

module _ (words : List ℕ) where
  pub count_refused : most_conjunctions < word words 15 → conjunctions_accepted (settings_of words) ≡ false
  unfolding settings_of conjunctions_accepted
  count_refused h = rw (lt-leb (held_to most_of_a_byte (word words 15)) most_conjunctions (held_reaches most_of_a_byte (word words 15) 5 (omega arith) h))

  pub kind_refused : last_kind < word words 24 → leb (settings_of words).default_kind last_kind ≡ false
  unfolding settings_of
  kind_refused h = lt-leb (held_to most_of_a_byte (word words 24)) last_kind (held_reaches most_of_a_byte (word words 24) 8 (omega arith) h)

pub size_refused : (size letters : ℕ) → most_letters < size → conjunction_accepted (conjunction_of size letters) ≡ false
unfolding conjunction_of conjunction_accepted between
size_refused size letters h = rw (lt-leb (held_to most_of_a_byte size) most_letters (held_reaches most_of_a_byte size 9 (omega arith) h), and_false)

-- ---- all settings can be said

pub bit_back : (b : Bool) → on (bit b) ≡ b
unfolding on when◌then◌else◌
bit_back true = refl
bit_back false = refl

-- each of them within its field
pub record Fit (s : Settings) : Type 0 where
  pub count : s.conjunctions ≤ most_of_a_byte
  pub first_size : s.first.size ≤ most_of_a_byte
  pub second_size : s.second.size ≤ most_of_a_byte
  pub third_size : s.third.size ≤ most_of_a_byte
  pub fourth_size : s.fourth.size ≤ most_of_a_byte
  pub kind : s.default_kind ≤ most_of_a_byte

pub settings_back : (s : Settings) → Fit s → settings_of (settings_words s) ≡ s
unfolding settings_of set_of conjunction_of settings_words
settings_back s fit =
    rw (
      bit_back s.negatives,
      bit_back s.fractions,
      bit_back s.exponents,
      bit_back s.infinity,
      bit_back s.ago,
      bit_back s.after_sign,
      bit_back s.before_unit,
      ← held_fits most_of_a_byte s.conjunctions fit.count,
      ← held_fits most_of_a_byte s.first.size fit.first_size,
      ← held_fits most_of_a_byte s.second.size fit.second_size,
      ← held_fits most_of_a_byte s.third.size fit.third_size,
      ← held_fits most_of_a_byte s.fourth.size fit.fourth_size,
      ← held_fits most_of_a_byte s.default_kind fit.kind,
    )
