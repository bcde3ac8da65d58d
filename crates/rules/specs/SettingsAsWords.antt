-- Settings as they are lent, and as C passes them: 64-bit words in a fixed order. Every list of words says some settings, and those that
-- cannot be accepted are refused by the entries. Assumes nothing.
use Rattle.std.specs.Prelude.{Bool, not, List, [], ◌∷◌, ℕ, ◌+◌, ◌-◌, ◌^◌, leb, eqb, get_or}
use Rattle.rules.specs.declared.ByteSet.{ByteSet}
use Rattle.rules.specs.declared.Conjunction.{Conjunction}
use Rattle.rules.specs.declared.Settings.{Settings}
use Rattle.rules.specs.Common.{when◌then◌else◌}
use Rattle.rules.specs.SettingsAndUnitTable.{Card}

-- one of the words
abbrev pub word : List ℕ → ℕ → ℕ
word words at = get_or words at 0

-- a switch is on, and a sign is minus, if its word is not 0
unfoldable pub on : ℕ → Bool
on word = not (eqb word 0)

-- a word that its field cannot hold is the most that it can
unfoldable pub held_to : ℕ → ℕ → ℕ
held_to most word = when leb word most then word else most

-- what a field of 8 bits can hold
abbrev pub most_of_a_byte : ℕ
most_of_a_byte = 2 ^ 8 - 1

abbrev pub bit : Bool → ℕ
bit b = when b then 1 else 0

-- ---- seven switches, the inner and the outer set, the conjunctions, the default kind

unfoldable pub set_of : List ℕ → ℕ → ByteSet
set_of words at = record { word0 = word words at; word1 = word words (at + 1); word2 = word words (at + 2); word3 = word words (at + 3) }

unfoldable pub conjunction_of : ℕ → ℕ → Conjunction
conjunction_of size letters = record { size = held_to most_of_a_byte size; letters = letters }

unfoldable pub settings_of : List ℕ → Settings
settings_of words = record {
  negatives = on (word words 0);
  fractions = on (word words 1);
  exponents = on (word words 2);
  infinity = on (word words 3);
  ago = on (word words 4);
  after_sign = on (word words 5);
  before_unit = on (word words 6);
  inner = set_of words 7;
  outer = set_of words 11;
  conjunctions = held_to most_of_a_byte (word words 15);
  first = conjunction_of (word words 16) (word words 17);
  second = conjunction_of (word words 18) (word words 19);
  third = conjunction_of (word words 20) (word words 21);
  fourth = conjunction_of (word words 22) (word words 23);
  default_kind = held_to most_of_a_byte (word words 24);
}

-- a card as it is lent: its settings as words, and the bytes of its tables
abbrev pub card_of : List ℕ → List ℕ → List ℕ → List ℕ → Card
card_of words hall line numerals = record { settings = settings_of words; hall = hall; line = line; numerals = numerals }

-- the words of a record
unfoldable pub settings_words : Settings → List ℕ
settings_words s =
    bit s.negatives
    ∷ bit s.fractions
    ∷ bit s.exponents
    ∷ bit s.infinity
    ∷ bit s.ago
    ∷ bit s.after_sign
    ∷ bit s.before_unit
    ∷ s.inner.word0
    ∷ s.inner.word1
    ∷ s.inner.word2
    ∷ s.inner.word3
    ∷ s.outer.word0
    ∷ s.outer.word1
    ∷ s.outer.word2
    ∷ s.outer.word3
    ∷ s.conjunctions
    ∷ s.first.size
    ∷ s.first.letters
    ∷ s.second.size
    ∷ s.second.letters
    ∷ s.third.size
    ∷ s.third.letters
    ∷ s.fourth.size
    ∷ s.fourth.letters
    ∷ s.default_kind
    ∷ []
