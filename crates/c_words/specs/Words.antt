-- What C passes and gets back besides settings: a length, an answer and what a lookup found, as 64-bit words in a fixed order. Every list of words says some
-- length, and one that cannot be accepted is refused by the entries. Assumes nothing.
use Rattle.std.specs.Prelude.{List, [], ◌∷◌, ℕ, ◌-◌, ◌^◌}
use Rattle.rules.specs.declared.Length.{Length}
use Rattle.rules.specs.declared.Answer.{Answer}
use Rattle.rules.specs.SettingsAsWords.{word, on, held_to, bit}
use Rattle.rules.specs.NumbersHandedBack.{Outcome, got, refused, ◌>>◌}
use Rattle.rules.specs.SettingsAndUnitTable.{Card}
use Rattle.rules.specs.WhatEveryEntryOwes.{add_total}
use Rattle.index.specs.declared.LookedUp.{LookedUp}
use Rattle.index.specs.TheSortedIndex.{Indexed, indexed_check}

-- what a field of 32 bits can hold
abbrev pub most_of_a_half : ℕ
most_of_a_half = 2 ^ 32 - 1

-- ---- a length: sign, seconds, nanoseconds

unfoldable pub length_of : List ℕ → Length
length_of words = record { negative = on (word words 0); seconds = word words 1; nanoseconds = held_to most_of_a_half (word words 2) }

abbrev pub length_words : Length → List ℕ
length_words l = bit l.negative ∷ l.seconds ∷ l.nanoseconds ∷ []

-- ---- an answer: position, and the length; its number is handed back beside it

abbrev pub answer_words : Answer → List ℕ
answer_words a = a.position ∷ length_words a.length

-- ---- the shift total's words afterwards: on a refusal they stay as they were

unfoldable pub words_after : List ℕ → Outcome Length → List ℕ
words_after words (got l) = length_words l
words_after words (refused cause) = words

unfoldable pub shifted_words : List ℕ → Card → List ℕ → List ℕ
shifted_words so_far card text = words_after so_far (add_total (length_of so_far) card text)

-- under a card with its indexes
unfoldable pub indexed_shifted_words : List ℕ → Indexed → List ℕ → List ℕ
indexed_shifted_words so_far c text = words_after so_far (indexed_check c >> add_total (length_of so_far) c.card text)

-- ---- what a lookup found: position, table, row, and how many names were compared; its number is handed back beside it

abbrev pub found_words : LookedUp → List ℕ
found_words found = found.position ∷ found.table ∷ found.row ∷ found.compared ∷ []
