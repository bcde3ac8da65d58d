-- "What every entry owes": each entry's answer, and what every lent byte or record then holds, for all arguments.
-- The order of refusals: 7 (65, 66, 67; 64, the hall's rows upward; 192, the line's; 100, the numerals), 11, 8, 10, then left to right. Assumes nothing.
use Rattle.std.specs.Prelude.{List, ℕ, leb, length}
use Rattle.rules.specs.declared.Length.{Length}
use Rattle.rules.specs.declared.Answer.{Answer}
use Rattle.rules.specs.declared.Reading.{Reading}
use Rattle.rules.specs.declared.Refusal.TheVariants.{TextTooLong, Beyond, Malformed}
use Rattle.rules.specs.ThePartOfTheCrateWeTake.{longest_text, well_formed}
use Rattle.rules.specs.SettingsAndUnitTable.{Card, card_check}
use Rattle.rules.specs.NumbersHandedBack.{Outcome, ◌>>=◌, ◌>>◌, unless, done, answered}
use Rattle.rules.specs.Evaluation.{part_reading, total}
use Rattle.rules.specs.WriterAndShiftTotal.{writing, buffer_after, shifting, record_after}

-- ---- reading one part from a place

unfoldable pub read_part : Card → List ℕ → ℕ → Outcome Reading
read_part card text place = do
  card_check card
  unless TextTooLong (leb (length text) longest_text)
  unless (Beyond place) (leb place (length text))
  part_reading card text place

unfoldable pub part_answer : Card → List ℕ → ℕ → Answer
part_answer card text place = answered (λ r. done r.next r.length) (read_part card text place)

-- ---- a text's total

unfoldable pub read_total : Card → List ℕ → Outcome Length
read_total card text = do
  card_check card
  unless TextTooLong (leb (length text) longest_text)
  total card text

unfoldable pub total_answer : Card → List ℕ → Answer
total_answer card text = answered (done (length text)) (read_total card text)

-- ---- the writer

unfoldable pub write_answer : Length → List ℕ → ℕ → Answer
write_answer l buffer place = answered (λ r. done r.next r.length) (writing l buffer place)

unfoldable pub written_buffer : Length → List ℕ → ℕ → List ℕ
written_buffer l buffer place = buffer_after l buffer place (writing l buffer place)

-- ---- the shift total

unfoldable pub add_total : Length → Card → List ℕ → Outcome Length
add_total so_far card text = do
  card_check card
  unless Malformed (well_formed so_far)
  unless TextTooLong (leb (length text) longest_text)
  shifting so_far (total card text)

unfoldable pub shift_answer : Length → Card → List ℕ → Answer
shift_answer so_far card text = answered (done (length text)) (add_total so_far card text)

unfoldable pub shifted_record : Length → Card → List ℕ → Length
shifted_record so_far card text = record_after so_far (add_total so_far card text)
