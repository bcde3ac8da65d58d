-- The definitions that request five moved, as they were before it, under the names that they had. Written out, so that they do not follow
-- those of now; what did not move is cited. Assumes nothing.
use Rattle.std.specs.Prelude.{Bool, ◌&&◌, ◌||◌, List, [], ◌∷◌, ℕ, zero, suc, leb, length, Option, Some, None}
use Rattle.std.proofs.Math.Seq.{slice}
use Rattle.rules.specs.declared.Answer.{Answer}
use Rattle.rules.specs.declared.Length.{Length}
use Rattle.rules.specs.declared.Numeral.{Numeral}
use Rattle.rules.specs.declared.Part.{Part}
use Rattle.rules.specs.declared.Reading.{Reading}
use Rattle.rules.specs.declared.Refusal.TheVariants.{Nothing, NoNumber, NoUnit, TableSize, BadRow, TextTooLong, Beyond, Malformed}
use Rattle.rules.specs.declared.Settings.{Settings}
use Rattle.rules.specs.declared.SpokenUnit.{SpokenUnit}
use Rattle.rules.specs.declared.Unit as declared_unit
use Rattle.rules.specs.Common.{when◌then◌else◌, ascii, ends, sees, run}
use Rattle.rules.specs.ThePartOfTheCrateWeTake.{longest_text, zero_length, well_formed}
use Rattle.rules.specs.NumbersHandedBack.{Outcome, got, refused, ◌>>=◌, ◌>>◌, unless, done, answered}
use Rattle.rules.specs.SettingsAndUnitTable.{DIGIT, POINT, is, holds, kind_multiplier, settings_check, most_rows, rows, row, kind, row_multiplier, product, row_accepted, whole_rows, rows_check, numerals_check, lookup}
use Rattle.rules.specs.ReadingOnePart.{says, delimiters, gap, sign_step, number_step, exponent_step, in_stretch, ago_step, connection, numeral_end, finite, spoken, infinite_part}
use Rattle.rules.specs.Evaluation.{evaluated, allowed, sum_all}
use Rattle.rules.specs.WriterAndShiftTotal.{shifting, record_after}

-- ---- the card: settings, one unit table and the numerals

unfoldable pub table_check : Settings → List ℕ → Outcome (Unit {0})
table_check s table = do
  unless TableSize (whole_rows most_rows table)
  rows_check (row_accepted s table) BadRow 0 (rows table)

pub record Card : Type 0 where
  pub settings : Settings
  pub units : List ℕ
  pub numerals : List ℕ

unfoldable pub card_check : Card → Outcome (Unit {0})
card_check card = do
  settings_check card.settings
  table_check card.settings card.units
  numerals_check card.numerals

-- ---- the unit: the number of the row that has the stretch as its name

unfoldable pub find_unit : Card → List ℕ → ℕ → Option ℕ
find_unit card text place = lookup card.units (slice place (run (in_stretch card.settings) text place) text)

unfoldable pub unit_found : Card → List ℕ → ℕ → Option ℕ → Outcome declared_unit.Unit
unit_found card text place (Some i) = ago_step card.settings text (product (row card.units i)) (run (in_stretch card.settings) text place)
unit_found card text place None = got (record { multiplier = kind_multiplier card.settings.default_kind; next = place })

unfoldable pub unit_step : Card → List ℕ → ℕ → Outcome declared_unit.Unit
unit_step card text place = unit_found card text place (find_unit card text place)

-- ---- the numeral and its unit

unfoldable pub numeral_found : Card → List ℕ → ℕ → Option ℕ → Outcome Numeral
numeral_found card text place (Some i) =
    when sees (holds card.settings.inner) text (numeral_end card.settings text place)
    then
    (delimiters card.settings.inner text (numeral_end card.settings text place)
    >>= λ next. got (record { multiplier = row_multiplier (row card.numerals i); next = next }))
    else refused (NoNumber place)
numeral_found card text place None = refused (NoNumber place)

unfoldable pub numeral_step : Card → List ℕ → ℕ → Outcome Numeral
numeral_step card text place =
    numeral_found card text place (lookup card.numerals (slice place (numeral_end card.settings text place) text))

unfoldable pub spoken_unit_found : Card → List ℕ → ℕ → Option ℕ → Outcome SpokenUnit
spoken_unit_found card text place (Some i) =
    ago_step card.settings text (row_multiplier (row card.units i)) (run (in_stretch card.settings) text place)
    >>= λ unit. got (record { kind = kind_multiplier (kind (row card.units i)); row = unit.multiplier; next = unit.next })
spoken_unit_found card text place None = refused (NoUnit place)

unfoldable pub spoken_unit_step : Card → List ℕ → ℕ → Outcome SpokenUnit
spoken_unit_step card text place = spoken_unit_found card text place (find_unit card text place)

-- ---- one part

unfoldable pub finite_part : Card → List ℕ → Bool → ℕ → Outcome Part
finite_part card text negative place = do
  number ← number_step card.settings text place
  scaled ← exponent_step card.settings text number.next
  name ← gap card.settings.before_unit card.settings text scaled.next
  unit ← unit_step card text name
  next ← connection card.settings text unit.next
  got (finite negative number scaled unit next)

unfoldable pub spoken_part : Card → List ℕ → Bool → ℕ → Outcome Part
spoken_part card text negative place = do
  numeral ← numeral_step card text place
  unit ← spoken_unit_step card text numeral.next
  next ← connection card.settings text unit.next
  got (spoken negative numeral unit next)

unfoldable pub unsigned_part : Card → List ℕ → Bool → ℕ → Outcome Part
unsigned_part card text negative place =
    when sees (λ b. is DIGIT b || is POINT b) text place
    then finite_part card text negative place
    else when card.settings.infinity && says (ascii "inf") text place
    then infinite_part card.settings text negative place
    else spoken_part card text negative place

unfoldable pub part : Card → List ℕ → ℕ → Outcome Part
part card text place =
    when ends text place
    then refused (Nothing place)
    else (sign_step card.settings text place >>= λ signed. unsigned_part card text signed.negative signed.next)

-- ---- what it comes to, and the total

unfoldable pub part_reading : Card → List ℕ → ℕ → Outcome Reading
part_reading card text place = do
  p ← part card text place
  l ← evaluated text p.repr
  allowed card.settings place p.next l

unfoldable pub parts : Card → List ℕ → ℕ → ℕ → Outcome (List Length)
parts card text zero place = refused (Nothing place)
parts card text (suc n) place =
    part_reading card text place
    >>= λ r.
    let others = parts card text n r.next in
    when ends text r.next then got (r.length ∷ []) else (others >>= λ more. got (r.length ∷ more))

unfoldable pub total : Card → List ℕ → Outcome Length
total card text = parts card text (suc (length text)) 0 >>= λ lengths. got (sum_all zero_length lengths)

-- ---- the entries

unfoldable pub read_part : Card → List ℕ → ℕ → Outcome Reading
read_part card text place = do
  card_check card
  unless TextTooLong (leb (length text) longest_text)
  unless (Beyond place) (leb place (length text))
  part_reading card text place

unfoldable pub part_answer : Card → List ℕ → ℕ → Answer
part_answer card text place = answered (λ r. done r.next r.length) (read_part card text place)

unfoldable pub read_total : Card → List ℕ → Outcome Length
read_total card text = do
  card_check card
  unless TextTooLong (leb (length text) longest_text)
  total card text

unfoldable pub total_answer : Card → List ℕ → Answer
total_answer card text = answered (done (length text)) (read_total card text)

unfoldable pub add_total : Length → Card → List ℕ → Outcome Length
add_total so_far card text = do
  card_check card
  unless Malformed (well_formed so_far)
  unless TextTooLong (leb (length text) longest_text)
  shifting so_far (total card text)

unfoldable pub shift_answer : Length → Card → List ℕ → Answer
shift_answer so_far card text = answered (done (length text)) (add_total so_far card text)

unfoldable pub shifted_record : Length → Card → List ℕ → Length
shifted_record so_far card text = record_after so_far (add_total so_far card text)
