-- The definitions that request four moved, as they were before it, under the names that they had. Written out, so that they do not follow
-- those of now; what did not move is cited. Assumes nothing.
use Rattle.std.specs.Prelude.{Bool, true, false, not, ◌&&◌, ◌||◌, List, [], ◌∷◌, ℕ, zero, suc, ◌%◌, leb, eqb, length, drop, Option, Some, None}
use Rattle.std.proofs.Math.Seq.{slice}
use Rattle.rules.specs.declared.Answer.{Answer}
use Rattle.rules.specs.declared.DurationRepr.{DurationRepr}
use Rattle.rules.specs.declared.Length.{Length}
use Rattle.rules.specs.declared.Number.{Number}
use Rattle.rules.specs.declared.Reading.{Reading}
use Rattle.rules.specs.declared.Refusal.TheVariants.{Nothing, NoNumber, TableSize, BadRow, TextTooLong, Beyond, Malformed}
use Rattle.rules.specs.declared.Scaled.{Scaled}
use Rattle.rules.specs.declared.Settings.{Settings}
use Rattle.rules.specs.declared.Unit as declared_unit
use Rattle.rules.specs.Common.{when◌then◌else◌, ascii, between, all, ends, sees, run}
use Rattle.rules.specs.ThePartOfTheCrateWeTake.{longest_text, zero_length, well_formed}
use Rattle.rules.specs.NumbersHandedBack.{Outcome, got, refused, ◌>>=◌, ◌>>◌, unless, done, answered}
use Rattle.rules.specs.SettingsAndUnitTable.{DIGIT, POINT, is, last_kind, kind_multiplier, settings_check, most_rows, name_room, zeros_at, row_size, rows, row, name_size, name, after_name, kind, product, in_range, may_name, named, can_be_typed, lookup}
use Rattle.rules.specs.ReadingOnePart.{says, gap, sign_step, number_step, exponent_step, in_stretch, ago_step, connection, infinity_step}
use Rattle.rules.specs.Evaluation.{evaluate, allowed, sum_all}
use Rattle.rules.specs.WriterAndShiftTotal.{shifting, record_after}

-- ---- the card: settings and a unit table

unfoldable pub row_right : Settings → List ℕ → ℕ → Bool
row_right s table i =
    let r = row table i in
    between 1 name_room (name_size r)
    && all (eqb 0) (after_name r)
    && leb (kind r) last_kind
    && all (eqb 0) (drop zeros_at r)
    && all (may_name s) (name r)
    && not (named table (name r) i)
    && in_range (product r)

unfoldable pub row_accepted : Settings → List ℕ → ℕ → Bool
row_accepted s table i = row_right s table i && can_be_typed s (name (row table i))

unfoldable pub rows_check : Settings → List ℕ → ℕ → ℕ → Outcome (Unit {0})
rows_check s table i zero = got tt
rows_check s table i (suc n) = let more = rows_check s table (suc i) n in when row_accepted s table i then more else refused (BadRow i)

unfoldable pub table_check : Settings → List ℕ → Outcome (Unit {0})
table_check s table = do
  unless TableSize (eqb (length table % row_size) 0 && leb (rows table) most_rows)
  rows_check s table 0 (rows table)

unfoldable pub card_check : Settings → List ℕ → Outcome (Unit {0})
card_check s table = settings_check s >> table_check s table

-- ---- one part: with digits, or infinite

unfoldable pub unit_found : Settings → List ℕ → List ℕ → ℕ → Option ℕ → Outcome declared_unit.Unit
unit_found s table text place (Some i) = ago_step s text (product (row table i)) (run (in_stretch s) text place)
unit_found s table text place None = got (record { multiplier = kind_multiplier s.default_kind; next = place })

unfoldable pub unit_step : Settings → List ℕ → List ℕ → ℕ → Outcome declared_unit.Unit
unit_step s table text place = unit_found s table text place (lookup table (slice place (run (in_stretch s) text place) text))

pub record Part : Type 0 where
  pub repr : DurationRepr
  pub next : ℕ

abbrev pub infinite : Settings → Bool → ℕ → ℕ → Part
infinite s negative place next = record {
  repr =
      record {
        negative = negative;
        infinite = true;
        whole = record { start = place; end = place };
        fract = record { start = place; end = place };
        exponent = record { negative = false; power = 0 };
        multiplier = kind_multiplier s.default_kind;
      };
  next = next;
}

abbrev pub finite : Bool → Number → Scaled → declared_unit.Unit → ℕ → Part
finite negative number scaled unit next = record {
  repr =
      record {
        negative = negative;
        infinite = false;
        whole = number.whole;
        fract = number.fract;
        exponent = scaled.exponent;
        multiplier = unit.multiplier;
      };
  next = next;
}

unfoldable pub infinite_part : Settings → List ℕ → Bool → ℕ → Outcome Part
infinite_part s text negative place = infinity_step s text place >>= λ next. got (infinite s negative place next)

unfoldable pub finite_part : Settings → List ℕ → List ℕ → Bool → ℕ → Outcome Part
finite_part s table text negative place = do
  number ← number_step s text place
  scaled ← exponent_step s text number.next
  name ← gap s.before_unit s text scaled.next
  unit ← unit_step s table text name
  next ← connection s text unit.next
  got (finite negative number scaled unit next)

unfoldable pub unsigned_part : Settings → List ℕ → List ℕ → Bool → ℕ → Outcome Part
unsigned_part s table text negative place =
    when sees (λ b. is DIGIT b || is POINT b) text place
    then finite_part s table text negative place
    else when s.infinity && says (ascii "inf") text place
    then infinite_part s text negative place
    else refused (NoNumber place)

unfoldable pub part : Settings → List ℕ → List ℕ → ℕ → Outcome Part
part s table text place =
    when ends text place
    then refused (Nothing place)
    else (sign_step s text place >>= λ signed. unsigned_part s table text signed.negative signed.next)

-- ---- what it comes to, and the total

unfoldable pub part_reading : Settings → List ℕ → List ℕ → ℕ → Outcome Reading
part_reading s table text place = part s table text place >>= λ p. allowed s place p.next (evaluate text p.repr)

unfoldable pub parts : Settings → List ℕ → List ℕ → ℕ → ℕ → Outcome (List Length)
parts s table text zero place = refused (Nothing place)
parts s table text (suc n) place =
    part_reading s table text place
    >>= λ r.
    let others = parts s table text n r.next in
    when ends text r.next then got (r.length ∷ []) else (others >>= λ more. got (r.length ∷ more))

unfoldable pub total : Settings → List ℕ → List ℕ → Outcome Length
total s table text = parts s table text (suc (length text)) 0 >>= λ lengths. got (sum_all zero_length lengths)

-- ---- the entries

unfoldable pub read_part : Settings → List ℕ → List ℕ → ℕ → Outcome Reading
read_part s table text place = do
  card_check s table
  unless TextTooLong (leb (length text) longest_text)
  unless (Beyond place) (leb place (length text))
  part_reading s table text place

unfoldable pub part_answer : Settings → List ℕ → List ℕ → ℕ → Answer
part_answer s table text place = answered (λ r. done r.next r.length) (read_part s table text place)

unfoldable pub read_total : Settings → List ℕ → List ℕ → Outcome Length
read_total s table text = do
  card_check s table
  unless TextTooLong (leb (length text) longest_text)
  total s table text

unfoldable pub total_answer : Settings → List ℕ → List ℕ → Answer
total_answer s table text = answered (done (length text)) (read_total s table text)

unfoldable pub add_total : Length → Settings → List ℕ → List ℕ → Outcome Length
add_total so_far s table text = do
  card_check s table
  unless Malformed (well_formed so_far)
  unless TextTooLong (leb (length text) longest_text)
  shifting so_far (total s table text)

unfoldable pub shift_answer : Length → Settings → List ℕ → List ℕ → Answer
shift_answer so_far s table text = answered (done (length text)) (add_total so_far s table text)

unfoldable pub shifted_record : Length → Settings → List ℕ → List ℕ → Length
shifted_record so_far s table text = record_after so_far (add_total so_far s table text)
