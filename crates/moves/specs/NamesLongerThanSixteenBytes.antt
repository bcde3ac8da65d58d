-- "Names longer than sixteen bytes" (request eight): stored lines moved from one form of a row to another. A form is told by the room that its rows
-- have for the name. Assumes nothing.
use Rattle.std.specs.Prelude.{Bool, ◌&&◌, List, [], ◌∷◌, ◌++◌, ℕ, suc, ◌-◌, leb, eqb, length, drop, replicate}
use Rattle.rules.specs.declared.Answer.{Answer}
use Rattle.rules.specs.declared.Refusal.TheVariants.{NoRoom, NoStoredRow, NameTooLong}
use Rattle.rules.specs.Common.{when◌then◌else◌, between, all}
use Rattle.rules.specs.ThePartOfTheCrateWeTake.{zero_length}
use Rattle.rules.specs.NumbersHandedBack.{Outcome, got, refused, ◌>>=◌, ◌>>◌, unless, done, answered}
use Rattle.rules.specs.SettingsAndUnitTable.{name_room, old_room, kind_at_in, zeros_at_in, name_size, name, after_name_in, stored}
use Rattle.stored.specs.Lines.{line_accepted_in, restored_in}

-- ---- lines

abbrev pub newline : ℕ
newline = 10

-- a byte before the first of the lines
unfoldable pub with_byte : ℕ → List (List ℕ) → List (List ℕ)
with_byte b [] = (b ∷ []) ∷ []
with_byte b (line ∷ more) = (b ∷ line) ∷ more

-- a line keeps the newline that it ends with; bytes behind the last newline are a line too
unfoldable pub lines : List ℕ → List (List ℕ)
lines [] = []
lines (b ∷ bs) = when eqb b newline then (b ∷ []) ∷ lines bs else with_byte b (lines bs)

-- ---- one line

-- a name length that the form has room for, and zeros after the name and at the row's end
unfoldable pub row_stands : ℕ → List ℕ → Bool
row_stands room r = between 1 room (name_size r) && all (eqb 0) (after_name_in room r) && all (eqb 0) (drop (zeros_at_in room) r)

-- its digits and a newline, and such a row
unfoldable pub line_stands : ℕ → List ℕ → Bool
line_stands room line = line_accepted_in room line && row_stands room (restored_in room line)

-- the same name in another room, and kind, coefficient and power as they are
unfoldable pub moved_row : ℕ → ℕ → List ℕ → List ℕ
moved_row from to r = name_size r ∷ name r ++ replicate (to - name_size r) 0 ++ drop (kind_at_in from) r

unfoldable pub move_line : ℕ → ℕ → ℕ → List ℕ → Outcome (List ℕ)
move_line from to i line = do
  unless (NoStoredRow i) (line_stands from line)
  unless (NameTooLong i) (leb (name_size (restored_in from line)) to)
  got (stored (moved_row from to (restored_in from line)))

-- ---- all of them

-- line by line, from the i-th on: the first bad line is refused
unfoldable pub move_lines : ℕ → ℕ → ℕ → List (List ℕ) → Outcome (List ℕ)
move_lines from to i [] = got []
move_lines from to i (line ∷ more) = do
  first ← move_line from to i line
  others ← move_lines from to (suc i) more
  got (first ++ others)

-- last, the target has room for all of them
unfoldable pub moving : ℕ → ℕ → List ℕ → List ℕ → Outcome (List ℕ)
moving from to source target = do
  moved ← move_lines from to 0 (lines source)
  unless (NoRoom 0) (leb (length moved) (length target))
  got moved

-- ---- what is handed back, and what the target then holds

unfoldable pub move_answer : ℕ → ℕ → List ℕ → List ℕ → Answer
move_answer from to source target = answered (λ moved. done (length moved) zero_length) (moving from to source target)

unfoldable pub written_over : List ℕ → Outcome (List ℕ) → List ℕ
written_over target (got moved) = moved ++ drop (length moved) target
written_over target (refused cause) = target

unfoldable pub moved_target : ℕ → ℕ → List ℕ → List ℕ → List ℕ
moved_target from to source target = written_over target (moving from to source target)

-- ---- the two entries

unfoldable pub to_new_answer : List ℕ → List ℕ → Answer
to_new_answer source target = move_answer old_room name_room source target

unfoldable pub new_target : List ℕ → List ℕ → List ℕ
new_target source target = moved_target old_room name_room source target

unfoldable pub to_old_answer : List ℕ → List ℕ → Answer
to_old_answer source target = move_answer name_room old_room source target

unfoldable pub old_target : List ℕ → List ℕ → List ℕ
old_target source target = moved_target name_room old_room source target
