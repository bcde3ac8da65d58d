-- Request two: in which of the two unit tables and at which row a part finds its unit, by the reader's own steps, and the units of a text's
-- parts in the sequence that its total reads. A text counts only if none of its parts is a spoken number (request four). Assumes nothing.
use Rattle.std.specs.Prelude.{Bool, true, false, ◌||◌, List, [], ◌∷◌, ℕ, zero, suc, eqb, length}
use Rattle.std.proofs.Math.Seq.{slice}
use Rattle.rules.specs.declared.Repr.{Repr}
use Rattle.rules.specs.declared.Repr.TheVariants.{Typed, Spoken}
use Rattle.rules.specs.declared.Refusal.TheVariants.{Nothing, NoNumber}
use Rattle.rules.specs.Common.{when◌then◌else◌, ends, sees, run}
use Rattle.rules.specs.NumbersHandedBack.{Outcome, got, refused, ◌>>=◌}
use Rattle.rules.specs.SettingsAndUnitTable.{DIGIT, POINT, is, Card, Holder, Line, Hall, Neither, stands}
use Rattle.rules.specs.ReadingOnePart.{gap, sign_step, number_step, exponent_step, in_stretch, part}
use Rattle.rules.specs.Evaluation.{part_reading}

-- ---- one part

-- step 6: where the stretch from a place on stands as a name
unfoldable pub unit_stands : Card → List ℕ → ℕ → Holder
unit_stands card text place = stands card.hall card.line (slice place (run (in_stretch card.settings) text place) text)

-- steps 2 to 5, and where step 6 finds the unit
unfoldable pub number_unit : Card → List ℕ → ℕ → Outcome Holder
number_unit card text place = do
  number ← number_step card.settings text place
  scaled ← exponent_step card.settings text number.next
  name ← gap card.settings.before_unit card.settings text scaled.next
  got (unit_stands card text name)

-- infinity has no unit
unfoldable pub unsigned_unit : Card → List ℕ → ℕ → Outcome Holder
unsigned_unit card text place = when sees (λ b. is DIGIT b || is POINT b) text place then number_unit card text place else got Neither

unfoldable pub unit_of : Card → List ℕ → ℕ → Outcome Holder
unit_of card text place = sign_step card.settings text place >>= λ signed. unsigned_unit card text signed.next

-- a part that was typed, with digits or as infinity, counts; a spoken number does not: it may find a row whose name nobody could type behind
-- digits (`five eon`)
unfoldable pub counted : Card → List ℕ → ℕ → Repr → Outcome Holder
counted card text place (Typed d) = unit_of card text place
counted card text place (Spoken d) = refused (NoNumber place)

-- ---- the parts of a text from a place on, at most n of them, one after another as the total reads them

unfoldable pub units : Card → List ℕ → ℕ → ℕ → Outcome (List Holder)
units card text zero place = refused (Nothing place)
units card text (suc n) place =
    part card text place
    >>= λ p.
    part_reading card text place
    >>= λ r.
    counted card text place p.repr
    >>= λ unit.
    let others = units card text n r.next in
    when ends text r.next then got (unit ∷ []) else (others >>= λ more. got (unit ∷ more))

-- at the same row of the same table, or both in neither
unfoldable pub same_holder : Holder → Holder → Bool
same_holder (Line k) (Line i) = eqb k i
same_holder (Line k) (Hall i) = false
same_holder (Line k) Neither = false
same_holder (Hall k) (Line i) = false
same_holder (Hall k) (Hall i) = eqb k i
same_holder (Hall k) Neither = false
same_holder Neither (Line i) = false
same_holder Neither (Hall i) = false
same_holder Neither Neither = true

-- one of them stands there
unfoldable pub among : Holder → List Holder → Bool
among at [] = false
among at (unit ∷ more) = same_holder unit at || among at more

unfoldable pub among_got : Holder → Outcome (List Holder) → Bool
among_got at (got found) = among at found
among_got at (refused cause) = false

-- the text can be read, no part of it is a spoken number, and a part of it finds its unit there
unfoldable pub finds : Card → List ℕ → Holder → Bool
finds card text at = among_got at (units card text (suc (length text)) 0)
