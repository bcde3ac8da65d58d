-- "Reading one part": steps 1 to 8, each with its refusals and places. A byte is written as its number: 45 is `-`, 48 `0`, 101 `e`.
-- A step that another goes through stands before it, so 3 comes before 2. Assumes nothing.
use Rattle.std.specs.Prelude.{Bool, true, false, not, ◌&&◌, ◌||◌, List, [], ◌∷◌, ℕ, suc, ◌+◌, ◌*◌, ◌-◌, leb, eqb, length, drop, Option, Some, None}
use Rattle.std.proofs.Math.Seq.{slice}
use Rattle.rules.specs.declared.ByteSet.{ByteSet}
use Rattle.rules.specs.declared.Conjunction.{Conjunction}
use Rattle.rules.specs.declared.Settings.{Settings}
use Rattle.rules.specs.declared.Multiplier.{Multiplier}
use Rattle.rules.specs.declared.Span.{Span}
use Rattle.rules.specs.declared.Signed.{Signed}
use Rattle.rules.specs.declared.Number.{Number}
use Rattle.rules.specs.declared.Scaled.{Scaled}
use Rattle.rules.specs.declared.Unit as declared_unit
use Rattle.rules.specs.declared.Numeral.{Numeral}
use Rattle.rules.specs.declared.SpokenUnit.{SpokenUnit}
use Rattle.rules.specs.declared.Repr.TheVariants.{Typed, Spoken}
use Rattle.rules.specs.declared.Part.{Part}
use Rattle.rules.specs.declared.Refusal.{Refusal}
use Rattle.rules.specs.declared.Refusal.TheVariants.{Nothing, SignEnds, DelimiterEnds, FractionOff, FractionEmpty, ExponentOff, ExponentByte, ExponentEnds, ExponentAbove, ExponentBelow, InfinityByte, InfinityEnds, InfinityGoesOn, ConjunctionEnds, ConjunctionGoesOn, NoNumber, NoUnit}
use Rattle.rules.specs.Common.{when◌then◌else◌, ascii, ends, sees, run}
use Rattle.rules.specs.NumbersHandedBack.{Outcome, got, refused, ◌>>=◌, ◌>>◌}
use Rattle.rules.specs.SettingsAndUnitTable.{DIGIT, SIGN, POINT, is, is_next_duration, lower, holds, letters_of, conjunctions_of, kind_multiplier, Card, lookup, find_row, row, kind, row_multiplier, product}

-- ---- words and delimiters

-- the same letter, in any case
unfoldable pub same_letter : ℕ → ℕ → Bool
same_letter a b = eqb (lower a) (lower b)

unfoldable pub prefix : List ℕ → List ℕ → Bool
prefix [] rest = true
prefix (w ∷ word) [] = false
prefix (w ∷ word) (b ∷ rest) = same_letter w b && prefix word rest

-- the word stands at the place, in any case
unfoldable pub says : List ℕ → List ℕ → ℕ → Bool
says word text place = prefix word (drop place text)

-- a delimiter run that a step takes and that reaches the end of the text is 18 at its first byte
unfoldable pub delimiters : ByteSet → List ℕ → ℕ → Outcome ℕ
delimiters set text place =
    when sees (holds set) text place && ends text (run (holds set) text place)
    then refused (DelimiterEnds place)
    else got (run (holds set) text place)

-- inner delimiters, if switched on
unfoldable pub gap : Bool → Settings → List ℕ → ℕ → Outcome ℕ
gap on s text place = when on then delimiters s.inner text place else got place

-- ---- 1. an optional sign; end after it: 17 there; inner delimiters follow if switched on

unfoldable pub sign_step : Settings → List ℕ → ℕ → Outcome Signed
sign_step s text place =
    when not (sees (is SIGN) text place)
    then got (record { negative = false; next = place })
    else when ends text (place + 1)
    then refused (SignEnds (place + 1))
    else (gap s.after_sign s text (place + 1) >>= λ next. got (record { negative = sees (eqb 45) text place; next = next }))

-- ---- 3. a point: fractions off, 20 at it; no digit after it: fine if there was a whole part, else 20 at it

unfoldable pub fraction_step : Settings → List ℕ → Bool → Span → ℕ → Outcome Number
fraction_step s text any_whole whole place =
    when not (sees (is POINT) text place)
    then got (record { whole = whole; fract = record { start = place; end = place }; next = place })
    else when not s.fractions
    then refused (FractionOff place)
    else when not (any_whole || sees (is DIGIT) text (place + 1))
    then refused (FractionEmpty place)
    else
    got
    (record {
      whole = whole;
      fract = record { start = place + 1; end = run (is DIGIT) text (place + 1) };
      next = run (is DIGIT) text (place + 1);
    })

-- ---- 2. a digit run, leading zeros dropped, or a point

unfoldable pub number_step : Settings → List ℕ → ℕ → Outcome Number
number_step s text place =
    fraction_step s text (sees (is DIGIT) text place) (record { start = run (eqb 48) text place; end = run (is DIGIT) text place })
    (run (is DIGIT) text place)

-- ---- 4. `e` or `E`: exponents off, 21 at it; else optional sign and at least one digit; missing, 17 where the text ends, 21 at another byte

unfoldable pub exponent_limit : Bool → ℕ
exponent_limit negative = when negative then 32768 else 32767

unfoldable pub exponent_passed : Bool → ℕ → Refusal
exponent_passed negative place = when negative then ExponentBelow place else ExponentAbove place

-- the digits from the place on, of which the rest of the text begins, after those that spelled `power`
unfoldable pub exponent_digits : Bool → List ℕ → ℕ → ℕ → Outcome Scaled
exponent_digits negative [] power place = got (record { exponent = record { negative = negative; power = power }; next = place })
exponent_digits negative (b ∷ rest) power place =
    let more = exponent_digits negative rest (power * 10 + (b - 48)) (suc place) in
    when not (is DIGIT b)
    then got (record { exponent = record { negative = negative; power = power }; next = place })
    else when leb (power * 10 + (b - 48)) (exponent_limit negative) then more else refused (exponent_passed negative place)

unfoldable pub exponent_number : List ℕ → Bool → ℕ → Outcome Scaled
exponent_number text negative place =
    when sees (is DIGIT) text place
    then exponent_digits negative (drop place text) 0 place
    else when ends text place then refused (ExponentEnds place) else refused (ExponentByte place)

unfoldable pub exponent_step : Settings → List ℕ → ℕ → Outcome Scaled
exponent_step s text place =
    when not (sees (same_letter 101) text place)
    then got (record { exponent = record { negative = false; power = 0 }; next = place })
    else when not s.exponents
    then refused (ExponentOff place)
    else exponent_number text (sees (eqb 45) text (place + 1)) (when sees (is SIGN) text (place + 1) then place + 2 else place + 1)

-- ---- 6. unit: the stretch up to an outer delimiter, digit or sign, and with ago on also up to an inner delimiter

unfoldable pub in_stretch : Settings → ℕ → Bool
in_stretch s b = not (holds s.outer b || is_next_duration b || s.ago && holds s.inner b)

-- what `ago` must be followed by: end, outer delimiter, digit or sign
unfoldable pub closes_unit : Settings → List ℕ → ℕ → Bool
closes_unit s text place = ends text place || sees (λ b. holds s.outer b || is_next_duration b) text place

unfoldable pub negated : Multiplier → Multiplier
negated m = record { negative = not m.negative; coefficient = m.coefficient; up = m.up; down = m.down }

-- after a found row, with ago on: inner delimiters, then `ago`, negate the row; otherwise the place goes back
unfoldable pub ago_step : Settings → List ℕ → Multiplier → ℕ → Outcome declared_unit.Unit
ago_step s text m place =
    when not (s.ago && sees (holds s.inner) text place)
    then got (record { multiplier = m; next = place })
    else
    (delimiters s.inner text place
    >>= λ word.
    when says (ascii "ago") text word && closes_unit s text (word + 3)
    then got (record { multiplier = negated m; next = word + 3 })
    else got (record { multiplier = m; next = place }))

-- the row that has the stretch as its name: the line's, or else the hall's; nothing if there is none
unfoldable pub find_unit : Card → List ℕ → ℕ → List ℕ
find_unit card text place = find_row card.hall card.line (slice place (run (in_stretch card.settings) text place) text)

-- when the lookup fails, the place goes back and the part carries on without a unit
unfoldable pub unit_found : Settings → List ℕ → ℕ → List ℕ → Outcome declared_unit.Unit
unit_found s text place [] = got (record { multiplier = kind_multiplier s.default_kind; next = place })
unit_found s text place (size ∷ r) = ago_step s text (product (size ∷ r)) (run (in_stretch s) text place)

unfoldable pub unit_step : Card → List ℕ → ℕ → Outcome declared_unit.Unit
unit_step card text place = unit_found card.settings text place (find_unit card text place)

-- ---- 7. at an outer delimiter, a connection: the run, then the first listed conjunction that is a prefix here

unfoldable pub conjunction_size : List Conjunction → List ℕ → ℕ → ℕ
conjunction_size [] text place = 0
conjunction_size (c ∷ others) text place =
    let more = conjunction_size others text place in
    when says (letters_of c) text place then c.size else more

-- after the word: outer delimiters, or a digit or sign, else 19 at that byte; end of text, 19 at the word's start
unfoldable pub after_conjunction : Settings → List ℕ → ℕ → ℕ → Outcome ℕ
after_conjunction s text word place =
    when ends text place
    then refused (ConjunctionEnds word)
    else when sees (holds s.outer) text place
    then delimiters s.outer text place
    else when sees is_next_duration text place then got place else refused (ConjunctionGoesOn place)

unfoldable pub conjunction_step : Settings → List ℕ → ℕ → ℕ → Outcome ℕ
conjunction_step s text word size = when eqb size 0 then got word else after_conjunction s text word (word + size)

unfoldable pub connection : Settings → List ℕ → ℕ → Outcome ℕ
connection s text place =
    when not (sees (holds s.outer) text place)
    then got place
    else (delimiters s.outer text place >>= λ word. conjunction_step s text word (conjunction_size (conjunctions_of s) text word))

-- ---- infinity: after `inf`, end or a connection; otherwise the five letters `inity`, then end or a connection

unfoldable pub closes_infinity : Settings → List ℕ → ℕ → Bool
closes_infinity s text place = ends text place || sees (holds s.outer) text place

-- a wrong letter is 22 at it, an end 22 at the `i` of `inf`
unfoldable pub letters_step : ℕ → List ℕ → List ℕ → ℕ → Outcome ℕ
letters_step inf [] rest place = got place
letters_step inf (w ∷ word) [] place = refused (InfinityEnds inf)
letters_step inf (w ∷ word) (b ∷ rest) place =
    let more = letters_step inf word rest (suc place) in
    when same_letter w b then more else refused (InfinityByte place)

unfoldable pub infinity_closed : Settings → List ℕ → ℕ → Outcome ℕ
infinity_closed s text place = when closes_infinity s text place then connection s text place else refused (InfinityGoesOn place)

unfoldable pub infinity_step : Settings → List ℕ → ℕ → Outcome ℕ
infinity_step s text inf =
    when closes_infinity s text (inf + 3)
    then connection s text (inf + 3)
    else (letters_step inf (ascii "inity") (drop (inf + 3) text) (inf + 3) >>= λ place. infinity_closed s text place)

-- ---- "Spoken numbers" (request four): where step 2 finds no digit, no point and no allowed infinity, a numeral may stand for a number

-- the stretch up to an inner delimiter or the end
unfoldable pub numeral_end : Settings → List ℕ → ℕ → ℕ
numeral_end s text place = run (λ b. not (holds s.inner b)) text place

-- found, and inner delimiters follow that do not end the text; otherwise 6 at its first byte
unfoldable pub numeral_found : Card → List ℕ → ℕ → Option ℕ → Outcome Numeral
numeral_found card text place (Some i) =
    when sees (holds card.settings.inner) text (numeral_end card.settings text place)
    then
    (delimiters card.settings.inner text (numeral_end card.settings text place)
    >>= λ next. got (record { multiplier = row_multiplier (row card.numerals i); next = next }))
    else refused (NoNumber place)
numeral_found card text place None = refused (NoNumber place)

unfoldable pub numeral_step : Card → List ℕ → ℕ → Outcome Numeral
numeral_step card text place =
    numeral_found card text place (lookup card.numerals (slice place (numeral_end card.settings text place) text))

-- step 6 must find a unit: no row, 15 at the byte after the delimiters; `ago` negates the row
unfoldable pub spoken_unit_found : Settings → List ℕ → ℕ → List ℕ → Outcome SpokenUnit
spoken_unit_found s text place [] = refused (NoUnit place)
spoken_unit_found s text place (size ∷ r) =
    ago_step s text (row_multiplier (size ∷ r)) (run (in_stretch s) text place)
    >>= λ unit. got (record { kind = kind_multiplier (kind (size ∷ r)); row = unit.multiplier; next = unit.next })

unfoldable pub spoken_unit_step : Card → List ℕ → ℕ → Outcome SpokenUnit
spoken_unit_step card text place = spoken_unit_found card.settings text place (find_unit card text place)

-- ---- the part: what was typed, and where the next part begins

-- infinity has no digits and no exponent, and the default kind for its unit
abbrev pub infinite : Settings → Bool → ℕ → ℕ → Part
infinite s negative place next = record {
  repr =
      Typed
      (record {
        negative = negative;
        infinite = true;
        whole = record { start = place; end = place };
        fract = record { start = place; end = place };
        exponent = record { negative = false; power = 0 };
        multiplier = kind_multiplier s.default_kind;
      });
  next = next;
}

abbrev pub finite : Bool → Number → Scaled → declared_unit.Unit → ℕ → Part
finite negative number scaled unit next = record {
  repr =
      Typed
      (record {
        negative = negative;
        infinite = false;
        whole = number.whole;
        fract = number.fract;
        exponent = scaled.exponent;
        multiplier = unit.multiplier;
      });
  next = next;
}

abbrev pub spoken : Bool → Numeral → SpokenUnit → ℕ → Part
spoken negative numeral unit next = record {
  repr = Spoken (record { negative = negative; numeral = numeral.multiplier; kind = unit.kind; row = unit.row });
  next = next;
}

unfoldable pub infinite_part : Settings → List ℕ → Bool → ℕ → Outcome Part
infinite_part s text negative place = infinity_step s text place >>= λ next. got (infinite s negative place next)

unfoldable pub finite_part : Card → List ℕ → Bool → ℕ → Outcome Part
finite_part card text negative place = do
  number ← number_step card.settings text place
  scaled ← exponent_step card.settings text number.next
  name ← gap card.settings.before_unit card.settings text scaled.next
  unit ← unit_step card text name
  next ← connection card.settings text unit.next
  got (finite negative number scaled unit next)

unfoldable pub spoken_part : Card → List ℕ → Bool → ℕ → Outcome Part
spoken_part card text negative place = do
  numeral ← numeral_step card text place
  unit ← spoken_unit_step card text numeral.next
  next ← connection card.settings text unit.next
  got (spoken negative numeral unit next)

-- a digit or a point; or `inf` in any case if allowed; otherwise a numeral
unfoldable pub unsigned_part : Card → List ℕ → Bool → ℕ → Outcome Part
unsigned_part card text negative place =
    when sees (λ b. is DIGIT b || is POINT b) text place
    then finite_part card text negative place
    else when card.settings.infinity && says (ascii "inf") text place
    then infinite_part card.settings text negative place
    else spoken_part card text negative place

unfoldable pub part : Card → List ℕ → ℕ → Outcome Part
part card text place =
    when ends text place
    then refused (Nothing place)
    else (sign_step card.settings text place >>= λ signed. unsigned_part card text signed.negative signed.next)
