-- Request one, "ISO timings from the recipe office": what a right text is and what it is worth; how a text is read, and where it is
-- refused; what is written. A byte is written as its number: 44 is `,`, 46 `.`, 68 `D`, 72 `H`, 77 `M`, 80 `P`, 83 `S`, 84 `T`, 87 `W`,
-- 89 `Y`. Assumes nothing.
use Rattle.std.specs.Prelude.{Bool, true, false, not, ◌&&◌, ◌||◌, List, [], ◌∷◌, ◌++◌, ℕ, suc, ◌+◌, ◌*◌, ◌-◌, ◌/◌, ◌%◌, ◌^◌, max, leb, ltb, eqb, length, get_or, take, drop}
use Rattle.rules.specs.declared.Length.{Length}
use Rattle.rules.specs.declared.Answer.{Answer}
use Rattle.rules.specs.declared.Reading.{Reading}
use Rattle.rules.specs.declared.Refusal.TheVariants.{NegativeForbidden, TextTooLong, NoRoom, Beyond, Malformed, NotIso, YearOrMonth, TooLarge}
use Rattle.rules.specs.Common.{when◌then◌else◌, between, all}
use Rattle.rules.specs.ThePartOfTheCrateWeTake.{longest_text, nanoseconds_per_second, seconds_limit, size, well_formed}
use Rattle.rules.specs.SettingsAndUnitTable.{DIGIT, is, kind_coefficients}
use Rattle.rules.specs.NumbersHandedBack.{Outcome, got, refused, ◌>>=◌, ◌>>◌, unless, done, answered}
use Rattle.rules.specs.Evaluation.{spelled, length_of}
use Rattle.rules.specs.WriterAndShiftTotal.{whole_digits, written_fraction}

-- ---- what is right: components, and how they are spelled

-- document 01's kinds 3 to 7
abbrev pub SECONDS : ℕ
SECONDS = 3

abbrev pub MINUTES : ℕ
MINUTES = 4

abbrev pub HOURS : ℕ
HOURS = 5

abbrev pub DAYS : ℕ
DAYS = 6

abbrev pub WEEKS : ℕ
WEEKS = 7

-- stands for the kind before the first component
abbrev pub ANY : ℕ
ANY = 8

-- a number and the kind of its unit: the number's digits, and its mark with the digits after it, or nothing
pub record Component : Type 0 where
  pub whole : List ℕ
  pub fraction : List ℕ
  pub kind : ℕ

unfoldable pub none : {A : Type 0} → List A → Bool
none [] = true
none (x ∷ xs) = false

-- one or more digits
unfoldable pub digits : List ℕ → Bool
digits ds = not (none ds) && all (is DIGIT) ds

-- `.` or `,`
unfoldable pub is_mark : ℕ → Bool
is_mark b = eqb b 46 || eqb b 44

unfoldable pub right_fraction : List ℕ → Bool
right_fraction [] = true
right_fraction (m ∷ ds) = is_mark m && digits ds

unfoldable pub right_number : Component → Bool
right_number c = digits c.whole && right_fraction c.fraction

-- nothing follows weeks, seconds, or a number with a fraction
unfoldable pub closes : Component → Bool
closes c = eqb c.kind WEEKS || eqb c.kind SECONDS || not (none c.fraction)

-- components after one of kind k: their kinds fall, so weeks stand alone, and days, hours, minutes and seconds in that order
unfoldable pub right_after : ℕ → List Component → Bool
right_after k [] = true
right_after k (c ∷ cs) =
    let others = right_after c.kind cs in
    right_number c && leb SECONDS c.kind && ltb c.kind k && (when closes c then none cs else others)

-- at least one
unfoldable pub right : List Component → Bool
right cs = not (none cs) && right_after ANY cs

-- the letters of the kinds, from seconds on
unfoldable pub letters : List ℕ
letters = 83 ∷ 77 ∷ 72 ∷ 68 ∷ 87 ∷ []

unfoldable pub letter : ℕ → ℕ
letter kind = get_or letters (kind - SECONDS) 0

-- `T` stands before the first component below days
unfoldable pub clock_mark : ℕ → ℕ → List ℕ
clock_mark k kind = when leb DAYS k && ltb kind DAYS then 84 ∷ [] else []

unfoldable pub spelling_after : ℕ → List Component → List ℕ
spelling_after k [] = []
spelling_after k (c ∷ cs) = clock_mark k c.kind ++ (c.whole ++ (c.fraction ++ (letter c.kind ∷ spelling_after c.kind cs)))

unfoldable pub spelling : List Component → List ℕ
spelling cs = 80 ∷ spelling_after ANY cs

-- ---- what it is worth: the exact sum, rounded down to nanoseconds once

-- how many digits stand after the mark
unfoldable pub decimals : Component → ℕ
decimals c = length (drop 1 c.fraction)

unfoldable pub most_decimals : List Component → ℕ
most_decimals [] = 0
most_decimals (c ∷ cs) = max (decimals c) (most_decimals cs)

-- the seconds of a kind
unfoldable pub seconds_of : ℕ → ℕ
seconds_of kind = get_or kind_coefficients kind 0

-- numbers times seconds, times ten to the power n, which makes them whole
unfoldable pub exact : ℕ → List Component → ℕ
exact n [] = 0
exact n (c ∷ cs) = spelled 0 (c.whole ++ drop 1 c.fraction) * 10 ^ (n - decimals c) * seconds_of c.kind + exact n cs

unfoldable pub nanoseconds_of : List Component → ℕ
nanoseconds_of cs = exact (most_decimals cs) cs * nanoseconds_per_second / 10 ^ most_decimals cs

-- ---- how a text is read: byte by byte; what has been read says what may come

-- after so much of a text, what may come next. A kind k says that the kind of the next component is below it
pub data Stand : Type 0 where
  -- nothing: `P` comes
  start : Stand
  -- `P`: a digit, or `T`
  date : Stand
  -- `T`: a digit
  wanted : ℕ → Stand
  -- digits: more of them, a mark, or a letter
  whole : ℕ → List ℕ → Stand
  -- digits and a mark: a digit
  mark : ℕ → List ℕ → ℕ → Stand
  -- digits, a mark and digits: more of them, or a letter
  fraction : ℕ → List ℕ → List ℕ → Stand
  -- the letter of this kind: after days `T`, after others a digit
  unit : ℕ → Stand
  -- the letter of a component after which nothing comes
  closed : Stand

-- what a byte does: a component may be done, and so much has been read
pub record Move : Type 0 where
  pub made : List Component
  pub stand : Stand

unfoldable pub on : Stand → Outcome Move
on s = got (record { made = []; stand = s })

-- the kind of a letter, and 0 for any other byte
unfoldable pub kind_of : ℕ → ℕ
kind_of b =
    when eqb b 83 then SECONDS else when eqb b 77 then MINUTES else when eqb b 72 then HOURS else when eqb b 68 then DAYS else when eqb b 87 then WEEKS else 0

-- before `T` weeks or days may come, after it a kind below the last
unfoldable pub may_come : ℕ → ℕ → Bool
may_come k kind = when leb ANY k then between DAYS WEEKS kind else leb SECONDS kind && ltb kind k

-- `Y` or `M` where only weeks or days may come, so before `T`
unfoldable pub year_or_month : ℕ → ℕ → Bool
year_or_month k b = leb ANY k && (eqb b 89 || eqb b 77)

unfoldable pub digit_step : ℕ → ℕ → ℕ → Outcome Move
digit_step k place b = when is DIGIT b then on (whole k (b ∷ [])) else refused (NotIso place)

unfoldable pub after_letter : Component → Stand
after_letter c = when closes c then closed else unit c.kind

-- after a number: the letter of its unit
unfoldable pub letter_step : ℕ → List ℕ → List ℕ → ℕ → ℕ → Outcome Move
letter_step k ds fs place b =
    let c : Component = record { whole = ds; fraction = fs; kind = kind_of b } in
    when may_come k (kind_of b)
    then got (record { made = c ∷ []; stand = after_letter c })
    else when year_or_month k b then refused (YearOrMonth place) else refused (NotIso place)

unfoldable pub step : Stand → ℕ → ℕ → Outcome Move
step start place b = when eqb b 80 then on date else refused (NotIso place)
step date place b = when eqb b 84 then on (wanted DAYS) else digit_step ANY place b
step (wanted k) place b = digit_step k place b
step (whole k ds) place b =
    when is DIGIT b then on (whole k (ds ++ b ∷ [])) else when is_mark b then on (mark k ds b) else letter_step k ds [] place b
step (mark k ds m) place b = when is DIGIT b then on (fraction k ds (m ∷ b ∷ [])) else refused (NotIso place)
step (fraction k ds fs) place b = when is DIGIT b then on (fraction k ds (fs ++ b ∷ [])) else letter_step k ds fs place b
step (unit k) place b = when leb DAYS k then (when eqb b 84 then on (wanted DAYS) else refused (NotIso place)) else digit_step k place b
step closed place b = refused (NotIso place)

-- a text may end after a letter
unfoldable pub may_end : Stand → Bool
may_end (unit k) = true
may_end closed = true
may_end start = false
may_end date = false
may_end (wanted k) = false
may_end (whole k ds) = false
may_end (mark k ds m) = false
may_end (fraction k ds fs) = false

-- the components that the rest of a text adds
unfoldable pub read_from : Stand → ℕ → List ℕ → Outcome (List Component)
read_from s place [] = when may_end s then got [] else refused (NotIso place)
read_from s place (b ∷ rest) = step s place b >>= λ m. read_from m.stand (suc place) rest >>= λ cs. got (m.made ++ cs)

unfoldable pub components : List ℕ → Outcome (List Component)
components text = read_from start 0 text

-- so many nanoseconds, unless they are beyond the largest length
unfoldable pub held : ℕ → Outcome Length
held n = when ltb n (seconds_limit * nanoseconds_per_second) then got (length_of false n) else refused TooLarge

-- 8, then 12 and 13 from left to right, and 14 last
unfoldable pub read_iso : List ℕ → Outcome Length
read_iso text = unless TextTooLong (leb (length text) longest_text) >> components text >>= λ cs. held (nanoseconds_of cs)

unfoldable pub iso_answer : List ℕ → Answer
iso_answer text = answered (done (length text)) (read_iso text)

-- ---- the writer

-- a component, its fraction as in the old writer
unfoldable pub component : ℕ → ℕ → ℕ → Component
component kind number nanoseconds = record { whole = whole_digits number; fraction = written_fraction nanoseconds; kind = kind }

-- one of zero is left out
unfoldable pub unless_zero : ℕ → ℕ → ℕ → List Component
unless_zero kind number nanoseconds = when eqb number 0 && eqb nanoseconds 0 then [] else component kind number nanoseconds ∷ []

-- hours, minutes and seconds, the last two below 60; seconds alone for zero
unfoldable pub components_of : Length → List Component
components_of l =
    when eqb (size l) 0
    then component SECONDS 0 0 ∷ []
    else unless_zero HOURS (l.seconds / 3600) 0 ++ unless_zero MINUTES (l.seconds / 60 % 60) 0 ++ unless_zero SECONDS (l.seconds % 60) l.nanoseconds

unfoldable pub iso_written : Length → List ℕ
iso_written l = spelling (components_of l)

-- 11, then 5 for a negative length, 10, 9; or the length, and the place after it
unfoldable pub writing_iso : Length → List ℕ → ℕ → Outcome Reading
writing_iso l buffer place = do
  unless Malformed (well_formed l)
  unless (NegativeForbidden 0) (not l.negative)
  unless (Beyond place) (leb place (length buffer))
  unless (NoRoom place) (leb (length (iso_written l)) (length buffer - place))
  got (record { length = l; next = place + length (iso_written l) })

-- no other byte changes, and none on a refusal
unfoldable pub iso_buffer_after : Length → List ℕ → ℕ → Outcome Reading → List ℕ
iso_buffer_after l buffer place (got r) = take place buffer ++ iso_written l ++ drop r.next buffer
iso_buffer_after l buffer place (refused cause) = buffer

unfoldable pub iso_write_answer : Length → List ℕ → ℕ → Answer
iso_write_answer l buffer place = answered (λ r. done r.next r.length) (writing_iso l buffer place)

unfoldable pub iso_written_buffer : Length → List ℕ → ℕ → List ℕ
iso_written_buffer l buffer place = iso_buffer_after l buffer place (writing_iso l buffer place)
