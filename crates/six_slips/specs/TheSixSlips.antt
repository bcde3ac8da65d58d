-- Request six: what each of the six numbers names, in the request's words and by the reader's steps, at the place that is handed back with it.
-- Assumes nothing.
use Rattle.std.specs.Prelude.{◌≡◌, Bool, true, false, not, ◌||◌, List, ◌∷◌, ◌++◌, ℕ, ◌+◌, ◌≤◌, eqb, length, Some}
use Rattle.std.proofs.Math.Seq.{slice}
use Rattle.rules.specs.declared.ByteSet.{ByteSet}
use Rattle.rules.specs.declared.Settings.{Settings}
use Rattle.rules.specs.Common.{ascii, ends, sees, run}
use Rattle.rules.specs.NumbersHandedBack.{got}
use Rattle.rules.specs.SettingsAndUnitTable.{DIGIT, SIGN, POINT, is, is_next_duration, holds, conjunctions_of, Card, lookup}
use Rattle.rules.specs.ReadingOnePart.{same_letter, says, delimiters, in_stretch, find_unit, conjunction_size, closes_infinity, numeral_end}
use Rattle.exponent_place.specs.TheWrongDigit.{first_digit}
use Rattle.handed_back.specs.TheStepsOfAPart.{Step, Comes, sign, number, exponent, before_a_unit, unit, infinity, numeral, spoken_unit, connection}

-- delimiters of the set stand at the place, and their run ends the text
pub record LastRun (text : List ℕ) (set : ByteSet) (q : ℕ) : Type 0 where
  pub stand : sees (holds set) text q ≡ true
  pub end : ends text (run (holds set) text q) ≡ true

-- the first statement if a test passes, else the second
unfoldable pub by_test : Bool → Type 0 → Type 0 → Type 0
by_test true A B = A
by_test false A B = B

-- the first where a number is this one
unfoldable pub where_it_is : ℕ → ℕ → Type 0 → Type 0 → Type 0
where_it_is n m A B = by_test (eqb n m) A B

module _ (card : Card) (text : List ℕ) (from : ℕ) where
  abbrev s : Settings
  s = card.settings

  abbrev At : Step → ℕ → Type 0
  At = Comes card text from

  -- ---- 17: the text ends straight after a part's sign, or straight after an exponent's `e` or its sign

  pub data TextEnds : ℕ → Type 0 where
    behind_sign : {p : ℕ} → At sign p → sees (is SIGN) text p ≡ true → ends text (p + 1) ≡ true → TextEnds (p + 1)
    in_exponent : {e : ℕ} → At exponent e → sees (same_letter 101) text e ≡ true → s.exponents ≡ true → ends text (first_digit text e) ≡ true → TextEnds (first_digit text e)

  -- ---- a conjunction, which 19 names and behind which 18 may follow

  -- a connection finds a conjunction at the place, which has so many letters
  pub record Conjoins (word size : ℕ) : Type 0 where
    pub p : ℕ
    pub comes : At connection p
    pub stand : sees (holds s.outer) text p ≡ true
    pub behind : delimiters s.outer text p ≡ got word
    pub found : conjunction_size (conjunctions_of s) text word ≡ size
    pub some : 1 ≤ size

  -- ---- 18: a delimiter run that a step takes ends the text

  -- a step takes the delimiters of the set that stand at the place
  pub data Takes : ByteSet → ℕ → Type 0 where
    behind_a_sign : {p : ℕ} → At sign p → sees (is SIGN) text p ≡ true → s.after_sign ≡ true → Takes s.inner (p + 1)
    between_number_and_unit : {p : ℕ} → At before_a_unit p → s.before_unit ≡ true → Takes s.inner p
    before_ago : {p size : ℕ} {r : List ℕ} → At unit p → find_unit card text p ≡ size ∷ r → s.ago ≡ true → Takes s.inner (run (in_stretch s) text p)
    before_spoken_ago : {p size : ℕ} {r : List ℕ} → At spoken_unit p → find_unit card text p ≡ size ∷ r → s.ago ≡ true → Takes s.inner (run (in_stretch s) text p)
    behind_numeral : {p i : ℕ} → At numeral p → lookup card.numerals (slice p (numeral_end s text p) text) ≡ Some i → Takes s.inner (numeral_end s text p)
    of_connection : {p : ℕ} → At connection p → Takes s.outer p
    behind_conjunction : {word size : ℕ} → Conjoins word size → Takes s.outer (word + size)

  pub record DelimitersEnd (q : ℕ) : Type 0 where
    pub set : ByteSet
    pub taken : Takes set q
    pub last : LastRun text set q

  -- ---- 19: a conjunction ends the text, or what follows it is no delimiter, digit or sign

  pub data ConjunctionSlip : ℕ → Type 0 where
    conjunction_ends : {word size : ℕ} → Conjoins word size → ends text (word + size) ≡ true → ConjunctionSlip word
    conjunction_goes_on : {word size : ℕ} → Conjoins word size → sees (λ b. not (holds s.outer b || is_next_duration b)) text (word + size) ≡ true → ConjunctionSlip (word + size)

  -- ---- 20: a point while fractions are off, or a point with digits on neither side

  pub data FractionSlip : ℕ → Type 0 where
    fractions_off : {p : ℕ} → At number p → sees (is POINT) text (run (is DIGIT) text p) ≡ true → s.fractions ≡ false → FractionSlip (run (is DIGIT) text p)
    bare_point : {p : ℕ} → At number p → sees (is DIGIT) text p ≡ false → sees (is POINT) text p ≡ true → sees (is DIGIT) text (p + 1) ≡ false → FractionSlip p

  -- ---- 21: exponents are off, or where an exponent wants its first digit stands another byte

  pub data ExponentSlip : ℕ → Type 0 where
    exponents_off : {e : ℕ} → At exponent e → sees (same_letter 101) text e ≡ true → s.exponents ≡ false → ExponentSlip e
    no_digit : {e : ℕ} → At exponent e → sees (same_letter 101) text e ≡ true → s.exponents ≡ true → sees (λ b. not (is DIGIT b)) text (first_digit text e) ≡ true → ExponentSlip (first_digit text e)

  -- ---- 22: behind `inf`, which neither an end nor a connection follows: a wrong letter, an end within `inity`, or what follows the word is
  -- neither end nor connection

  -- the letters that are right behind `inf`, and the letter of `inity` that should come next
  pub record RightLetters (i : ℕ) (right : List ℕ) (w : ℕ) (rest : List ℕ) : Type 0 where
    pub comes : At infinity i
    pub more : closes_infinity s text (i + 3) ≡ false
    pub word : ascii "inity" ≡ right ++ w ∷ rest
    pub stand : says right text (i + 3) ≡ true

  pub data InfinitySlip : ℕ → Type 0 where
    wrong_letter : {i w : ℕ} {right rest : List ℕ} → RightLetters i right w rest → sees (λ b. not (same_letter w b)) text (i + 3 + length right) ≡ true → InfinitySlip (i + 3 + length right)
    ends_within : {i w : ℕ} {right rest : List ℕ} → RightLetters i right w rest → ends text (i + 3 + length right) ≡ true → InfinitySlip i
    word_goes_on : {i : ℕ} → At infinity i → closes_infinity s text (i + 3) ≡ false → says (ascii "inity") text (i + 3) ≡ true → closes_infinity s text (i + 3 + 5) ≡ false → InfinitySlip (i + 3 + 5)

  -- ---- by number

  -- what a number says of a place; of any other than the six, nothing
  unfoldable pub Says : ℕ → ℕ → Type 0
  Says n q =
      where_it_is n 17 (TextEnds q)
      (where_it_is n 18 (DelimitersEnd q)
      (where_it_is n 19 (ConjunctionSlip q)
      (where_it_is n 20 (FractionSlip q) (where_it_is n 21 (ExponentSlip q) (where_it_is n 22 (InfinitySlip q) (Unit {0}))))))
