-- "Numbers handed back": the number and the position of each refusal, and what an entry hands back. Assumes nothing.
use Rattle.std.specs.Prelude.{Bool, true, false, ℕ, ◌+◌}
use Rattle.rules.specs.declared.Length.{Length}
use Rattle.rules.specs.declared.Answer.{Answer}
use Rattle.rules.specs.declared.Refusal.{Refusal}
use Rattle.rules.specs.declared.Refusal.TheVariants.{Nothing, SignEnds, DelimiterEnds, FractionOff, FractionEmpty, ExponentOff, ExponentByte, ExponentEnds, ExponentAbove, ExponentBelow, InfinityByte, InfinityEnds, InfinityGoesOn, ConjunctionEnds, ConjunctionGoesOn, NegativeForbidden, NoNumber, NoUnit, OutOfRange, Delimiters, Conjunctions, DefaultKind, TableSize, BadRow, LineSize, BadLineRow, NumeralsSize, BadNumeral, WrongIndex, WrongLineIndex, TextTooLong, NoRoom, Beyond, Malformed, NotIso, YearOrMonth, TooLarge, NoStoredRow, NameTooLong}
use Rattle.rules.specs.ThePartOfTheCrateWeTake.{longest_text, zero_length}
use Rattle.std.specs.Prelude.{Result, ⊤}
pub use Rattle.std.specs.Prelude.{Ok as got, Err as refused}

-- what a step, a check or an entry comes to: something, or a refusal
abbrev pub Outcome : Type 0 → Type 0
Outcome A = Result A Refusal

infixl 20 ◌>>=◌ ◌>>◌
-- one after another: the first refusal stands
unfoldable pub ◌>>=◌ : {A B : Type 0} → Outcome A → (A → Outcome B) → Outcome B
got a >>= next = next a
refused cause >>= next = refused cause

unfoldable pub ◌>>◌ : {A B : Type 0} → Outcome A → Outcome B → Outcome B
got a >> next = next
refused cause >> next = refused cause

-- the refusal, unless the test passes
unfoldable pub unless : Refusal → Bool → Outcome (Unit {0})
unless cause true = got tt
unless cause false = refused cause

unfoldable pub number : Refusal → ℕ
number (Nothing p) = 1
number (SignEnds p) = 17
number (DelimiterEnds p) = 18
number (FractionOff p) = 20
number (FractionEmpty p) = 20
number (ExponentOff p) = 21
number (ExponentByte p) = 21
number (ExponentEnds p) = 17
number (ExponentAbove p) = 3
number (ExponentBelow p) = 4
number (InfinityByte p) = 22
number (InfinityEnds p) = 22
number (InfinityGoesOn p) = 22
number (ConjunctionEnds p) = 19
number (ConjunctionGoesOn p) = 19
number (NegativeForbidden p) = 5
number (NoNumber p) = 6
number (NoUnit p) = 15
number OutOfRange = 16
number Delimiters = 7
number Conjunctions = 7
number DefaultKind = 7
number TableSize = 7
number (BadRow i) = 7
number LineSize = 7
number (BadLineRow i) = 7
number NumeralsSize = 7
number (BadNumeral i) = 7
number (WrongIndex k) = 23
number (WrongLineIndex k) = 23
number TextTooLong = 8
number (NoRoom p) = 9
number (Beyond p) = 10
number Malformed = 11
number (NotIso p) = 12
number (YearOrMonth p) = 13
number TooLarge = 14
number (NoStoredRow i) = 24
number (NameTooLong i) = 25

unfoldable pub position : Refusal → ℕ
position (Nothing p) = p
position (SignEnds p) = p
position (DelimiterEnds p) = p
position (FractionOff p) = p
position (FractionEmpty p) = p
position (ExponentOff p) = p
position (ExponentByte p) = p
position (ExponentEnds p) = p
position (ExponentAbove p) = p
position (ExponentBelow p) = p
position (InfinityByte p) = p
position (InfinityEnds p) = p
position (InfinityGoesOn p) = p
position (ConjunctionEnds p) = p
position (ConjunctionGoesOn p) = p
position (NegativeForbidden p) = 0
position (NoNumber p) = p
position (NoUnit p) = p
position OutOfRange = 0
position Delimiters = 65
position Conjunctions = 66
position DefaultKind = 67
position TableSize = 64
position (BadRow i) = i
position LineSize = 128 + 64
position (BadLineRow i) = 128 + i
position NumeralsSize = 100
position (BadNumeral i) = 68 + i
position (WrongIndex k) = k
position (WrongLineIndex k) = 128 + k
position TextTooLong = longest_text
position (NoRoom p) = p
position (Beyond p) = p
position Malformed = 0
position (NotIso p) = p
position (YearOrMonth p) = p
position TooLarge = 0
position (NoStoredRow i) = i
position (NameTooLong i) = i

-- read or written: 0, the position and the length
unfoldable pub done : ℕ → Length → Answer
done place l = record { number = 0; position = place; length = l }

-- a refusal gives a plus-signed zero length
unfoldable pub refusal : Refusal → Answer
refusal cause = record { number = number cause; position = position cause; length = zero_length }

-- what came of it, handed back
unfoldable pub answered : {A : Type 0} → (A → Answer) → Outcome A → Answer
answered show (got a) = show a
answered show (refused cause) = refusal cause
