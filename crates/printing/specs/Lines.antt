-- The lines of a sheet. A sheet is a list of bytes, and a line the bytes before a newline, which is 10; a last line without newline
-- counts unless it is empty. Every other byte, the carriage return too, is a byte like any other. Assumes nothing.
use Rattle.std.specs.Prelude.{◌≡◌, Bool, List, [], ◌∷◌, ◌++◌, eqb}
use Rattle.std.proofs.Math.Bool.{not}
use Prim.Native.Nat.{ℕ, ◌-◌}
use Rattle.std.proofs.Math.ListN.{take, drop}
use Rattle.rules.specs.Common.{when◌then◌else◌, run}

abbrev pub newline : ℕ
newline = 10

unfoldable pub in_line : ℕ → Bool
in_line b = not (eqb b newline)

-- a byte at the start of the first line; alone it is a line
unfoldable pub before_first : ℕ → List (List ℕ) → List (List ℕ)
before_first b [] = (b ∷ []) ∷ []
before_first b (line ∷ more) = (b ∷ line) ∷ more

unfoldable pub lines : List ℕ → List (List ℕ)
lines [] = []
lines (b ∷ rest) = let more = lines rest in when in_line b then before_first b more else [] ∷ more

-- the place of the next newline, or the end of the sheet
unfoldable pub line_end : List ℕ → ℕ → ℕ
line_end sheet place = run in_line sheet place

-- the bytes from a place to the end of its line
abbrev pub line_at : List ℕ → ℕ → List ℕ
line_at sheet place = take (line_end sheet place - place) (drop place sheet)

-- ---- lines that are whole: what stands behind them begins a line

abbrev pub Whole : List ℕ → Type 0
Whole sheet = (rest : List ℕ) → lines (sheet ++ rest) ≡ lines sheet ++ lines rest
