-- Numbers of two words. Assumes nothing.
use Rattle.std.specs.Prelude.{◌≡◌, List, ℕ, ◌+◌, ◌*◌, ◌/◌, ◌%◌, ◌^◌, ◌<◌, length}
use Rattle.lengths.specs.declared.wide.Wide.{Wide}
use Rattle.lengths.specs.declared.wide.Divided.{Divided}
use Rattle.lengths.specs.Columns.{put_together, columns, Below}

-- the number that two words hold
abbrev pub value : Wide → ℕ
value w = w.high * 2 ^ 64 + w.low

-- a word in pieces: four, each of sixteen bits
pub record InPieces (x : List ℕ) : Type 0 where
  pub four : length x ≡ 4
  pub below : Below (2 ^ 16) x

-- r is four columns from a position on and what is carried into them; what its high word carries on is small
pub record Carries (x y : List ℕ) (from carried : ℕ) (r : Wide) : Type 0 where
  pub all : value r ≡ carried + put_together (2 ^ 16) (columns x y from 4)
  pub small : r.high < 2 ^ 32

-- r is what division of n by d gives
pub record Divides (n : Wide) (d : ℕ) (r : Divided) : Type 0 where
  pub quotient : value r.quotient ≡ value n / d
  pub remainder : r.remainder ≡ value n % d
