-- Sets of two words, and two sets as one. Assumes nothing.
use Rattle.std.specs.Prelude.{Bool, ℕ}
use Rattle.std.specs.Bool.{beq}
use Rattle.std.specs.Int.Bits.{bit_or}
use Rattle.rules.specs.declared.ByteSet.{ByteSet}
use Rattle.rules.specs.SettingsAndUnitTable.{holds}
use Rattle.settings.specs.declared.sets.AsciiSet.{AsciiSet}

-- the set of bytes that a set of two words is
unfoldable pub bytes_of : AsciiSet → ByteSet
bytes_of set = record { word0 = set.low; word1 = set.high; word2 = 0; word3 = 0 }

-- the bytes that one of two sets holds
unfoldable pub either : ByteSet → ByteSet → ByteSet
either a b = record {
  word0 = bit_or a.word0 b.word0;
  word1 = bit_or a.word1 b.word1;
  word2 = bit_or a.word2 b.word2;
  word3 = bit_or a.word3 b.word3;
}

-- in the set or, with held false, outside it
unfoldable pub passes : ByteSet → Bool → ℕ → Bool
passes set held b = beq (holds set b) held
