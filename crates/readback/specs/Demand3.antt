-- Demand 3: what the writer writes reads back. Lengths are written one after another, each with its sign, and none that fits is refused;
-- read part by part, and in total, they are those lengths in that order, and their sum. Assumes nothing.
use Rattle.std.specs.Prelude.{◌≡◌}
use mathlib.Core.List.{List, [], ◌∷◌, ◌++◌}
use Prim.Native.Nat.{ℕ}
use Rattle.std.proofs.Math.ListN.{length}
use Rattle.rules.specs.declared.Length.{Length}
use Rattle.rules.specs.NumbersHandedBack.{got}
use Rattle.rules.specs.SettingsAndUnitTable.{Card}
use Rattle.rules.specs.WriterAndShiftTotal.{written}
use Rattle.rules.specs.WhatEveryEntryOwes.{read_part, write_answer, written_buffer}

-- the written forms, one after another
unfoldable pub written_all : List Length → List ℕ
written_all [] = []
written_all (l ∷ more) = written l ++ written_all more

-- ---- 1. writing

-- the lengths written one after another, each at the place that the answer before it hands back: the numbers answered, and the buffer then
unfoldable pub numbers_answered : List Length → List ℕ → ℕ → List ℕ
numbers_answered [] buffer place = []
numbers_answered (l ∷ more) buffer place =
    (write_answer l buffer place).number ∷ numbers_answered more (written_buffer l buffer place) (write_answer l buffer place).position

unfoldable pub buffer_then : List Length → List ℕ → ℕ → List ℕ
buffer_then [] buffer place = buffer
buffer_then (l ∷ more) buffer place = buffer_then more (written_buffer l buffer place) (write_answer l buffer place).position

-- ---- 2. reading back

-- from the place on, read part by part, each at the place that was handed back, up to the end of the text
pub data ReadsTo (card : Card) (text : List ℕ) : ℕ → List Length → Type 0 where
  at_end : {place : ℕ} → place ≡ length text → ReadsTo card text place []
  one_more :
      {place next : ℕ} {l : Length} {more : List Length}
      → read_part card text place ≡ got (record { length = l; next = next })
      → ReadsTo card text next more
      → ReadsTo card text place (l ∷ more)
