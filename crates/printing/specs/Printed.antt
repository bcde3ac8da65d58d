-- What is printed for an answer, and for a sheet. A byte is written as its number: 10 is the newline, 32 the space. Assumes nothing.
use Rattle.std.specs.Prelude.{◌≡◌, Bool, true, false, leb}
use Rattle.std.proofs.Math.Path.{refl, sym}
use Rattle.std.proofs.Common.{arith, le-leb, leb-true, leb-false}
use mathlib.Core.List.{List, [], ◌∷◌, ◌++◌}
use Prim.Native.Nat.{ℕ, ◌+◌, ◌≤◌, ◌<◌}
use Rattle.std.proofs.lemmas.Bool.{lt-leb}
use Rattle.std.proofs.Math.ListN.{length, take, length-append}
use Rattle.rules.specs.declared.Answer.{Answer}
use Rattle.rules.specs.Common.{when◌then◌else◌}
use Rattle.rules.specs.ThePartOfTheCrateWeTake.{longest_text}
use Rattle.rules.specs.SettingsAndUnitTable.{Card}
use Rattle.rules.specs.WriterAndShiftTotal.{sign_byte, whole_digits}
use Rattle.rules.specs.WhatEveryEntryOwes.{total_answer}
use Rattle.writing.specs.Laid.{laid}
use Rattle.printing.specs.Lines.{newline, lines}

abbrev pub space : ℕ
space = 32

-- a number without needless zeros, and the byte behind it
unfoldable pub field : ℕ → ℕ → List ℕ
field n behind = whole_digits n ++ behind ∷ []

-- number, position, sign, seconds, nanoseconds
unfoldable pub printed : Answer → List ℕ
printed a =
    field a.number space
    ++ field a.position space
    ++ sign_byte a.length.negative
    ∷ space
    ∷ field a.length.seconds space
    ++ field a.length.nanoseconds newline

-- for a line what is printed for its total
abbrev pub line_printed : Card → List ℕ → List ℕ
line_printed card line = printed (total_answer card line)

unfoldable pub printed_all : Card → List (List ℕ) → List ℕ
printed_all card [] = []
printed_all card (line ∷ more) = line_printed card line ++ printed_all card more

-- for a sheet what is printed for its lines, one after another
unfoldable pub sheet_printed : Card → List ℕ → List ℕ
sheet_printed card sheet = printed_all card (lines sheet)

-- of a line that has not ended as many bytes as the longest text has, and one more: what it has beyond them changes no answer
abbrev pub kept_of : List ℕ → List ℕ
kept_of line = take (longest_text + 1) line

-- ---- an answer printed at a place of a buffer, if the buffer has room for it there

unfoldable pub fits : Answer → List ℕ → ℕ → Bool
fits a buffer place = leb (place + length (printed a)) (length buffer)

-- the place behind it; the same place, if there is no room
unfoldable pub printed_next : Answer → List ℕ → ℕ → ℕ
printed_next a buffer place = when fits a buffer place then place + length (printed a) else place

-- no other byte changes, and none if there is no room
unfoldable pub printed_buffer : Answer → List ℕ → ℕ → List ℕ
printed_buffer a buffer place = when fits a buffer place then laid buffer place (printed a) else buffer

module _ (a : Answer) (buffer : List ℕ) (place : ℕ) where
  pub no_room : length buffer < place + length (printed a) → (place ≡ printed_next a buffer place) × (buffer ≡ printed_buffer a buffer place)
  unfolding printed_next printed_buffer fits when◌then◌else◌
  no_room h = rw (lt-leb (place + length (printed a)) (length buffer) h) (refl, refl)

  pub put_there : place + length (printed a) ≤ length buffer → (place + length (printed a) ≡ printed_next a buffer place) × (laid buffer place (printed a) ≡ printed_buffer a buffer place)
  unfolding printed_next printed_buffer fits when◌then◌else◌
  put_there h = rw (le-leb (place + length (printed a)) (length buffer) h) (refl, refl)

  -- something is always printed, so the same place says that there is no room, and another one that there is
  something : 0 < length (printed a)
  unfolding printed field
  something = simp length-append (omega arith)

  pub stays : printed_next a buffer place ≡ place → length buffer < place + length (printed a)
  stays e = go (leb (place + length (printed a)) (length buffer)) refl
    where
      go : (b : Bool) → leb (place + length (printed a)) (length buffer) ≡ b → length buffer < place + length (printed a)
      go true f = absurd (omega (arith, something, (put_there (leb-true _ _ f)).0))
      go false f = leb-false _ _ f

  pub moves : (printed_next a buffer place ≡ place → ⊥) → place + length (printed a) ≤ length buffer
  moves e = go (leb (place + length (printed a)) (length buffer)) refl
    where
      go : (b : Bool) → leb (place + length (printed a)) (length buffer) ≡ b → place + length (printed a) ≤ length buffer
      go true f = leb-true _ _ f
      go false f = absurd (e (sym (no_room (leb-false _ _ f)).0))
