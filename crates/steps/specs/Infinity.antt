-- Infinity up to its last letter: the step without the connection that follows it. Assumes nothing.
use Rattle.std.specs.Prelude.{◌≡◌, Bool, true, false, List, [], ◌∷◌, ℕ, suc, ◌+◌, ◌-◌, ◌≤◌, ◌<◌, leb, length, drop}
use Rattle.std.proofs.Math.Path.{refl, sym, ap}
use Rattle.std.proofs.Common.{◌∙◌, zero-le, suc-le-suc, add-zero, add-suc, suc-add, arith, length-drop}
use borrow.Author.Tests.{le-leb, lt-leb}
use Rattle.std.proofs.Math.Dec.{leb-suc-zero, leb-suc-suc}
use Rattle.rules.specs.declared.ByteSet.{ByteSet}
use Rattle.rules.specs.declared.Settings.{Settings}
use Rattle.rules.specs.declared.Refusal.TheVariants.{InfinityByte, InfinityEnds, InfinityGoesOn}
use Rattle.rules.specs.Common.{when◌then◌else◌, ascii, ends, sees}
use Rattle.rules.specs.NumbersHandedBack.{Outcome, got, refused, ◌>>=◌}
use Rattle.rules.specs.SettingsAndUnitTable.{holds}
use Rattle.rules.specs.ReadingOnePart.{same_letter, connection, closes_infinity, letters_step, infinity_closed, infinity_step}
use Rattle.rules.proofs.Laws.Outcomes.{bind_got, bind_refused}
use Rattle.steps.specs.Joined.{then_joined, if_joined}
use Rattle.steps.specs.Letters.{matching}

-- what closes the word, at the place after it
unfoldable pub word_closed : Settings → List ℕ → ℕ → Outcome ℕ
word_closed s text place = when closes_infinity s text place then got place else refused (InfinityGoesOn place)

-- `inity` after `inf`
unfoldable pub infinity_long : Settings → List ℕ → ℕ → Outcome ℕ
infinity_long s text inf = letters_step inf (ascii "inity") (drop (inf + 3) text) (inf + 3) >>= λ place. word_closed s text place

-- `inf`, or the whole word
unfoldable pub infinity_word : Settings → List ℕ → ℕ → Outcome ℕ
infinity_word s text inf = when closes_infinity s text (inf + 3) then got (inf + 3) else infinity_long s text inf

-- the step is the word, and then the connection
module _ (s : Settings) (text : List ℕ) where
  closed_then : (place : ℕ) → infinity_closed s text place ≡ (word_closed s text place >>= connection s text)
  unfolding infinity_closed word_closed ◌>>=◌
  closed_then place = if_joined _ _ _ _ refl refl

  pub infinity_then : (inf : ℕ) → infinity_step s text inf ≡ (infinity_word s text inf >>= λ next. connection s text next)
  unfolding infinity_step infinity_word infinity_long ◌>>=◌
  infinity_then inf =
      if_joined _ _ _ _ refl
      (then_joined _ (letters_step inf (ascii "inity") (drop (inf + 3) text) (inf + 3)) _ closed_then)

-- ---- letter by letter: all of them, the text's end before the last, or a wrong one

matching_most : (word rest : List ℕ) → matching word rest ≤ length word
unfolding matching when◌then◌else◌
matching_most [] rest = zero-le
matching_most (w ∷ word) [] = zero-le
matching_most (w ∷ word) (b ∷ rest) = go (same_letter w b) (matching_most word rest)
  where
    go : (c : Bool) → matching word rest ≤ length word → (when c then suc (matching word rest) else 0) ≤ suc (length word)
    go true h = suc-le-suc h
    go false h = zero-le

-- what the step comes to where so many letters of a word of so many match a rest of so many bytes
counted : ℕ → ℕ → ℕ → ℕ → ℕ → Outcome ℕ
counted inf place letters word rest =
    when leb word letters
    then got (place + word)
    else when leb rest letters then refused (InfinityEnds inf) else refused (InfinityByte (place + letters))

-- one letter more that matches
counted_next : (inf place letters word rest : ℕ) → counted inf (suc place) letters word rest ≡ counted inf place (suc letters) (suc word) (suc rest)
unfolding counted
counted_next inf place letters word rest =
    rw (leb-suc-suc word letters, leb-suc-suc rest letters, add-suc place word, add-suc place letters, suc-add place word, suc-add place letters)

-- the letters that match decide the step
letters_counted :
    (inf : ℕ) (word rest : List ℕ) (place : ℕ)
    → letters_step inf word rest place ≡ counted inf place (matching word rest) (length word) (length rest)
unfolding letters_step matching counted when◌then◌else◌
letters_counted inf [] rest place = ap got (sym (add-zero place))
letters_counted inf (w ∷ word) [] place = rw (leb-suc-zero (length word))
letters_counted inf (w ∷ word) (b ∷ rest) place = go (same_letter w b) (letters_counted inf word rest (suc place))
  where
    step : Outcome ℕ
    step = letters_step inf word rest (suc place)

    go :
        (c : Bool)
        → step ≡ counted inf (suc place) (matching word rest) (length word) (length rest)
        → (when c then step else refused (InfinityByte place))
        ≡ counted inf place (when c then suc (matching word rest) else 0) (suc (length word)) (suc (length rest))
    go true e = e ∙ counted_next inf place (matching word rest) (length word) (length rest)
    go false e = rw (leb-suc-zero (length word), leb-suc-zero (length rest), add-zero place)

pub five_most : (rest : List ℕ) → matching (ascii "inity") rest ≤ 5
unfolding ascii
five_most rest = matching_most (ascii "inity") rest

module _
    (s : Settings) (text : List ℕ) (inf : ℕ) (within : inf + 3 ≤ length text)
    {letters : ℕ} (m : letters ≡ matching (ascii "inity") (drop (inf + 3) text)) where
  five_counted : letters_step inf (ascii "inity") (drop (inf + 3) text) (inf + 3) ≡ counted inf (inf + 3) letters 5 (length text - (inf + 3))
  unfolding ascii
  five_counted = rw (m, ← (length-drop (inf + 3) text)) (letters_counted inf (ascii "inity") (drop (inf + 3) text) (inf + 3))

  pub long_ends : letters < 5 → length text ≤ inf + 3 + letters → refused (InfinityEnds inf) ≡ infinity_long s text inf
  unfolding infinity_long counted when◌then◌else◌
  long_ends h k = sym (bind_refused _ (five_counted ∙ rw (lt-leb 5 letters h, le-leb (length text - (inf + 3)) letters (omega arith))))

  pub long_byte : letters < 5 → inf + 3 + letters < length text → refused (InfinityByte (inf + 3 + letters)) ≡ infinity_long s text inf
  unfolding infinity_long counted when◌then◌else◌
  long_byte h k = sym (bind_refused _ (five_counted ∙ rw (lt-leb 5 letters h, lt-leb (length text - (inf + 3)) letters (omega arith))))

  module _ (h : 5 ≤ letters) where
    all_read : letters_step inf (ascii "inity") (drop (inf + 3) text) (inf + 3) ≡ got (inf + 3 + letters)
    unfolding counted when◌then◌else◌
    all_read = five_counted ∙ rw (le-leb 5 letters h) (ap (λ n. got (inf + 3 + n)) (omega (arith, five_most (drop (inf + 3) text))))

    pub long_closed : closes_infinity s text (inf + 3 + letters) ≡ true → got (inf + 3 + letters) ≡ infinity_long s text inf
    unfolding infinity_long word_closed when◌then◌else◌
    long_closed e = sym (bind_got _ all_read ∙ rw e)

    pub long_goes_on :
        closes_infinity s text (inf + 3 + letters) ≡ false
        → refused (InfinityGoesOn (inf + 3 + letters)) ≡ infinity_long s text inf
    unfolding infinity_long word_closed when◌then◌else◌
    long_goes_on e = sym (bind_got _ all_read ∙ rw e)

module _ (s : Settings) (text : List ℕ) (inf : ℕ) where
  pub word_short : closes_infinity s text (inf + 3) ≡ true → got (inf + 3) ≡ infinity_word s text inf
  unfolding infinity_word when◌then◌else◌
  word_short e = rw e

  pub word_long : closes_infinity s text (inf + 3) ≡ false → infinity_long s text inf ≡ infinity_word s text inf
  unfolding infinity_word when◌then◌else◌
  word_long e = rw e

module _ (s : Settings) (text : List ℕ) (place : ℕ) where
  pub closes_end : length text ≤ place → true ≡ closes_infinity s text place
  unfolding closes_infinity ends
  closes_end h = rw (le-leb (length text) place h)

  pub closes_here : place < length text → {outer : ByteSet} → s.outer ≡ outer → sees (holds outer) text place ≡ closes_infinity s text place
  unfolding closes_infinity ends
  closes_here h o = ap (λ set. sees (holds set) text place) (sym o) ∙ rw (lt-leb (length text) place h)
