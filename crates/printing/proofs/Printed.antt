-- Laws of what is printed for a sheet. Assumes nothing.
use Rattle.std.specs.Prelude.{◌≡◌, Bool, true, false, leb, drop}
use Rattle.std.proofs.Math.Path.{refl, sym, ap}
use Rattle.std.proofs.Common.{◌∙◌, arith, leb-true, leb-false, take-append-drop, take_all}
use mathlib.Core.List.{List, [], ◌∷◌, ◌++◌, append_assoc}
use Prim.Native.Nat.{ℕ, suc, ◌+◌, ◌<◌}
use Rattle.std.proofs.lemmas.Bool.{lt-leb}
use Rattle.std.proofs.Math.ListN.{length, take, length-append}
use Rattle.std.proofs.Math.Seq.{length-take-le}
use Rattle.rules.specs.declared.Refusal.TheVariants.{TextTooLong}
use Rattle.rules.specs.Common.{all, front}
use Rattle.rules.specs.ThePartOfTheCrateWeTake.{longest_text}
use Rattle.rules.specs.NumbersHandedBack.{Outcome, got, refused, ◌>>◌, unless, done, answered}
use Rattle.rules.specs.SettingsAndUnitTable.{Card, card_check}
use Rattle.rules.specs.WhatEveryEntryOwes.{read_total, total_answer}
use Rattle.rules.proofs.Laws.Choices.{and_left}
use Rattle.rules.proofs.Laws.Lists.{all_both}
use Rattle.printing.specs.Lines.{newline, in_line, lines}
use Rattle.printing.proofs.Lines.{line_goes_on, newline_cuts}
use Rattle.printing.specs.Printed.{printed, printed_all, sheet_printed, kept_of}

-- ---- laws of what is printed for a sheet

all_take : (n : ℕ) (line : List ℕ) → all in_line line ≡ true → all in_line (take n line) ≡ true
unfolding all
all_take n line e = and_left _ _ (sym (all_both in_line (take n line) (drop n line)) ∙ ap (all in_line) (take-append-drop n line) ∙ e)

module _ (card : Card) where
  pub printed_both : (these those : List (List ℕ)) → printed_all card (these ++ those) ≡ printed_all card these ++ printed_all card those
  unfolding printed_all
  printed_both [] those = refl
  printed_both (line ∷ these) those = rw (printed_both these those, append_assoc)

  -- a sheet may be cut behind any newline
  pub sheet_cut : (sheet rest : List ℕ) → sheet_printed card (sheet ++ newline ∷ rest) ≡ sheet_printed card (sheet ++ newline ∷ []) ++ sheet_printed card rest
  unfolding sheet_printed
  sheet_cut sheet rest = ap (printed_all card) (newline_cuts sheet rest) ∙ printed_both (lines (sheet ++ newline ∷ [])) (lines rest)

  -- texts that are too long have one answer, whatever they hold
  long_answer : (text : List ℕ) → longest_text < length text → total_answer card text ≡ answered (done 0) (card_check card >> refused TextTooLong)
  unfolding total_answer read_total answered unless ◌>>◌
  long_answer text long = rw (lt-leb (length text) longest_text long) (go (card_check card))
    where
      go : (o : Outcome (Unit {0})) → answered (done (length text)) (o >> refused TextTooLong) ≡ answered (done 0) (o >> refused TextTooLong)
      go (got a) = refl
      go (refused cause) = refl

  -- of a line that is too long so much is enough, whatever stands behind it
  pub sheet_long :
      (line rest : List ℕ)
      → all in_line line ≡ true
      → longest_text < length line
      → sheet_printed card (line ++ rest) ≡ sheet_printed card (kept_of line ++ rest)
  unfolding sheet_printed printed_all
  sheet_long line rest clean long =
      let most : ℕ = longest_text + 1 in
      let size : length (take most line) ≡ most = length-take-le most line (omega arith) in
      let first : ℕ = front in_line rest in
      ap (printed_all card) (line_goes_on line clean rest (omega arith))
      ∙ ap (λ a. printed a ++ printed_all card (lines (drop (suc first) rest)))
      (long_answer (line ++ take first rest) (omega (arith, length-append line (take first rest)))
      ∙ sym (long_answer (take most line ++ take first rest) (omega (arith, length-append (take most line) (take first rest), size))))
      ∙ sym (ap (printed_all card) (line_goes_on (take most line) (all_take most line clean) rest (omega (arith, size))))

  -- and of any other line it is all
  pub sheet_kept : (line rest : List ℕ) → all in_line line ≡ true → sheet_printed card (line ++ rest) ≡ sheet_printed card (kept_of line ++ rest)
  sheet_kept line rest clean = go (leb (length line) longest_text) refl
    where
      go : (b : Bool) → leb (length line) longest_text ≡ b → sheet_printed card (line ++ rest) ≡ sheet_printed card (kept_of line ++ rest)
      go true e = rw (take_all (longest_text + 1) line (omega (arith, leb-true (length line) longest_text e)))
      go false e = sheet_long line rest clean (leb-false (length line) longest_text e)
