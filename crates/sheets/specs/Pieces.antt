-- A sheet that is read in pieces. Whatever the pieces are, a run that answers whole lines, keeps of a line without end what changes its
-- answer, and reads on, prints what is printed for the whole sheet. Assumes nothing.
use Rattle.std.specs.Prelude.{◌≡◌, Bool, true, false, leb, eqb, take}
use Rattle.std.proofs.Math.Path.{refl, sym, ap}
use Rattle.std.proofs.Common.{◌∙◌, arith, leb-true, leb-false, length-append, take_all}
use mathlib.Core.List.{List, [], ◌∷◌, ◌++◌, append_assoc, append-nil}
use Prim.Native.Nat.{ℕ, zero, suc, ◌+◌, ◌*◌, ◌-◌, ◌≤◌, ◌<◌, zero-le, suc-le-suc}
use Rattle.std.proofs.Math.ListN.{length}
use Rattle.rules.specs.declared.Answer.{Answer}
use Rattle.rules.specs.Common.{when◌then◌else◌, all}
use Rattle.rules.specs.SettingsAndUnitTable.{Card}
use Rattle.rules.specs.WhatEveryEntryOwes.{total_answer}
use Rattle.rules.specs.WriterAndShiftTotal.{no_leading_zeros, decimals, second_digits, whole_digits}
use Rattle.writing.specs.Digits.{decimals_length}
use Rattle.sheets.specs.declared.answering.Progress.{Progress}
use Rattle.printing.specs.Lines.{newline, in_line, lines, line_end, line_at, Whole}
use Rattle.printing.proofs.Lines.{line_then, line_last, end_from, end_line, whole_nothing}
use Rattle.printing.specs.Printed.{space, field, printed, line_printed, printed_all, sheet_printed, kept_of}
use Rattle.printing.proofs.Printed.{printed_both, sheet_kept}
use Rattle.sheets.specs.Answering.{answered_to, going_on, on_end, on_full, on_more, whole_line}

unfoldable pub joined : List (List ℕ) → List ℕ
joined [] = []
joined (piece ∷ more) = piece ++ joined more

module _ (card : Card) where
  -- a run that holds some bytes and has some pieces to read prints, from here on, what is printed for all of them
  abbrev pub Right : List ℕ → List (List ℕ) → List ℕ → Type 0
  Right held pieces out = out ≡ sheet_printed card (held ++ joined pieces)

  -- it reads the next piece behind what it holds
  pub reads : (held piece : List ℕ) (more : List (List ℕ)) {out : List ℕ} → Right (held ++ piece) more out → Right held (piece ∷ more) out
  unfolding joined
  reads held piece more right = right ∙ ap (sheet_printed card) (append_assoc held piece (joined more))

  -- it answers whole lines, and goes on behind them
  pub answers :
      (whole rest : List ℕ) (more : List (List ℕ)) {out : List ℕ}
      → Whole whole
      → Right rest more out
      → Right (whole ++ rest) more (sheet_printed card whole ++ out)
  unfolding sheet_printed
  answers whole rest more w right =
      ap (λ l. sheet_printed card whole ++ l) right
      ∙ sym (ap (printed_all card) (w (rest ++ joined more)) ∙ printed_both card (lines whole) (lines (rest ++ joined more)))
      ∙ ap (sheet_printed card) (sym (append_assoc whole rest (joined more)))

  -- it keeps of a line that has not ended what changes its answer
  pub keeps : (line : List ℕ) (more : List (List ℕ)) {out : List ℕ} → all in_line line ≡ true → Right (kept_of line) more out → Right line more out
  keeps line more clean right = right ∙ sym (sheet_kept card line (joined more) clean)

  -- nothing is left to read: the last line is answered, if it is not empty, as if a newline stood behind it
  pub ends_empty : Right [] [] []
  unfolding joined sheet_printed printed_all lines
  ends_empty = refl

  pub ends : (line : List ℕ) → all in_line line ≡ true → 0 < length line → Right line [] (sheet_printed card (line ++ newline ∷ []))
  unfolding joined sheet_printed lines
  ends line clean some = ap (printed_all card) (line_then line clean [] ∙ sym (ap lines (append-nil line) ∙ line_last line clean some))

-- ---- how far a chunk is answered: whole lines, and all of them if a line's answer has room

-- the most bytes that are printed for an answer: four numbers of at most twenty digits, and six bytes between and behind them
abbrev pub most_printed : ℕ
most_printed = 4 * second_digits + 6

shorter : (digits : List ℕ) → length (no_leading_zeros digits) ≤ length digits
unfolding no_leading_zeros when◌then◌else◌
shorter [] = zero-le
shorter (d ∷ []) = suc-le-suc zero-le
shorter (d ∷ e ∷ digits) = go (eqb d 48) (shorter (e ∷ digits))
  where
    go : (b : Bool) → length (no_leading_zeros (e ∷ digits)) ≤ suc (length digits) → length (when b then no_leading_zeros (e ∷ digits) else d ∷ e ∷ digits) ≤ suc (suc (length digits))
    go true h = omega arith
    go false h = omega arith

field_most : (n behind : ℕ) → length (field n behind) ≤ second_digits + 1
unfolding field whole_digits
field_most n behind =
    omega (arith, length-append (no_leading_zeros (decimals second_digits n)) (behind ∷ []), shorter (decimals second_digits n), decimals_length second_digits n)

pub printed_most : (a : Answer) → length (printed a) ≤ most_printed
unfolding printed
printed_most a =
    simp length-append
    (omega (
      arith,
      field_most a.number space,
      field_most a.position space,
      field_most a.length.seconds space,
      field_most a.length.nanoseconds newline,
    ))

module _ (card : Card) (sheet : List ℕ) (room : ℕ) where
  abbrev Come : ℕ → Progress → Type 0
  Come from p = (from ≤ p.read) × Whole (take p.read sheet)

  come_step :
      (from place : ℕ)
      → Whole (take from sheet)
      → (line_end sheet from < length sheet → (n : ℕ) → Come (line_end sheet from + 1) (going_on card sheet room (line_end sheet from + 1) n))
      → Come from (going_on card sheet room from place)
  come_step from place whole on = ended (leb (length sheet) (line_end sheet from)) refl
    where
      size : ℕ
      size = length (line_printed card (line_at sheet from))

      stays_here : record { read = from; printed = place } ≡ going_on card sheet room from place → Come from (going_on card sheet room from place)
      stays_here e = rw (← e) (omega arith, whole)

      full : line_end sheet from < length sheet → (b : Bool) → leb (place + size) room ≡ b → Come from (going_on card sheet room from place)
      full h true e =
          let more = on h (place + size) in
          rw (← (on_more card sheet room from place h (leb-true (place + size) room e))) (omega (arith, more.0, end_from sheet from), more.1)
      full h false e = stays_here (on_full card sheet room from place h (leb-false (place + size) room e))

      ended : (b : Bool) → leb (length sheet) (line_end sheet from) ≡ b → Come from (going_on card sheet room from place)
      ended true e = stays_here (on_end card sheet room from place (leb-true (length sheet) (line_end sheet from) e))
      ended false e = full (leb-false (length sheet) (line_end sheet from) e) (leb (place + size) room) refl

  come_on : (fuel from place : ℕ) → length sheet ≤ from + fuel → Whole (take from sheet) → Come from (going_on card sheet room from place)
  come_on zero from place enough whole = come_step from place whole (λ h n. absurd (omega (arith, end_from sheet from)))
  come_on (suc fuel) from place enough whole =
      come_step from place whole
      (λ h n. come_on fuel (line_end sheet from + 1) n (omega (arith, end_from sheet from)) (whole_line sheet from h))

  -- what has been answered is whole lines
  pub answered_whole : Whole (take (answered_to card sheet room).read sheet)
  unfolding answered_to going_on lines
  answered_whole = (come_on (length sheet) 0 0 (omega arith) whole_nothing).1

  -- where nothing has been answered, though a line's answer has room, there is no newline
  pub answered_nothing : (answered_to card sheet room).read ≡ 0 → most_printed ≤ room → all in_line sheet ≡ true
  unfolding answered_to going_on
  answered_nothing none enough = go (leb (length sheet) (line_end sheet 0)) refl
    where
      some : line_end sheet 0 < length sheet → 0 < (answered_to card sheet room).read
      some h =
          let size : ℕ = length (line_printed card (line_at sheet 0)) in
          let more : going_on card sheet room (line_end sheet 0 + 1) (0 + size) ≡ answered_to card sheet room =
          on_more card sheet room 0 0 h (omega (arith, printed_most (total_answer card (line_at sheet 0)))) in
          let further = (come_on (length sheet) (line_end sheet 0 + 1) (0 + size) (omega arith) (whole_line sheet 0 h)).0 in
          omega (arith, ap (λ p. p.read) more, further)

      go : (b : Bool) → leb (length sheet) (line_end sheet 0) ≡ b → all in_line sheet ≡ true
      go true e = rw (take_all (line_end sheet 0 - 0) sheet (omega (arith, leb-true (length sheet) (line_end sheet 0) e))) at (end_line sheet 0)
      go false e = absurd (omega (arith, some (leb-false (length sheet) (line_end sheet 0) e)))
