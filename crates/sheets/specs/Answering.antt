-- How far a sheet is answered into a buffer, and what the buffer then holds. Assumes nothing.
use Rattle.std.specs.Prelude.{◌≡◌, Bool, ◌&&◌, take, drop}
use Rattle.std.proofs.Math.Path.{refl, sym, ap}
use Rattle.std.proofs.Common.{◌∙◌, add-one, length-append, drop_of_length-le, take-add, take-suc}
use Rattle.std.proofs.Math.Bool.{true, false}
use mathlib.Core.List.{List, [], ◌∷◌, ◌++◌, append_assoc, append-nil}
use Prim.Native.Nat.{ℕ, ◌+◌, ◌-◌, ◌≤◌, ◌<◌}
use native.Mathlib.Omega.{arith}
use borrow.Author.Tests.{le-leb, lt-leb, leb-true, leb-false}
use Rattle.std.proofs.Math.Dec.{leb}
use Rattle.std.proofs.Math.ListN.{length, length-drop}
use Rattle.std.proofs.Math.Seq.{length-take-le}
use Rattle.rules.specs.declared.Answer.{Answer}
use Rattle.rules.specs.Common.{when◌then◌else◌}
use Rattle.rules.specs.SettingsAndUnitTable.{Card}
use Rattle.rules.specs.WhatEveryEntryOwes.{total_answer}
use Rattle.rules.proofs.Laws.Tests.{and_false}
use Rattle.writing.specs.Laid.{laid, laid_length, laid_then, laid_nothing}
use Rattle.sheets.specs.declared.answering.Progress.{Progress}
use Rattle.printing.specs.Lines.{newline, lines, line_end, line_at, Whole}
use Rattle.printing.proofs.Lines.{lines_at, line_then, end_from, end_within, end_line, end_newline, whole_nothing, whole_closed}
use Rattle.printing.specs.Printed.{printed as printed_form, line_printed, printed_all, sheet_printed, printed_next, printed_buffer, stays, moves, no_room, put_there}
use Rattle.printing.proofs.Printed.{printed_both}

-- line by line from what has been read and printed, as long as a line has its newline and what is printed for it fits the room
unfoldable pub come : (List ℕ → List ℕ) → ℕ → ℕ → List (List ℕ) → Progress → Progress
come print size room [] p = p
come print size room (line ∷ more) p =
    let next : Progress = record { read = p.read + length line + 1; printed = p.printed + length (print line) } in
    let on = come print size room more next in
    when leb next.read size && leb next.printed room then on else p

-- how far a sheet is answered into a buffer with so much room
unfoldable pub answered_to : Card → List ℕ → ℕ → Progress
answered_to card sheet room = come (line_printed card) (length sheet) room (lines sheet) (record { read = 0; printed = 0 })

-- the lines of a sheet from a place on
unfoldable pub going_on : Card → List ℕ → ℕ → ℕ → ℕ → Progress
going_on card sheet room from place =
    come (line_printed card) (length sheet) room (lines (drop from sheet)) (record { read = from; printed = place })

module _ (card : Card) (sheet : List ℕ) (room from place : ℕ) where
  end : ℕ
  end = line_end sheet from

  size : ℕ
  size = length (line_printed card (line_at sheet from))

  nothing_there : length sheet ≤ from → record { read = from; printed = place } ≡ going_on card sheet room from place
  unfolding going_on come lines
  nothing_there h = rw (drop_of_length-le sheet h)

  -- a line is there: it is answered, or nothing more is
  at_line :
      from < length sheet
      → going_on card sheet room from place
      ≡ (when leb (end + 1) (length sheet) && leb (place + size) room then going_on card sheet room (end + 1) (place + size) else record { read = from; printed = place })
  unfolding going_on come end size
  at_line h =
      let inside : line_end sheet from ≤ length sheet = end_within sheet from (omega arith) in
      let ends : from + length (line_at sheet from) + 1 ≡ line_end sheet from + 1 =
      omega (
        arith,
        end_from sheet from,
        length-take-le (line_end sheet from - from) (drop from sheet) (omega (arith, length-drop from sheet)),
      ) in
      rw (lines_at sheet from h, ends)

  -- without a newline it is not answered
  pub on_end : length sheet ≤ line_end sheet from → record { read = from; printed = place } ≡ going_on card sheet room from place
  unfolding end size when◌then◌else◌
  on_end last = go (leb (length sheet) from) refl
    where
      go : (b : Bool) → leb (length sheet) from ≡ b → record { read = from; printed = place } ≡ going_on card sheet room from place
      go true e = nothing_there (leb-true (length sheet) from e)
      go false e = sym (at_line (leb-false (length sheet) from e) ∙ rw (lt-leb (line_end sheet from + 1) (length sheet) (omega arith)))

  module _ (inside : line_end sheet from < length sheet) where
    some : from < length sheet
    some = omega (arith, end_from sheet from)

    pub on_full : room < place + length (line_printed card (line_at sheet from)) → record { read = from; printed = place } ≡ going_on card sheet room from place
    unfolding end size when◌then◌else◌
    on_full h = sym (at_line some ∙ rw (lt-leb _ room h, and_false))

    pub on_more :
        place + length (line_printed card (line_at sheet from)) ≤ room
        → going_on card sheet room (line_end sheet from + 1) (place + length (line_printed card (line_at sheet from))) ≡ going_on card sheet room from place
    unfolding end size when◌then◌else◌
    on_more h = sym (at_line some ∙ rw (le-leb (line_end sheet from + 1) (length sheet) (omega arith), le-leb _ room h))

-- ---- what is printed for the lines up to a place

module _ (sheet : List ℕ) (from : ℕ) (inside : line_end sheet from < length sheet) where
  closed : take (line_end sheet from + 1) sheet ≡ take (line_end sheet from) sheet ++ newline ∷ []
  closed =
      ap (λ n. take n sheet) (add-one (line_end sheet from))
      ∙ take-suc sheet (line_end sheet from) 0 inside
      ∙ ap (λ b. take (line_end sheet from) sheet ++ b ∷ []) (end_newline sheet from inside)

  one_line_more : take (line_end sheet from + 1) sheet ≡ take from sheet ++ (line_at sheet from ++ newline ∷ [])
  one_line_more =
      let sum : line_end sheet from ≡ from + (line_end sheet from - from) = omega (arith, end_from sheet from) in
      closed
      ∙ ap (λ l. l ++ newline ∷ []) (ap (λ n. take n sheet) sum ∙ take-add from (line_end sheet from - from) sheet)
      ∙ append_assoc (take from sheet) (line_at sheet from) (newline ∷ [])

  pub whole_line : Whole (take (line_end sheet from + 1) sheet)
  whole_line = rw closed (whole_closed (take (line_end sheet from) sheet))

  pub printed_line :
      (card : Card)
      → Whole (take from sheet)
      → sheet_printed card (take (line_end sheet from + 1) sheet) ≡ sheet_printed card (take from sheet) ++ line_printed card (line_at sheet from)
  unfolding sheet_printed printed_all lines
  printed_line card whole =
      let line : List ℕ = line_at sheet from in
      ap (λ l. printed_all card (lines l)) one_line_more
      ∙ ap (printed_all card) (whole (line ++ newline ∷ []) ∙ ap (λ l. lines (take from sheet) ++ l) (line_then line (end_line sheet from) []))
      ∙ printed_both card (lines (take from sheet)) (line ∷ [])
      ∙ ap (λ l. sheet_printed card (take from sheet) ++ l) (append-nil (line_printed card line))

-- ---- the lines before a place have been answered

pub record Answered (card : Card) (sheet before now : List ℕ) (read printed : ℕ) : Type 0 where
  pub came : going_on card sheet (length before) read printed ≡ answered_to card sheet (length before)
  pub holds : now ≡ laid before 0 (sheet_printed card (take read sheet))
  pub so_far : printed ≡ length (sheet_printed card (take read sheet))
  pub fits : printed ≤ length before
  pub inside : read ≤ length sheet
  pub whole : Whole (take read sheet)

pub none_answered : (card : Card) (sheet before : List ℕ) → Answered card sheet before before 0 0
unfolding going_on answered_to sheet_printed printed_all lines
none_answered card sheet before = record {
  came = refl;
  holds = laid_nothing before 0;
  so_far = refl;
  fits = omega arith;
  inside = omega arith;
  whole = whole_nothing;
}

module _ {card : Card} {sheet before now : List ℕ} {read printed : ℕ} (a : Answered card sheet before now read printed) where
  pub answered_length : length now ≡ length before
  answered_length = ap length a.holds ∙ laid_length before 0 (sheet_printed card (take read sheet)) (omega (arith, a.so_far, a.fits))

  pub one_answered :
      line_end sheet read < length sheet
      → printed + length (line_printed card (line_at sheet read)) ≤ length before
      → Answered card sheet before (laid now printed (line_printed card (line_at sheet read))) (line_end sheet read + 1) (printed + length (line_printed card (line_at sheet read)))
  one_answered inside fits =
      let line : List ℕ = line_printed card (line_at sheet read) in
      let more : sheet_printed card (take (line_end sheet read + 1) sheet) ≡ sheet_printed card (take read sheet) ++ line = printed_line sheet read inside card a.whole in
      record {
        came = on_more card sheet (length before) read printed inside fits ∙ a.came;
        holds =
            ap (λ b. laid b printed line) a.holds
            ∙ laid_then before 0 printed (sheet_printed card (take read sheet)) line (omega (arith, a.so_far)) (omega arith)
            ∙ ap (laid before 0) (sym more);
        so_far = rw (more, length-append (sheet_printed card (take read sheet)) line, ← a.so_far);
        fits = fits;
        inside = omega arith;
        whole = whole_line sheet read inside;
      }

  -- the next line's answer, printed where there is room for it
  module _
      {end next : ℕ} {answer : Answer} {after : List ℕ}
      (at : end ≡ line_end sheet read)
      (ends : end < length sheet)
      (answers : answer ≡ total_answer card (line_at sheet read))
      (moved : next ≡ printed_next answer now printed)
      (held : after ≡ printed_buffer answer now printed)
    where
      inside_line : line_end sheet read < length sheet
      inside_line = rw at at ends

      line_size : length (printed_form answer) ≡ length (line_printed card (line_at sheet read))
      line_size = ap (λ x. length (printed_form x)) answers

      pub full : next ≡ printed → (record { read = read; printed = printed } ≡ answered_to card sheet (length before)) × (now ≡ after)
      full same =
          let no : length now < printed + length (printed_form answer) = stays answer now printed (sym moved ∙ same) in (
            on_full card sheet (length before) read printed inside_line (omega (arith, line_size, answered_length)) ∙ a.came,
            (no_room answer now printed no).1 ∙ sym held,
          )

      pub more : (next ≡ printed → ⊥) → Answered card sheet before after (end + 1) next
      more other =
          let fits : printed + length (printed_form answer) ≤ length now = moves answer now printed (λ same. other (moved ∙ same)) in
          let there = put_there answer now printed fits in
          rw (
            held ∙ sym there.1 ∙ ap (λ x. laid now printed (printed_form x)) answers,
            at,
            moved ∙ sym there.0 ∙ ap (λ n. printed + n) line_size,
          )
          (one_answered inside_line (omega (arith, line_size, answered_length)))
