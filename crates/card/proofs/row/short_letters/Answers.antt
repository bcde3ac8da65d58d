-- `card::row::short_letters` meets its contract: zeros behind a name that ends in its first word, and marks of letters for as many bytes as it has.
-- Assumes nothing.
use mathlib.Core.Path.{refl, sym, ◌∙◌}
use native.Mathlib.Omega.{arith}
use lib.ListN.{get_or}
use Rattle.rules.specs.SettingsAndUnitTable.{name_size, name}
use Rattle.words.specs.Bytewise.{marks_cut}
use Rattle.rows.specs.Laws.Rooms.{word_of, short_padded}
use Rattle.card.proofs.row.short_letters.Goals as goal

pub overflow_cast-size : goal.overflow_cast-size
overflow_cast-size c = omega (arith, c.shared_slice_known-2-1.given 0)

pub returns : goal.returns
unfolding name name_size word_of
returns c e =
    let some = c.if-size-lt1.false in
    let few = c.if-size-gt7.false in
    let row = c.args.row.now in (
      short_padded row (λ k. (c.shared_slice_known-1.given k).fits) some (omega (arith, few)) (sym (rw (← c.word_at.ensures) refl) ∙ c.if-word_at-bits-ne0.false) (sym c.zero_words.ensures ∙ e),
      c.letter_marks.ensures (get_or row 0 0) some (omega (arith, few)) (c.if-letter_marks-bits.false ∙ marks_cut (get_or row 0 0) (omega (arith, few))),
    )
