-- `card::row::word_accepted` meets its contract: letters are outside a set without letters. Assumes nothing.
use mathlib.Core.Path.{sym}
use native.Mathlib.Omega.{arith}
use lib.Seq.{take_all}
use Rattle.words.specs.Bytewise.{repeated}
use Rattle.card.specs.Laws.Names.{letters_outside}
use Rattle.card.proofs.row.word_accepted.Goals as goal

pub returns-then-letter_marks-eq-HIGH_BITS : goal.returns-then-letter_marks-eq-HIGH_BITS
unfolding repeated
returns-then-letter_marks-eq-HIGH_BITS c =
    let word = c.args.word.now in
    sym
    (letters_outside _ c.requires.1 word (λ k. (c.shared_slice_known-1.given k).fits)
    (rw (take_all 8 word (omega (arith, c.requires.0))) at (c.letter_marks.ensures 8 (omega arith) (omega arith) c.if-letter_marks-eq-HIGH_BITS.true)))

pub letter_marks-requires : goal.letter_marks-requires
letter_marks-requires c = omega (arith, c.requires.0)

pub returns : goal.returns
returns c = c.none_held.ensures
