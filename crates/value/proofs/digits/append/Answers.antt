-- `value::digits::append` meets its contract: at each turn what is unread spells, after the number so far, the whole number; one more
-- digit that does not fit makes a number that only grows from there. Assumes nothing.
use Rattle.std.proofs.Common.{sym, ◌∙◌, le_trans, ltb-true, ltb-false}
use Rattle.value.specs.Digits.{unread_done, unread_digit, unread_more, unread_grows, digit_low, digit_small}
use Rattle.value.specs.Places.{word_fits, word_too_large}
use Rattle.value.proofs.digits.append.Goals as goal

pub overflow_sub-digit : goal.overflow_sub-digit
overflow_sub-digit c = rw c.from-digit.ensures (digit_low _ (unread_digit c.loop-byte.invariant.unread c.loop-byte-test.true))

pub takes_digit-requires : goal.takes_digit-requires
takes_digit-requires c = rw c.from-digit.ensures (digit_small _ (unread_digit c.loop-byte.invariant.unread c.loop-byte-test.true))

pub returns-then-not-takes_digit : goal.returns-then-not-takes_digit
returns-then-not-takes_digit c =
    word_too_large _ (le_trans (ltb-false _ _ (sym c.takes_digit.ensures ∙ c.if-not-takes_digit.true)) (rw c.from-digit.ensures (unread_grows c.loop-byte.invariant.unread c.loop-byte-test.true)))

pub loop-byte-preserved : goal.loop-byte-preserved
loop-byte-preserved c =
    record { unread = rw c.from-digit.ensures (unread_more c.loop-byte.invariant.unread c.loop-byte-test.true); fits = ltb-true _ _ (sym c.takes_digit.ensures ∙ c.if-not-takes_digit.false) }

pub returns : goal.returns
returns c = word_fits (unread_done c.loop-byte.invariant.unread c.loop-byte-test.false) c.loop-byte.invariant.fits
