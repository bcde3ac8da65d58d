-- `value::digits::sum_digits` meets its contract: at each turn what is left of the run comes, after the number so far, to the whole sum.
-- A byte below `0` or above `9` and the text's end stop the run, and a number that is not sure to take one more digit is the sum.
-- Assumes nothing.
use Rattle.std.proofs.Common.{sym, ◌∙◌}
use Rattle.rules.specs.SettingsAndUnitTable.{DIGIT, is}
use Rattle.rules.proofs.Laws.Tests.{between_in}
use Rattle.value.specs.Digits.{unsummed_done, unsummed_full, unsummed_more, digit_between, between_off, run_off, run_over, run_end}
use Rattle.value.proofs.digits.sum_digits.Goals as goal

pub returns-then-byte-lt48 : goal.returns-then-byte-lt48
returns-then-byte-lt48 c =
    let off = run_off (is DIGIT) _ _ c.loop-next-test.true (sym (digit_between _) ∙ between_off 48 57 _ c.then-byte-lt48.either) in
    unsummed_done c.loop-next.invariant off (sym off ∙ c.loop-next.invariant.ends)

pub returns-then-number-ge-SURE : goal.returns-then-number-ge-SURE
returns-then-number-ge-SURE c = unsummed_full c.loop-next.invariant c.if-number-ge-SURE.true c.past_digits-end.ensures

pub loop-next-preserved : goal.loop-next-preserved
loop-next-preserved c =
    rw c.from.ensures (unsummed_more c.loop-next.invariant c.loop-next-test.true (sym (digit_between _) ∙ between_in 48 57 _ c.if-byte-lt48.false c.if-byte-gt57.false) c.if-number-ge-SURE.false)

pub returns : goal.returns
returns c =
    unsummed_done c.loop-next.invariant (run_end (is DIGIT) _ _ c.loop-next-test.false)
    (run_over (is DIGIT) _ _ _ c.loop-next-test.false c.loop-next.auto.next-end c.loop-next.invariant.ends c.max-end.ensures)
