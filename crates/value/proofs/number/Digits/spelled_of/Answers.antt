-- `value::number::Digits::spelled_of` meets its contract: the sum of many digits that start with no `0` is the first nineteen, and the others
-- go on from there. Assumes nothing.
use Rattle.std.proofs.Common.{ap, ◌∙◌}
use Rattle.std.proofs.lemmas.List.{take_rest}
use Rattle.rules.specs.SettingsAndUnitTable.{DIGIT, is}
use Rattle.value.specs.Numbers.{as_word}
use Rattle.value.specs.Digits.{all_drop}
use Rattle.value.specs.Places.{rest_spelled}
use Rattle.value.proofs.number.Digits.spelled_of.Goals as goal

pub invariant_of-rest : goal.invariant_of-rest
invariant_of-rest c = record { whole_digits = rw take_rest (all_drop (is DIGIT) 19 _ c.args.self.whole_digits); fract_digits = c.args.self.fract_digits }

pub returns-then-whole-ne48 : goal.returns-then-whole-ne48
returns-then-whole-ne48 c =
    (rw take_rest at c.append_to.ensures)
    ∙ ap as_word (rest_spelled _ _ c.args.self.whole_digits c.args.self.fract_digits c.if-whole-ge-MOST_DIGITS.true c.requires c.if-whole-ne48.true)
