-- `value::number::Digits::split_at` meets its contract: what the whole digits lack of the point is counted on in the fraction. Assumes nothing.
use Rattle.std.proofs.Common.{◌∙◌, ap₂, ◌++◌}
use Rattle.rules.specs.SettingsAndUnitTable.{DIGIT, is}
use Rattle.value.specs.Digits.{all_take, all_drop}
use Rattle.value.specs.Places.{cut_front, cut_back}
use Rattle.value.proofs.number.Digits.split_at.Goals as goal

pub invariant_of-front : goal.invariant_of-front
invariant_of-front c = record {
  whole_digits = rw c.split_at.ensures.front (all_take (is DIGIT) _ _ c.args.self.whole_digits);
  fract_digits = rw c.split_at-2.ensures.front (all_take (is DIGIT) _ _ c.args.self.fract_digits);
}

pub invariant_of-back : goal.invariant_of-back
invariant_of-back c = record {
  whole_digits = rw c.split_at.ensures.back (all_drop (is DIGIT) _ _ c.args.self.whole_digits);
  fract_digits = rw c.split_at-2.ensures.back (all_drop (is DIGIT) _ _ c.args.self.fract_digits);
}

pub returns-clause-front : goal.returns-clause-front
returns-clause-front c = ap₂ ◌++◌ c.split_at.ensures.front c.split_at-2.ensures.front ∙ cut_front _ _ _ c.min-in_whole.ensures c.min-in_fract.ensures

pub returns-clause-back : goal.returns-clause-back
returns-clause-back c = ap₂ ◌++◌ c.split_at.ensures.back c.split_at-2.ensures.back ∙ cut_back _ _ _ c.min-in_whole.ensures c.min-in_fract.ensures
