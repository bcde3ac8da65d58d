-- `value::digits::Taken::then` meets its contract: at each turn what is unread of the digits that there is room for spells, after the number
-- so far, the whole number, which has at most nineteen places, so that no number on the way is larger. Assumes nothing.
use Rattle.std.proofs.Common.{◌≡◌, ◌+◌, ◌*◌, ◌-◌, ◌<◌, ◌^◌, get_or, length, take, ap, ◌∙◌, arith, lt_trans, lt_of_le_of_lt, le-add_right, lit<}
use Rattle.std.proofs.lemmas.List.{take_min}
use Rattle.rules.specs.SettingsAndUnitTable.{DIGIT, is}
use Rattle.rules.specs.Evaluation.{spelled}
use Rattle.value.specs.Digits.{all_take, unread_all, unread_done, unread_digit, unread_more, unread_grows, digit_low, spelled_in_all}
use Rattle.value.specs.Places.{room_left}
use Rattle.value.proofs.digits.Taken.then.Goals as goal
use Rattle.value.proofs.digits.Taken.then.Goals.{After-min-count, In-loop-byte, After-struct_known-1}

-- the digits that there is room for
first : (c : After-min-count) → take c.min-count.result c.args.digits.now ≡ take c.args.self.room c.args.digits.now
first c = ap (λ n. take n c.args.digits.now) c.min-count.ensures ∙ take_min _ _

grows : (c : In-loop-byte) → c.loop-byte.number * 10 + (get_or (take c.min-count.result c.args.digits.now) c.loop-byte.byte-index 0 - 48) < 10 ^ 19
grows c = lt_of_le_of_lt (unread_grows c.loop-byte.invariant.unread c.loop-byte-test.true) c.loop-byte.invariant.small

pub loop-byte-init : goal.loop-byte-init
loop-byte-init c = record {
  unread = unread_all _ _ (all_take (is DIGIT) _ _ c.requires);
  small = rw (first (goal.at.loop-byte-init c).After-min-count) (spelled_in_all 19 _ _ _ c.args.self.fits.0 c.args.self.fits.1 c.requires);
}

pub overflow_mul-number : goal.overflow_mul-number
overflow_mul-number c = record { fits = lt_trans (lt_of_le_of_lt (le-add_right _ _) (grows (goal.at.overflow_mul-number c).In-loop-byte)) (lit< tt) }

pub overflow_sub-number : goal.overflow_sub-number
overflow_sub-number c = rw c.from.ensures (digit_low _ (unread_digit c.loop-byte.invariant.unread c.loop-byte-test.true))

pub overflow_add-number : goal.overflow_add-number
overflow_add-number c = record { fits = rw c.from.ensures (lt_trans (grows (goal.at.overflow_add-number c).In-loop-byte) (lit< tt)) }

pub loop-byte-preserved : goal.loop-byte-preserved
loop-byte-preserved c = record {
  unread = rw c.from.ensures (unread_more c.loop-byte.invariant.unread c.loop-byte-test.true);
  small = c.loop-byte.invariant.small;
}

number : (c : After-struct_known-1) → c.loop-byte.number ≡ spelled c.args.self.number (take c.args.self.room c.args.digits.now)
number c = unread_done c.loop-byte.invariant.unread c.loop-byte-test.false ∙ ap (spelled c.args.self.number) (first (goal.at.invariant_of-result c).After-min-count)

pub invariant_of-result : goal.invariant_of-result
invariant_of-result c =
    let left : c.args.self.room - c.min-count.result ≡ c.args.self.room - length c.args.digits.now = omega arith in
    record { fits = rw (left, number c) (room_left _ _ _ c.args.self.fits c.requires) }

pub returns : goal.returns
returns c = record { number = number (goal.at.returns c).After-struct_known-1; room = omega arith }
