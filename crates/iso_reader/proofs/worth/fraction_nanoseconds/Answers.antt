-- `iso_reader::worth::fraction_nanoseconds` meets its contract: the digits that are left and those that are done are all of them, and what
-- those done are worth is known. Assumes nothing.
use Rattle.std.proofs.Common.{◌++◌, ◌∷◌, []}
use Rattle.value.specs.Digits.{digit_low}
use Rattle.iso_reader.specs.Tenths.{Behind, behind_none, behind_more, behind_digit, behind_fits, behind_done}
use Rattle.iso_reader.proofs.worth.fraction_nanoseconds.Goals as goal
use Rattle.iso_reader.proofs.worth.fraction_nanoseconds.Goals.{In-Some}

pub loop-digit-init : goal.loop-digit-init
loop-digit-init c =
    rw (c.into_iter-digit-iterator.ensures.into_iter_gives, c.rev-digit-items.ensures.source, c.iter.ensures.rest) (behind_none _ _)

-- the digit stands last of those that are left
last : (c : In-Some) → Behind c.args.decimals.now c.args.unit (c.next.new.self.iter.rest.now ++ (c.in-Some.digit.now ∷ [])) c.loop-digit.behind
last c = rw c.in-Some.ensures.steps at c.loop-digit.invariant

pub overflow_sub-behind : goal.overflow_sub-behind
overflow_sub-behind c = digit_low _ (behind_digit _ _ _ _ _ (last (goal.at.overflow_sub-behind c).In-Some) c.requires.digits)

pub overflow_add-behind : goal.overflow_add-behind
overflow_add-behind c = record { fits = behind_fits _ _ _ _ _ (last (goal.at.overflow_add-behind c).In-Some) c.requires.digits c.requires.unit_nonzero.0 c.requires.unit_nonzero.1 }

pub loop-digit-preserved : goal.loop-digit-preserved
loop-digit-preserved c = behind_more _ _ _ _ _ (last (goal.at.loop-digit-preserved c).In-Some)

pub returns : goal.returns
returns c = behind_done _ _ _ _ c.loop-digit.invariant c.in-None.ensures.steps.0
