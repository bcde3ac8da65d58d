-- `value::number::lower` meets its contract: decimals are what is left of a division by their power, with zeros up to the eighteenth; beyond
-- that only the first are left, and beyond nineteen digits none. Assumes nothing.
use mathlib.Core.Path.{refl, ap, ◌∙◌}
use Prim.Native.Nat.{◌+◌, ◌*◌, ◌^◌}
use native.Mathlib.Nat.{lt_trans, lt_of_le_of_lt, div-le_self}
use borrow.Author.Rules.{rules}
use lib.Dec.{lit<}
use Rattle.value.specs.Digits.{ten_pos}
use Rattle.value.specs.Places.{word_fits, shifted_is, few_sum, few_below, more_sum, more_below, more_none}
use Rattle.value.proofs.number.lower.Goals as goal

pub nonzero_div-result : goal.nonzero_div-result
nonzero_div-result c = rw c.pow10-power.ensures (ten_pos _)

pub nonzero_rem-result : goal.nonzero_rem-result
nonzero_rem-result c = nonzero_div-result c

pub overflow_mul-result : goal.overflow_mul-result
overflow_mul-result c = record { fits = lt_trans (few_below _ _ c.if-decimals-le-DECIMALS.true c.pow10-power.ensures c.pow10.ensures) (lit< tt) }

pub returns-then-decimals-le-DECIMALS : goal.returns-then-decimals-le-DECIMALS
returns-then-decimals-le-DECIMALS c =
    let few = c.if-decimals-le-DECIMALS.true in
    shifted_is _ (few_sum _ _ few c.pow10-power.ensures c.pow10.ensures) (few_below _ _ few c.pow10-power.ensures c.pow10.ensures) (word_fits refl (lt_of_le_of_lt (div-le_self _ _) (search rules))) refl

pub nonzero_div-result-then-decimals-le-MOST_DECIMALS : goal.nonzero_div-result-then-decimals-le-MOST_DECIMALS
nonzero_div-result-then-decimals-le-MOST_DECIMALS c = rw c.pow10-then-decimals-le-MOST_DECIMALS.ensures (ten_pos _)

pub returns-then-decimals-le-MOST_DECIMALS : goal.returns-then-decimals-le-MOST_DECIMALS
returns-then-decimals-le-MOST_DECIMALS c =
    let more = c.if-decimals-le-DECIMALS.false in
    shifted_is 0 (more_sum _ _ more c.pow10-then-decimals-le-MOST_DECIMALS.ensures) (more_below _ _ more c.pow10-then-decimals-le-MOST_DECIMALS.ensures c.requires) (word_fits refl (lit< tt)) refl

pub returns : goal.returns
returns c =
    let more = c.if-decimals-le-DECIMALS.false in
    shifted_is 0 (more_sum _ _ more refl ∙ ap (λ n. 0 * 10 ^ 18 + n) (more_none _ _ more refl c.requires c.if-decimals-le-MOST_DECIMALS.false)) (lit< tt) (word_fits refl (lit< tt)) refl
