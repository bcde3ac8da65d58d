-- `value::number::Digits::shift` meets its contract: beside at most nineteen digits the number is what counts, and beside more it is their
-- sum. Assumes nothing.
use Rattle.std.proofs.Common.{ap, ◌∙◌, length-append}
use Rattle.value.specs.Numbers.{shifted_of}
use Rattle.value.specs.Digits.{counts_below}
use Rattle.value.specs.Places.{attos_whole, few_moved, many_summed, many_counted, both_digits}
use Rattle.value.proofs.number.Digits.shift.Goals as goal

pub shift_word-requires : goal.shift_word-requires
shift_word-requires c = let self = c.args.self in counts_below (both_digits _ _ self.whole_digits self.fract_digits) c.requires

pub returns-then-self-behind-le-MOST_DIGITS : goal.returns-then-self-behind-le-MOST_DIGITS
returns-then-self-behind-le-MOST_DIGITS c =
    let self = c.args.self in
    c.shift_word.ensures
    ∙ ap shifted_of
    (few_moved _ _ _ (length-append self.whole.now self.fract.now) (both_digits _ _ self.whole_digits self.fract_digits) c.requires c.if-self-behind-le-MOST_DIGITS.true _ _)

pub shift_whole-requires : goal.shift_whole-requires
shift_whole-requires c =
    let self = c.args.self in
    many_summed _ _ _ (length-append self.whole.now self.fract.now) (both_digits _ _ self.whole_digits self.fract_digits) c.requires c.if-self-behind-le-MOST_DIGITS.false

pub returns-then-before-after : goal.returns-then-before-after
returns-then-before-after c =
    let self = c.args.self in
    rw (many_counted _ _ _ (length-append self.whole.now self.fract.now) (both_digits _ _ self.whole_digits self.fract_digits) c.requires c.if-self-behind-le-MOST_DIGITS.false)
    (c.shift_whole.ensures ∙ ap shifted_of (attos_whole _ _ _ _ c.if-before-after.true))

pub returns : goal.returns
returns c =
    let self = c.args.self in
    rw (many_counted _ _ _ (length-append self.whole.now self.fract.now) (both_digits _ _ self.whole_digits self.fract_digits) c.requires c.if-self-behind-le-MOST_DIGITS.false) c.shift_large.ensures
