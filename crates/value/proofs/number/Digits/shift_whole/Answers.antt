-- `value::number::Digits::shift_whole` meets its contract: all digits are seconds, and no attoseconds are left. Assumes nothing.
use Rattle.std.proofs.Common.{refl, sym, ◌∙◌, add-zero, lit<}
use Rattle.value.specs.Places.{shifted_is}
use Rattle.value.proofs.number.Digits.shift_whole.Goals as goal

pub returns : goal.returns
returns c = c.seconds_alone.ensures ∙ shifted_is _ (sym (add-zero _)) (lit< tt) c.spelled_of.ensures refl
