-- `value::digits::append_digits` meets its contract: the digits of the span are a part of the text, or none. Assumes nothing.
use Rattle.std.proofs.Common.{rules}
use Rattle.value.specs.Digits.{slice_none, slice_sized}
use Rattle.rules.specs.Evaluation.{spelled}
use Rattle.value.specs.Places.{word_fits}
use Rattle.value.proofs.digits.append_digits.Goals as goal

pub returns-then-end-start : goal.returns-then-end-start
unfolding spelled
returns-then-end-start c = word_fits (rw (slice_none _ _ _ c.if-end-start.true)) (search rules)

pub append-requires : goal.append-requires
append-requires c = rw slice_sized at c.requires.text_value

pub returns : goal.returns
returns c = rw slice_sized c.append.ensures
