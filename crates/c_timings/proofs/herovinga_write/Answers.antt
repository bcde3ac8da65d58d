-- `c_timings::herovinga_write` meets its contract. Assumes nothing.
use mathlib.Core.Path.{ap, ◌∙◌}
use Rattle.rules.specs.WhatEveryEntryOwes.{write_answer, written_buffer}
use Rattle.c_words.specs.Laws.{handed}
use Rattle.c_timings.proofs.herovinga_write.Goals as goal

pub returns : goal.returns
returns c = let answer = handed c.put_answer.ensures (c.write_length-written.ensures.value ∙ ap (λ l. write_answer l c.args.buffer.now c.args.place) c.length_of.ensures) in record { value = answer.0; answer_after = answer.1; buffer_after = c.write_length-written.ensures.buffer_after ∙ ap (λ l. written_buffer l c.args.buffer.now c.args.place) c.length_of.ensures }
