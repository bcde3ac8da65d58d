-- `printing::put_answer` meets its contract: nothing is put before it is known that all fits. Assumes nothing.
use Rattle.std.proofs.Common.{◌≡◌, sym, ap, ◌∙◌, length, arith}
use Rattle.writing.specs.Laid.{laid}
use Rattle.printing.specs.Printed.{printed, no_room, put_there}
use Rattle.printing.specs.Fields.{line_size, line_length}
use Rattle.printing.proofs.put_answer.Goals as goal
use Rattle.printing.proofs.put_answer.Goals.{After-of-line}

-- the line has the size of what is printed
size : (c : After-of-line) → length (printed c.args.answer) ≡ line_size c.of-line.result
size c = ap length (sym c.of-line.ensures.digits) ∙ line_length c.of-line.result

pub returns-then-place-buffer : goal.returns-then-place-buffer
returns-then-place-buffer c = let both = no_room _ _ _ (omega (arith, c.if-place-buffer.true)) in record { value = both.0; buffer_after = both.1 }

pub returns-then-size-buffer : goal.returns-then-size-buffer
returns-then-size-buffer c =
    let long = size (goal.at.returns-then-size-buffer c).After-of-line in
    let both = no_room _ _ _ (omega (arith, c.size.ensures, c.if-size-buffer.true, long)) in record { value = both.0; buffer_after = both.1 }

pub returns : goal.returns
returns c =
    let long = size (goal.at.returns c).After-of-line in
    let there = put_there c.args.answer c.args.buffer.now c.args.place (omega (arith, c.size.ensures, c.if-size-buffer.false, c.if-place-buffer.false, long)) in record {
      value = omega (arith, c.put.ensures.value, long) ∙ there.0;
      buffer_after = c.put.ensures.buffer_after ∙ ap (laid c.args.buffer.now c.args.place) c.of-line.ensures.digits ∙ there.1;
    }
