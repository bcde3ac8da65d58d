-- `sheets::answering::answer_lines` meets its contract: at each turn the lines read so far have been answered. Assumes nothing.
use mathlib.Core.Path.{◌≡◌, sym, ap, ◌∙◌}
use Prim.Native.Nat.{◌≤◌}
use native.Mathlib.Omega.{arith}
use lib.ListN.{length}
use Rattle.reading.specs.Meant.{meant}
use Rattle.rules.specs.WhatEveryEntryOwes.{total_answer}
use Rattle.printing.specs.Lines.{line_at}
use Rattle.printing.proofs.Lines.{end_from}
use Rattle.sheets.specs.Answering.{answered_to, on_end, none_answered, answered_length, full, more}
use Rattle.sheets.proofs.answering.answer_lines.Goals as goal
use Rattle.sheets.proofs.answering.answer_lines.Goals.{After-line_end-end, After-read_total_checked-answer, Then-next-printed}

before-end : (c : After-line_end-end) → c.loop-read.read ≤ c.line_end-end.result
before-end c = rw c.line_end-end.ensures (end_from _ c.loop-read.read)

-- the answer is that of the line
line-answer :
    (c : After-read_total_checked-answer)
    → c.read_total_checked-answer.result ≡ total_answer (meant c.args.card.now.ready) (line_at c.args.sheet.now c.loop-read.read)
line-answer c = rw c.line_end-end.ensures at c.read_total_checked-answer.ensures

-- a line that has no room is the last, and leaves the buffer as it was
no_more :
    (c : Then-next-printed)
    → (record { read = c.loop-read.read; printed = c.loop-read.printed } ≡ answered_to (meant c.args.card.now.ready) c.args.sheet.now (length c.args.out.now))
    × (c.loop-read.out ≡ c.put_answer-next.new.buffer)
no_more c =
    full c.loop-read.invariant c.line_end-end.ensures c.if-sheet-end.false (line-answer (goal.at.shape_of-out-then-next-printed c).After-read_total_checked-answer) c.put_answer-next.ensures.value c.put_answer-next.ensures.buffer_after c.if-next-printed.true

pub loop-read-init : goal.loop-read-init
loop-read-init c = none_answered _ _ _

pub shape_of-out-then-sheet-end : goal.shape_of-out-then-sheet-end
shape_of-out-then-sheet-end c = answered_length c.loop-read.invariant

pub returns-then-sheet-end : goal.returns-then-sheet-end
returns-then-sheet-end c = let inv = c.loop-read.invariant in record { value = on_end _ _ _ _ _ (rw c.line_end-end.ensures at c.if-sheet-end.true) ∙ inv.came; out_after = inv.holds; read_in_bounds = (inv.inside, omega (arith, answered_length inv, inv.fits)) }

pub slice_bounds-read_total_checked-count : goal.slice_bounds-read_total_checked-count
slice_bounds-read_total_checked-count c = omega (arith, before-end (goal.at.slice_bounds-read_total_checked-count c).After-line_end-end)

pub slice_bounds-read_total_checked-start : goal.slice_bounds-read_total_checked-start
slice_bounds-read_total_checked-start c = omega (arith, before-end (goal.at.slice_bounds-read_total_checked-start c).After-line_end-end)

pub shape_of-out-then-next-printed : goal.shape_of-out-then-next-printed
shape_of-out-then-next-printed c = sym (ap length (no_more c).1) ∙ answered_length c.loop-read.invariant

pub returns-then-next-printed : goal.returns-then-next-printed
returns-then-next-printed c =
    let inv = c.loop-read.invariant in
    let kept = no_more c in record { value = kept.0; out_after = sym kept.1 ∙ inv.holds; read_in_bounds = (inv.inside, omega (arith, ap length kept.1, answered_length inv, inv.fits)) }

pub loop-read-smaller : goal.loop-read-smaller
loop-read-smaller c = omega (arith, c.if-sheet-end.false, before-end (goal.at.loop-read-smaller c).After-line_end-end)

pub loop-read-preserved : goal.loop-read-preserved
loop-read-preserved c = more c.loop-read.invariant c.line_end-end.ensures c.if-sheet-end.false (line-answer (goal.at.loop-read-preserved c).After-read_total_checked-answer) c.put_answer-next.ensures.value c.put_answer-next.ensures.buffer_after c.if-next-printed.false
