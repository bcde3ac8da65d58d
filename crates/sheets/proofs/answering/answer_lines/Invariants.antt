-- `sheets::answering::answer_lines` meets its contract: at each turn the lines read so far have been answered. Assumes nothing.
use Prim.Native.Nat.{◌-◌}
use lib.ListN.{length}
use Rattle.reading.specs.Meant.{meant}
use Rattle.sheets.specs.Answering.{Answered}
use Rattle.sheets.proofs.answering.answer_lines.Given as goal

abbrev pub invariant-loop-read : goal.invariant-loop-read
invariant-loop-read l = Answered (meant l.card.ready) l.sheet l.initial.out l.out l.read l.printed

abbrev pub decreases-loop-read : goal.decreases-loop-read
decreases-loop-read l = length l.sheet - l.read
