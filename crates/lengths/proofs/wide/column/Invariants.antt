-- `lengths::wide::column` meets its contract. The loop's invariant: the sum, and what is left of the column crosswise, are the column. Assumes nothing.
use Rattle.lengths.proofs.Walking.{Walked}
use Rattle.lengths.proofs.wide.column.Given as goal

abbrev pub invariant-loop-i : goal.invariant-loop-i
invariant-loop-i l = Walked l.a l.b l.position l.i l.sum
