-- `lengths::wide::four_columns` meets its contract. The loop's invariant is that of four columns made a word (`Carrying`); a column is small, so
-- that what is carried stays small too. Assumes nothing.
use Rattle.std.proofs.Common.{◌^◌, ◌<◌}
use Rattle.lengths.proofs.Carrying.{Carrying}
use Rattle.lengths.proofs.wide.four_columns.Given as goal

abbrev pub invariant-loop-position : goal.invariant-loop-position
invariant-loop-position l = record { small : l.low < 2 ^ 64; carried : l.high < 2 ^ 32; columns : Carrying l.a l.b l.from l.carried l.position l.low l.high }
