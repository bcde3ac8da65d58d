-- `lengths::wide::four_columns` meets its contract. The loop's invariant is that of four columns made a word (`Carrying`); a column is small, so
-- that what is carried stays small too. Assumes nothing.
use Rattle.std.proofs.Common.{◌*◌, ◌≤◌, arith}
use Rattle.lengths.specs.Columns.{column_most}
use Rattle.lengths.proofs.Carrying.{carry_start, carry_step, carry_end}
use Rattle.lengths.proofs.wide.four_columns.Goals as goal
use Rattle.lengths.proofs.wide.four_columns.Goals.{After-column}

pub loop-position-init : goal.loop-position-init
loop-position-init c = record { small = omega arith; carried = omega arith; columns = carry_start _ _ _ _ }

-- four products at most
small : (c : After-column) → c.column.result ≤ 4 * (65535 * 65535)
small c =
    omega (arith, c.column.ensures, c.requires.0.four, column_most 65535 c.args.a.now c.args.b.now c.loop-position.position c.requires.0.below c.requires.1.below)

pub overflow_add-sum : goal.overflow_add-sum
overflow_add-sum c = omega (arith, small c)

pub loop-position-preserved : goal.loop-position-preserved
loop-position-preserved c = record {
  small = omega arith;
  carried = omega (arith, small c);
  columns = carry_step _ _ _ _ _ _ _ c.loop-position-test.true c.column.ensures c.loop-position.invariant.columns;
}

pub returns : goal.returns
returns c = record { all = carry_end _ _ _ _ _ _ _ c.loop-position-test.false c.loop-position.invariant.columns; small = c.loop-position.invariant.carried }
