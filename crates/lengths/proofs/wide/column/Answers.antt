-- `lengths::wide::column` meets its contract. The loop's invariant: the sum, and what is left of the column crosswise, are the column. Assumes nothing.
use Rattle.std.proofs.Common.{◌+◌, ◌*◌, ◌-◌, get_or, arith}
use Rattle.lengths.specs.Columns.{product_most}
use Rattle.lengths.proofs.Walking.{Walked, walk_from, walk_step, walk_to, walk_most}
use Rattle.lengths.proofs.wide.column.Goals as goal
use Rattle.lengths.proofs.wide.column.Goals.{After-sum-in-loop-i-1}

pub loop-i-init : goal.loop-i-init
loop-i-init c = walk_from _ _ _ c.min-end.ensures c.requires.1.four

pub overflow_mul-sum : goal.overflow_mul-sum
overflow_mul-sum c = omega (arith, product_most 65535 (c.requires.0.below c.loop-i.i) (c.requires.1.below (c.args.position - c.loop-i.i)))

-- the walk with this product taken in
walked : (c : After-sum-in-loop-i-1) → Walked c.args.a.now c.args.b.now c.args.position (c.loop-i.i + 1) (c.loop-i.sum + get_or c.args.a.now c.loop-i.i 0 * get_or c.args.b.now (c.args.position - c.loop-i.i) 0)
walked c = walk_step _ _ _ _ _ (omega (arith, c.requires.0.four)) (omega arith) c.loop-i.invariant

pub overflow_add-sum : goal.overflow_add-sum
overflow_add-sum c = omega (arith, c.requires.0.four, walk_most 65535 _ _ _ _ _ c.requires.0.below c.requires.1.below (walked c))

pub loop-i-preserved : goal.loop-i-preserved
loop-i-preserved c = walked c

pub returns : goal.returns
returns c = walk_to _ _ _ c.min-end.ensures c.requires.0.four _ c.loop-i-test.false c.loop-i.invariant
