-- `sorted::replaced::put_row` meets its contract: the new row stands where the old one stood. Assumes nothing.
use native.Mathlib.Omega.{arith}
use Rattle.rows.specs.Laws.Rows.{row_within}
use Rattle.sorted.specs.Replacing.{put_whole}
use Rattle.sorted.proofs.replaced.put_row.Goals as goal

pub overflow_mul-start : goal.overflow_mul-start
overflow_mul-start c = omega (arith, row_within c.args.table.now c.args.i c.requires.0)

pub overflow_add-start : goal.overflow_add-start
overflow_add-start c = omega (arith, row_within c.args.table.now c.args.i c.requires.0)

pub slice_bounds-copy_from_slice-end : goal.slice_bounds-copy_from_slice-end
slice_bounds-copy_from_slice-end c = omega (arith, row_within c.args.table.now c.args.i c.requires.0)

pub returns : goal.returns
returns c = put_whole _ _ c.copy_from_slice.ensures.after (omega arith)
