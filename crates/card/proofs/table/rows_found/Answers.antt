-- `card::table::rows_found` meets its contract: the size, then the first bad row. Assumes nothing.
use native.Mathlib.Omega.{arith}
use Rattle.card.specs.Laws.Table.{half_a_row, too_many, row_refused, all_accepted}
use Rattle.card.proofs.table.rows_found.Goals as goal

pub returns-then-table-ne0 : goal.returns-then-table-ne0
returns-then-table-ne0 c = λ size bad. half_a_row size _ _ bad _ c.if-table-ne0.true

pub returns-then-count-most : goal.returns-then-count-most
returns-then-count-most c = λ size bad. too_many size _ _ bad _ c.if-count-most.true

pub returns-then-bad-count : goal.returns-then-bad-count
returns-then-bad-count c = λ size bad. row_refused size _ _ bad _ c.if-table-ne0.false c.if-count-most.false c.first_bad-bad.ensures c.if-bad-count.true

pub returns : goal.returns
returns c = λ size bad. all_accepted size _ _ bad _ c.if-table-ne0.false c.if-count-most.false c.first_bad-bad.ensures c.if-bad-count.false

pub first_bad-bad-requires : goal.first_bad-bad-requires
first_bad-bad-requires c = c.requires.1

pub overflow_cast-result : goal.overflow_cast-result
overflow_cast-result c = omega (arith, c.if-bad-count.true, c.if-count-most.false, c.requires.0)
