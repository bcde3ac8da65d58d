-- `card::table::rows_alone` meets its contract: a row as nearly all are, with what is asked further, is right by itself.
-- Assumes nothing.
use mathlib.Core.Path.{◌≡◌}
use mathlib.Core.Bool.{true}
use Prim.Native.Nat.{ℕ, ◌*◌, ◌<◌, ◌≤◌}
use native.Mathlib.Omega.{arith}
use Rattle.rules.specs.SettingsAndUnitTable.{row_size, rows, rows_in, row, row_in}
use Rattle.words.specs.LowFirst.{bytes_part}
use Rattle.card.specs.Fields.{alone}
use Rattle.card.specs.Laws.Table.{First, first_is, simple_alone}
use Rattle.card.proofs.table.rows_alone.Goals as goal
use Rattle.card.proofs.table.rows_alone.Goals.{After-further_rows-soon}

-- what is left of the rows as nearly all are, for which what is asked further was asked
right : (c : After-further_rows-soon) → let args = c.args in (j : ℕ) → j < c.further_rows-soon.result → alone args.rule (row args.table.now j) ≡ true
unfolding row_in
right c j below =
    let table = c.args.table.now in
    simple_alone c.args.rule c.requires (row table j) (bytes_part table row_size (row_size * j) (λ k. (c.shared_slice_known-1.given k).fits))
    (c.simple_rows.ensures.1 j (omega (arith, c.further_rows-soon.ensures.0)))
    (c.further_rows-soon.ensures.1 j below)

pub further_rows-soon-requires : goal.further_rows-soon-requires
further_rows-soon-requires c = c.simple_rows.ensures

-- all rows that it passed are right
most : (c : After-further_rows-soon) → c.further_rows-soon.result ≤ rows c.args.table.now
most c = omega (arith, c.further_rows-soon.ensures.0, c.simple_rows.ensures.0)

pub returns-then-soon-table : goal.returns-then-soon-table
unfolding rows_in
returns-then-soon-table c =
    let all = right (goal.at.returns-then-soon-table c).After-further_rows-soon in
    first_is _ (rows c.args.table.now) _ (record {
      most = most (goal.at.returns-then-soon-table c).After-further_rows-soon;
      each = all;
      here = λ below. absurd (omega (arith, c.if-soon-table.true));
    })

pub rows_alone_from-requires : goal.rows_alone_from-requires
rows_alone_from-requires c = record {
  letterless = c.requires;
  known = (most (goal.at.rows_alone_from-requires c).After-further_rows-soon, right (goal.at.rows_alone_from-requires c).After-further_rows-soon);
}
