-- `card::table::named_alike` meets its contract: both rows are parts of the table. Assumes nothing.
use Rattle.std.proofs.Common.{length, ap, ◌∙◌}
use Rattle.rows.specs.Laws.Rows.{length_row}
use Rattle.card.proofs.table.named_alike.Goals as goal

pub same_name-requires : goal.same_name-requires
same_name-requires c = record {
  row_len = (ap length c.row_at.ensures ∙ length_row c.args.table.now c.args.i c.requires.0, rw c.row_at.ensures c.requires.2);
  other_len = (ap length c.row_at-2.ensures ∙ length_row c.args.table.now c.args.j c.requires.1, rw c.row_at-2.ensures c.requires.3);
}

pub returns : goal.returns
returns c = rw (← c.row_at.ensures, ← c.row_at-2.ensures) c.same_name.ensures
