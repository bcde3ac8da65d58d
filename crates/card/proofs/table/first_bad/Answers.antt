-- `card::table::first_bad` meets its contract: a row by itself, and then the names before it. Assumes nothing.
use Rattle.std.proofs.Common.{◌≡◌, true, not, ap, ◌∙◌, arith}
use Rattle.rules.specs.SettingsAndUnitTable.{rows, row, name, named}
use Rattle.card.specs.Fields.{alone, ruled}
use Rattle.card.specs.Laws.Table.{first_found, bad_both, ruled_alone, alone_padded}
use Rattle.card.proofs.table.first_bad.Goals as goal

pub rows_apart-requires : goal.rows_apart-requires
rows_apart-requires c =
    let table = c.args.table.now in
    let found = first_found (λ i. alone c.args.rule (row table i)) (rows table) in
    rw c.rows_alone-alone.ensures (found.most, λ j below. alone_padded c.args.rule (row table j) (found.each j below))

pub returns-then-against : goal.returns-then-against
returns-then-against c =
    let table = c.args.table.now in
    rw (c.if-against.true, c.rows_apart.ensures, c.rows_alone-alone.ensures)
    (bad_both (λ i. alone c.args.rule (row table i)) (λ i. not (named table (name (row table i)) i)) (ruled c.args.rule table) (ruled_alone c.args.rule table) (rows table))

pub returns-else-against : goal.returns-else-against
returns-else-against c = rw c.if-against.false c.rows_alone-alone.ensures
