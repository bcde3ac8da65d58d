-- `card::table::table_checked` meets its contract: no rows are good, and what was found is said by the table's refusals. Assumes nothing.
use Rattle.std.proofs.Common.{◌≡◌, sym, ap, ◌∙◌, rules, eqb-true}
use Rattle.rules.specs.NumbersHandedBack.{refused}
use Rattle.card.specs.Fields.{said}
use Rattle.card.specs.Laws.Table.{no_rows}
use Rattle.card.proofs.table.table_checked.Goals as goal

pub returns-then-is_empty : goal.returns-then-is_empty
returns-then-is_empty g c = λ named calls. no_rows c.args.size _ _ named _ (eqb-true _ _ (sym c.is_empty.ensures ∙ c.if-is_empty.true))

pub returns-in-Ok : goal.returns-in-Ok
returns-in-Ok g c = λ named calls. ap (said c.args.size named) (sym c.in-Ok.is) ∙ c.rows_found.ensures c.args.size named

pub returns-in-Err-WrongSize : goal.returns-in-Err-WrongSize
returns-in-Err-WrongSize g c = λ named calls. ap (said c.args.size named) (sym (c.in-Err-WrongSize.is ∙ ap refused c.in-Err-WrongSize.field-0-is)) ∙ c.rows_found.ensures c.args.size named

pub returns-in-Err-BadRow : goal.returns-in-Err-BadRow
returns-in-Err-BadRow g c = λ named calls. ap refused (calls c.in-Err-BadRow.row c.bad.result (search rules) c.bad.ensures) ∙ ap (said c.args.size named) (sym (c.in-Err-BadRow.is ∙ ap refused c.in-Err-BadRow.field-0-is)) ∙ c.rows_found.ensures c.args.size named
