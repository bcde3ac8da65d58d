-- `reading::typed::with_unit` meets its contract: kind and row, or the product of numeral, kind and row. Assumes nothing.
use Rattle.std.proofs.Common.{◌≡◌, ◌<◌, length, sym, ap, ◌∙◌, rules}
use Rattle.rules.specs.NumbersHandedBack.{refused}
use Rattle.rules.specs.SettingsAndUnitTable.{rows}
use Rattle.rules.proofs.Laws.Outcomes.{bind_got, bind_refused}
use Rattle.rows.specs.Laws.Rows.{length_row}
use Rattle.reading.specs.Coded.{with_unit}
use Rattle.reading.proofs.typed.with_unit.Goals as goal
use Rattle.reading.proofs.typed.with_unit.Goals.{In-Some}

pub returns-in-None : goal.returns-in-None
returns-in-None c = rw (c.in-None.is, c.finite_repr.ensures, c.negated-multiplier.ensures, c.product.ensures)

-- the numeral is one of the table's
numbered : (c : In-Some) → c.in-Some.i < rows c.args.card.now.numerals.now
numbered c = rw c.in-Some.is at c.requires.0

pub row_at-requires : goal.row_at-requires
row_at-requires c = numbered (goal.at.row_at-requires c).In-Some

pub row_multiplier-requires : goal.row_multiplier-requires
row_multiplier-requires c = ap length c.row_at.ensures ∙ length_row _ _ (numbered (goal.at.row_multiplier-requires c).In-Some)

pub returns-in_err-spoken-in-Some : goal.returns-in_err-spoken-in-Some
returns-in_err-spoken-in-Some c =
    let refusal : refused c.in_err-spoken-in-Some.field-0.0 ≡ with_unit c.args.card.now.numerals.now c.args.negative c.args.counted c.args.counted.numeral c.args.unit c.args.ago =
    rw (c.in-Some.is, ← c.row_at.ensures, ← c.row_multiplier.ensures, ← c.kind_multiplier.ensures, ← c.negated.ensures) (sym (bind_refused _ (sym c.in_err-spoken-in-Some.ensures))) in
    search rules

pub returns-in_ok-spoken-in-Some : goal.returns-in_ok-spoken-in-Some
returns-in_ok-spoken-in-Some c =
    rw (c.in-Some.is, c.finite_repr-in-Some.ensures, ← c.row_at.ensures, ← c.row_multiplier.ensures, ← c.kind_multiplier.ensures, ← c.negated.ensures) (sym (bind_got _ (sym c.in_ok-spoken-in-Some.ensures)))
