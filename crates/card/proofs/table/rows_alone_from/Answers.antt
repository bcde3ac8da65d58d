-- `card::table::rows_alone_from` meets its contract: behind the rows that are known to be right the first that is not decides. Assumes nothing.
use mathlib.Core.Path.{◌≡◌, refl, sym, ap, ◌∙◌}
use native.Mathlib.Omega.{arith}
use lib.ListN.{length}
use borrow.Author.Tests.{not-true, not-false}
use borrow.Author.Count.{below_more}
use Rattle.std.proofs.Common.{not}
use Rattle.rules.specs.SettingsAndUnitTable.{rows, rows_in, row}
use Rattle.rows.specs.Laws.Rows.{length_row}
use Rattle.card.specs.Fields.{alone}
use Rattle.card.specs.Laws.Table.{First, first_is}
use Rattle.card.proofs.table.rows_alone_from.Goals as goal
use Rattle.card.proofs.table.rows_alone_from.Goals.{After-row_alone}

pub loop-i-init : goal.loop-i-init
unfolding rows_in
loop-i-init c = (refl, c.requires.known.0, c.requires.known.1)

pub row_at-requires : goal.row_at-requires
row_at-requires c = omega (arith, c.loop-i.invariant.0)

pub row_alone-requires : goal.row_alone-requires
row_alone-requires c = (ap length c.row_at.ensures ∙ length_row _ _ (omega (arith, c.loop-i.invariant.0)), c.requires.letterless)

-- what was asked of the row
asked : (c : After-row_alone) → let args = c.args in c.row_alone.result ≡ alone args.rule (row args.table.now c.loop-i.i)
asked c = c.row_alone.ensures ∙ ap (alone _) c.row_at.ensures

pub loop-i-preserved : goal.loop-i-preserved
loop-i-preserved c =
    let loop = c.loop-i in (
      loop.invariant.0,
      omega arith,
      below_more _ loop.i loop.invariant.2 (sym (asked (goal.at.loop-i-preserved c).After-row_alone) ∙ not-false _ (ap not c.if-not-row_alone.false)),
    )

pub returns-then-not-row_alone : goal.returns-then-not-row_alone
returns-then-not-row_alone c =
    let loop = c.loop-i in
    first_is _ (rows c.args.table.now) loop.i (record {
      most = omega (arith, loop.invariant.0);
      each = loop.invariant.2;
      here = λ below. sym (asked (goal.at.returns-then-not-row_alone c).After-row_alone) ∙ not-true _ (ap not c.if-not-row_alone.true);
    })

pub returns : goal.returns
returns c =
    let loop = c.loop-i in
    first_is _ (rows c.args.table.now) _ (record {
      most = omega (arith, loop.invariant.0);
      each = λ j below. loop.invariant.2 j (omega (arith, loop.invariant.0));
      here = λ below. absurd (omega (arith, loop.invariant.0));
    })
