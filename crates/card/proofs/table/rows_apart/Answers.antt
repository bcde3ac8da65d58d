-- `card::table::rows_apart` meets its contract: the first that is named before, and the first row of all is not. Assumes nothing.
use mathlib.Core.Path.{◌≡◌, sym, ap, ◌∙◌}
use native.Mathlib.Omega.{arith}
use borrow.Author.Count.{below_more}
use Rattle.std.proofs.Common.{not}
use Rattle.rules.specs.SettingsAndUnitTable.{named_in}
use Rattle.card.specs.Laws.Table.{First, first_is}
use Rattle.card.proofs.table.rows_apart.Goals as goal

pub loop-i-init : goal.loop-i-init
unfolding named_in
loop-i-init c = λ j h. let first : j ≡ 0 = omega arith in rw first

pub named_before-requires : goal.named_before-requires
named_before-requires c = record { i_bound = omega (arith, c.requires.0); by_index = λ j h. c.requires.1 j (omega arith) }

pub loop-i-preserved : goal.loop-i-preserved
loop-i-preserved c = below_more _ c.loop-i.i c.loop-i.invariant (sym c.named_before.ensures ∙ c.if-named_before.false)

pub returns-then-named_before : goal.returns-then-named_before
returns-then-named_before c =
    first_is _ c.args.count c.loop-i.i (record {
      most = omega arith;
      each = λ j below. ap not (c.loop-i.invariant j below);
      here = λ below. ap not (sym c.named_before.ensures ∙ c.if-named_before.true);
    })

pub returns : goal.returns
returns c =
    first_is _ c.args.count c.args.count (record {
      most = omega arith;
      each = λ j below. ap not (c.loop-i.invariant j (omega arith));
      here = λ below. absurd (omega arith);
    })
