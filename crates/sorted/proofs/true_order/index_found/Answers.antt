-- `sorted::true_order::index_found` meets its contract: the length, then the first wrong entry: those from `k` on decide. Assumes nothing.
use mathlib.Core.Path.{sym, ap, ◌∙◌}
use native.Mathlib.Omega.{arith}
use borrow.Author.Tests.{not-true, not-false}
use Rattle.std.proofs.Common.{not}
use Rattle.rules.specs.SettingsAndUnitTable.{rows_in}
use Rattle.card.specs.Laws.Table.{bad_start, bad_end, bad_here, bad_next}
use Rattle.sorted.specs.Found.{wrong_length, wrong_entry, no_wrong_entry}
use Rattle.sorted.proofs.true_order.index_found.Goals as goal

pub returns-then-index-count : goal.returns-then-index-count
unfolding rows_in
returns-then-index-count c = λ wrong. wrong_length wrong _ _ c.if-index-count.true

pub overflow_cast-result : goal.overflow_cast-result
unfolding rows_in
overflow_cast-result c = omega (arith, c.requires)

pub loop-k-init : goal.loop-k-init
loop-k-init c = bad_start _ _

pub loop-k-preserved : goal.loop-k-preserved
unfolding rows_in
loop-k-preserved c = sym (bad_next _ _ c.loop-k.k (omega arith) (sym c.entry_right.ensures ∙ not-false _ (ap not c.if-not-entry_right.false))) ∙ c.loop-k.invariant

pub returns-then-not-entry_right : goal.returns-then-not-entry_right
unfolding rows_in
returns-then-not-entry_right c = λ wrong.
    wrong_entry wrong _ _ c.if-index-count.false
    (sym (bad_here _ _ c.loop-k.k (omega arith) (sym c.entry_right.ensures ∙ not-true _ (ap not c.if-not-entry_right.true))) ∙ c.loop-k.invariant)
    (omega arith)

pub returns : goal.returns
unfolding rows_in
returns c = λ wrong. no_wrong_entry wrong _ _ c.if-index-count.false (sym (bad_end _ _ c.loop-k.k (omega arith)) ∙ c.loop-k.invariant) (omega arith)

pub overflow_cast-result-then-not-entry_right : goal.overflow_cast-result-then-not-entry_right
unfolding rows_in
overflow_cast-result-then-not-entry_right c = omega (arith, c.requires)
