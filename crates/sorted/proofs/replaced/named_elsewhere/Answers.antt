-- `sorted::replaced::named_elsewhere` meets its contract: none of the rows passed has the name. Assumes nothing.
use mathlib.Core.Path.{◌≡◌, sym, ap, ◌∙◌}
use mathlib.Core.Bool.{false≢true}
use Prim.Native.Nat.{◌<◌}
use native.Mathlib.Omega.{arith}
use borrow.Author.Count.{below_more}
use lib.ListN.{length}
use Rattle.rules.specs.Common.{same}
use Rattle.rules.specs.SettingsAndUnitTable.{rows, rows_in, row, name}
use Rattle.rows.specs.Laws.Rows.{length_row}
use Rattle.rows.specs.Laws.Lookup.{same_refl, same_equal}
use Rattle.sorted.proofs.replaced.named_elsewhere.Goals as goal
use Rattle.sorted.proofs.replaced.named_elsewhere.Goals.{else-j-i-via-then-j-i+else-same_name, else-j-i-via-else-j-i, After-same_name, Then-j-i}

-- the row that is asked is one of the table's
a_row : (c : Then-j-i) → c.loop-j.j < rows c.args.table.now
unfolding rows_in
a_row c = omega arith

pub row_at-requires : goal.row_at-requires
row_at-requires c = a_row c

pub same_name-requires : goal.same_name-requires
same_name-requires c = record { row_len = (ap length c.row_at.ensures ∙ length_row _ _ (a_row (goal.at.same_name-requires c).Then-j-i), rw c.row_at.ensures (c.requires.by_index _ (a_row (goal.at.same_name-requires c).Then-j-i))); other_len = c.requires.len }

-- what was asked is whether it has the new row's name
asked :
    (c : After-same_name)
    → c.same_name.result ≡ same (name (row c.args.table.now c.loop-j.j)) (name c.args.new.now)
asked c =
    c.same_name.ensures ∙ ap (λ r. same (name r) (name c.args.new.now)) c.row_at.ensures

pub returns-then-same_name : goal.returns-then-same_name
returns-then-same_name c = record { elsewhere = (λ e. (c.loop-j.j, a_row (goal.at.returns-then-same_name c).Then-j-i, c.if-j-i.true, same_equal _ _ (sym (asked (goal.at.returns-then-same_name c).After-same_name) ∙ c.if-same_name.true))); not_elsewhere = (λ e. absurd (false≢true (sym e))) }

pub loop-j-preserved : goal.loop-j-preserved
loop-j-preserved c =
    below_more _ c.loop-j.j c.loop-j.invariant
    (elim c.else-j-i.branch [
      | else-j-i-via-then-j-i+else-same_name w ↦ (λ other e. false≢true (sym w.if-same_name.false ∙ w.same_name.ensures ∙ ap (λ r. same (name r) (name c.args.new.now)) w.row_at.ensures ∙ rw e (same_refl _)))
      | else-j-i-via-else-j-i w ↦ (λ other e. absurd (other w.if-j-i.false))
    ])

pub returns : goal.returns
unfolding rows_in
returns c = record { elsewhere = (λ e. absurd (false≢true e)); not_elsewhere = (λ e j below other is. c.loop-j.invariant j (omega arith) other is) }
