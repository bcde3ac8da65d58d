-- `card::row::row_alone` meets its contract: the tests in the definition's order. Assumes nothing.
use mathlib.Core.Path.{◌≡◌, sym, ◌∙◌}
use mathlib.Core.Bool.{true}
use borrow.Author.Tests.{not-true, not-false}
use Rattle.rules.proofs.Laws.Choices.{and_left}
use Rattle.rows.specs.Named.{padded}
use Rattle.card.specs.Fields.{name_right, asked_further, alone}
use Rattle.std.proofs.Common.{ap, not}
use Rattle.card.proofs.row.row_alone.Goals as goal
use Rattle.card.proofs.row.row_alone.Goals.{Else-not-fields_right, Else-not-name_right}

good-name : (c : Else-not-name_right) → let args = c.args in name_right args.rule.set args.row.now ≡ true
good-name c = sym c.name_right.ensures ∙ not-false c.name_right.result (ap not c.if-not-name_right.false)

-- where the fields are right too, all that is left is what is asked further
further : (c : Else-not-fields_right) → let args = c.args in alone args.rule args.row.now ≡ asked_further args.rule.further args.row.now
unfolding alone
further c = rw (good-name (goal.at.further_right-requires c).Else-not-name_right, ← c.fields_right.ensures, not-false c.fields_right.result (ap not c.if-not-fields_right.false))

pub returns-then-not-name_right : goal.returns-then-not-name_right
unfolding alone
returns-then-not-name_right c = rw (← c.name_right.ensures, not-true c.name_right.result (ap not c.if-not-name_right.true))

pub returns-then-not-fields_right : goal.returns-then-not-fields_right
unfolding alone
returns-then-not-fields_right c = rw (good-name (goal.at.returns-then-not-fields_right c).Else-not-name_right, ← c.fields_right.ensures, not-true c.fields_right.result (ap not c.if-not-fields_right.true))

pub further_right-requires : goal.further_right-requires
unfolding name_right
further_right-requires c = (c.requires.0, and_left (padded _) _ (good-name (goal.at.further_right-requires c).Else-not-name_right))

pub returns : goal.returns
returns c = rw (further (goal.at.returns c).Else-not-fields_right) c.further_right.ensures
