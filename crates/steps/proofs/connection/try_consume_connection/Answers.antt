-- `steps::connection::try_consume_connection` meets its contract: no delimiter, a run that ends the text, a run alone, and a run with a conjunction. Assumes nothing.
use mathlib.Core.Path.{◌≡◌, sym, ap, ◌∙◌}
use mathlib.Core.Bool.{true}
use native.Mathlib.Omega.{arith}
use borrow.Author.Tests.{not-true, not-false}
use Rattle.rules.specs.Common.{sees}
use Rattle.rules.specs.SettingsAsWords.{settings_of}
use Rattle.rules.specs.NumbersHandedBack.{got}
use Rattle.rules.specs.SettingsAndUnitTable.{holds}
use Rattle.rules.specs.ReadingOnePart.{delimiters}
use Rattle.steps.specs.Delimiters.{delimiters_within}
use Rattle.steps.specs.Connections.{connection_none, connection_refused, connection_plain, connection_joined}
use Rattle.std.proofs.Common.{not, rules}
use Rattle.steps.proofs.connection.try_consume_connection.Goals as goal
use Rattle.steps.proofs.connection.try_consume_connection.Goals.{Else-not-is_delimiter, In_ok-word}

-- past the first test a delimiter stands at the place, and the run that it begins was got
there : (c : Else-not-is_delimiter) → let args = c.args in sees (holds (settings_of args.settings.now).outer) args.text.now args.place ≡ true
there c = rw (← c.outer_delimiters-outer.ensures) (sym c.is_delimiter.ensures ∙ not-false _ (ap not c.if-not-is_delimiter.false))

got_word :
    (c : In_ok-word)
    → let args = c.args in
    delimiters (settings_of args.settings.now).outer args.text.now args.place ≡ got c.in_ok-word.word
got_word c =
    rw (← c.outer_delimiters-outer.ensures)
    (sym c.in_ok-word.ensures)

pub returns-then-not-is_delimiter : goal.returns-then-not-is_delimiter
returns-then-not-is_delimiter c =
    connection_none (settings_of c.args.settings.now) _ _
    (rw (← c.outer_delimiters-outer.ensures) (sym c.is_delimiter.ensures ∙ not-true _ (ap not c.if-not-is_delimiter.true)))

pub try_consume_delimiter-requires : goal.try_consume_delimiter-requires
try_consume_delimiter-requires c = sym c.is_delimiter.ensures ∙ not-false _ (ap not c.if-not-is_delimiter.false)

pub returns-then-size-eq0 : goal.returns-then-size-eq0
returns-then-size-eq0 c =
    connection_plain (settings_of c.args.settings.now) _ _
    (there (goal.at.returns-then-size-eq0 c).Else-not-is_delimiter) (got_word (goal.at.returns-then-size-eq0 c).In_ok-word) c.conjunction_size-size.ensures c.if-size-eq0.true

pub overflow_add-word : goal.overflow_add-word
overflow_add-word c = omega (arith, delimiters_within _ _ _ (there (goal.at.overflow_add-word c).Else-not-is_delimiter) (got_word (goal.at.overflow_add-word c).In_ok-word))

pub returns-in_err-word : goal.returns-in_err-word
returns-in_err-word c =
    let refusal =
    connection_refused (settings_of c.args.settings.now) c.args.text.now c.args.place (there (goal.at.returns-in_err-word c).Else-not-is_delimiter)
    (ap (λ set. delimiters set c.args.text.now c.args.place) (sym c.outer_delimiters-outer.ensures) ∙ sym c.in_err-word.ensures) in
    search rules

pub returns : goal.returns
returns c =
    c.after_conjunction.ensures
    ∙ connection_joined (settings_of c.args.settings.now) _ _
    (there (goal.at.returns c).Else-not-is_delimiter) (got_word (goal.at.returns c).In_ok-word) c.conjunction_size-size.ensures c.if-size-eq0.false
