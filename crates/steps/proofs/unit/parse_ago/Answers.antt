-- `steps::unit::parse_ago` meets its contract: ago off, no delimiter, a run that ends the text, another word, a word that goes on, and `ago`. Assumes nothing.
-- ---- what each step on the way to `ago` says
use mathlib.Core.Path.{◌≡◌, refl, sym, ap, ◌∙◌}
use mathlib.Core.Bool.{true}
use native.Mathlib.Omega.{arith}
use borrow.Author.Tests.{not-true, not-false}
use Rattle.rules.specs.Common.{ascii, sees, all, between, when◌then◌else◌}
use Rattle.rules.specs.SettingsAsWords.{settings_of}
use Rattle.rules.specs.SettingsAndUnitTable.{is, class, holds}
use Rattle.rules.specs.ReadingOnePart.{says}
use Rattle.settings.specs.Sets.{bytes_of}
use Rattle.steps.specs.Delimiters.{delimiters_within}
use Rattle.steps.specs.Units.{ago_off, ago_none, ago_refused, ago_within, ago_other, ago_open, ago_there}
use Rattle.std.proofs.Common.{not, rules}
use Rattle.steps.proofs.unit.parse_ago.Goals as goal
use Rattle.steps.proofs.unit.parse_ago.Goals.{Else-not-ago, Else-not-is_delimiter, Else-not-next_is_ignore_ascii_case}

on : (c : Else-not-ago) → (settings_of c.args.settings.now).ago ≡ true
on c = sym c.ago.ensures ∙ not-false _ (ap not c.if-not-ago.false)

there :
    (c : Else-not-is_delimiter)
    → let args = c.args in
    sees (holds (bytes_of c.inner_delimiters-inner.result)) args.text.now args.place ≡ true
there c = sym c.is_delimiter.ensures ∙ not-false _ (ap not c.if-not-is_delimiter.false)

ago-said :
    (c : Else-not-next_is_ignore_ascii_case)
    → says (ascii "ago") c.args.text.now c.in_ok-word.word ≡ true
unfolding ascii
ago-said c = sym c.next_is_ignore_ascii_case.ensures ∙ not-false _ (ap not c.if-not-next_is_ignore_ascii_case.false)

pub returns-then-not-ago : goal.returns-then-not-ago
returns-then-not-ago c = ago_off (settings_of c.args.settings.now) _ _ (sym c.ago.ensures ∙ not-true _ (ap not c.if-not-ago.true))

pub returns-then-not-is_delimiter : goal.returns-then-not-is_delimiter
returns-then-not-is_delimiter c =
    ago_none (settings_of c.args.settings.now) (sym c.inner_delimiters-inner.ensures) _ _ (on (goal.at.returns-then-not-is_delimiter c).Else-not-ago)
    (sym c.is_delimiter.ensures ∙ not-true _ (ap not c.if-not-is_delimiter.true))

pub returns-in_err-word : goal.returns-in_err-word
returns-in_err-word c =
    let refusal =
    ago_refused (settings_of c.args.settings.now) (sym c.inner_delimiters-inner.ensures) _ _ (on (goal.at.returns-in_err-word c).Else-not-ago)
    (there (goal.at.returns-in_err-word c).Else-not-is_delimiter) (sym c.in_err-word.ensures) in
    search rules

pub next_is_ignore_ascii_case-requires : goal.next_is_ignore_ascii_case-requires
unfolding all is class between when◌then◌else◌
next_is_ignore_ascii_case-requires c = refl

pub returns-then-not-next_is_ignore_ascii_case : goal.returns-then-not-next_is_ignore_ascii_case
unfolding ascii
returns-then-not-next_is_ignore_ascii_case c =
    ago_other (settings_of c.args.settings.now) (sym c.inner_delimiters-inner.ensures) _ _ (on (goal.at.returns-then-not-next_is_ignore_ascii_case c).Else-not-ago)
    (there (goal.at.returns-then-not-next_is_ignore_ascii_case c).Else-not-is_delimiter) (sym c.in_ok-word.ensures) (sym c.next_is_ignore_ascii_case.ensures ∙ not-true _ (ap not c.if-not-next_is_ignore_ascii_case.true))

pub overflow_add-end : goal.overflow_add-end
overflow_add-end c = omega (arith, ago_within _ _ (delimiters_within _ _ _ (there (goal.at.overflow_add-end c).Else-not-is_delimiter) (sym c.in_ok-word.ensures)) (ago-said c))

pub returns-then-not-closes_unit : goal.returns-then-not-closes_unit
returns-then-not-closes_unit c =
    ago_open (settings_of c.args.settings.now) (sym c.inner_delimiters-inner.ensures) _ _ (on (goal.at.returns-then-not-closes_unit c).Else-not-ago)
    (there (goal.at.returns-then-not-closes_unit c).Else-not-is_delimiter) (sym c.in_ok-word.ensures) (ago-said (goal.at.returns-then-not-closes_unit c).Else-not-next_is_ignore_ascii_case) (sym c.closes_unit.ensures ∙ not-true _ (ap not c.if-not-closes_unit.true))

pub returns : goal.returns
returns c =
    ago_there (settings_of c.args.settings.now) (sym c.inner_delimiters-inner.ensures) _ _ (on (goal.at.returns c).Else-not-ago)
    (there (goal.at.returns c).Else-not-is_delimiter) (sym c.in_ok-word.ensures) (ago-said (goal.at.returns c).Else-not-next_is_ignore_ascii_case) (sym c.closes_unit.ensures ∙ not-false _ (ap not c.if-not-closes_unit.false))
