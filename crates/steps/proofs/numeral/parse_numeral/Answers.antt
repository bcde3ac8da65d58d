-- `steps::numeral::parse_numeral` meets its contract: no numerals, a stretch that ends the text, none that has it as its name, and one with the
-- delimiters behind it. Assumes nothing.
use mathlib.Core.Path.{◌≡◌, sym, ap, ◌∙◌}
use Prim.Native.Nat.{◌≤◌}
use native.Mathlib.Omega.{arith}
use lib.Seq.{slice}
use Rattle.rules.specs.SettingsAsWords.{settings_of}
use Rattle.rules.specs.SettingsAndUnitTable.{lookup}
use Rattle.index.specs.declared.Searched.{Searched}
use Rattle.index.proofs.Laws.Searches.{row_search_finds}
use Rattle.std.proofs.Common.{rules}
use Rattle.steps.specs.Stretches.{stretch_part}
use Rattle.steps.specs.Numerals.{numerals_none, numeral_from, numeral_ends, numeral_nowhere, delimiter_behind, numeral_refused, numeral_got}
use Rattle.steps.proofs.numeral.parse_numeral.Goals as goal
use Rattle.steps.proofs.numeral.parse_numeral.Goals.{After-find-searched, After-past-end}

from : (c : After-past-end) → c.args.place ≤ c.past-end.result
from c = numeral_from (settings_of c.args.settings.now) c.args.numerals.now _ _ c.inner_delimiters-inner.ensures c.past-end.ensures

-- what was looked up is the stretch
looked_up :
    (c : After-find-searched)
    → let args = c.args in
    c.find-searched.result.found ≡ lookup args.numerals.now (slice args.place c.past-end.result args.text.now)
looked_up c =
    ap (λ (s : Searched). s.found) c.find-searched.ensures ∙ row_search_finds _ _ ∙ ap (lookup _) (stretch_part _ _ _ (numeral_from (settings_of c.args.settings.now) c.args.numerals.now _ _ c.inner_delimiters-inner.ensures c.past-end.ensures))

pub returns-then-numerals-eq0 : goal.returns-then-numerals-eq0
returns-then-numerals-eq0 c = numerals_none (settings_of c.args.settings.now) _ _ _ c.if-numerals-eq0.true

pub returns-then-text-end : goal.returns-then-text-end
returns-then-text-end c = numeral_ends (settings_of c.args.settings.now) _ _ _ c.inner_delimiters-inner.ensures c.past-end.ensures c.if-text-end.true

pub slice_bounds-word-count : goal.slice_bounds-word-count
slice_bounds-word-count c = omega (arith, from (goal.at.slice_bounds-word-count c).After-past-end)

pub slice_bounds-word-start : goal.slice_bounds-word-start
slice_bounds-word-start c = omega (arith, from (goal.at.slice_bounds-word-start c).After-past-end)

pub slice_bounds-word-end : goal.slice_bounds-word-end
slice_bounds-word-end c = omega (arith, from (goal.at.slice_bounds-word-end c).After-past-end)

pub find-searched-requires : goal.find-searched-requires
find-searched-requires c = (c.requires.sayable.rooms, c.first_word.ensures)

pub returns-in_default : goal.returns-in_default
returns-in_default c =
    numeral_nowhere (settings_of c.args.settings.now) _ _ _ c.inner_delimiters-inner.ensures c.past-end.ensures
    (looked_up (goal.at.returns-in_default c).After-find-searched) c.in_default.is

pub try_consume_delimiter-requires : goal.try_consume_delimiter-requires
try_consume_delimiter-requires c =
    delimiter_behind (settings_of c.args.settings.now) _ _ _ c.inner_delimiters-inner.ensures c.past-end.ensures
    (looked_up (goal.at.try_consume_delimiter-requires c).After-find-searched) c.if-text-end.false

pub returns-in_err-next : goal.returns-in_err-next
returns-in_err-next c =
    let refusal =
    numeral_refused (settings_of c.args.settings.now) _ _ _ c.inner_delimiters-inner.ensures c.past-end.ensures
    (looked_up (goal.at.returns-in_err-next c).After-find-searched) c.if-text-end.false c.in-Some.is (sym c.in_err-next.ensures) in
    search rules

pub returns : goal.returns
returns c =
    numeral_got (settings_of c.args.settings.now) _ _ _ c.inner_delimiters-inner.ensures c.past-end.ensures
    (looked_up (goal.at.returns c).After-find-searched) c.if-text-end.false c.in-Some.is (sym c.in_ok-next.ensures)

pub inner_delimiters-inner-requires : goal.inner_delimiters-inner-requires
inner_delimiters-inner-requires c = c.requires.settings_value
