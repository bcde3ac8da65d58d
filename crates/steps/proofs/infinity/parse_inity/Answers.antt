-- `steps::infinity::parse_inity` meets its contract: how many of the five letters are there decides, and what closes the word. Assumes nothing.
use mathlib.Core.Path.{refl, sym, ◌∙◌}
use Prim.Native.Nat.{◌+◌}
use native.Mathlib.Omega.{arith}
use borrow.Author.Rules.{rules}
use lib.ListN.{drop}
use Rattle.rules.specs.Common.{ascii, all, between, when◌then◌else◌}
use Rattle.rules.specs.SettingsAsWords.{settings_of}
use Rattle.rules.specs.SettingsAndUnitTable.{is, class}
use Rattle.steps.specs.Infinity.{five_most, long_ends, long_byte, long_closed, long_goes_on}
use Rattle.steps.proofs.infinity.parse_inity.Goals as goal

pub letters_matching-letters-requires : goal.letters_matching-letters-requires
unfolding all is class between when◌then◌else◌
letters_matching-letters-requires c = refl

pub overflow_add-end : goal.overflow_add-end
unfolding ascii
overflow_add-end c = omega (arith, c.letters_matching-letters.ensures, five_most (drop (c.args.inf + 3) c.args.text.now))

pub returns-then-text-end : goal.returns-then-text-end
unfolding ascii
returns-then-text-end c = long_ends (settings_of c.args.settings.now) _ _ (search rules) c.letters_matching-letters.ensures c.if-letters-lt-INITY.true c.if-text-end.true

pub returns-then-letters-lt-INITY : goal.returns-then-letters-lt-INITY
unfolding ascii
returns-then-letters-lt-INITY c = long_byte (settings_of c.args.settings.now) _ _ (search rules) c.letters_matching-letters.ensures c.if-letters-lt-INITY.true c.if-text-end.false

pub closes_infinity-requires : goal.closes_infinity-requires
closes_infinity-requires c = c.requires.settings_value

pub returns-then-closes_infinity : goal.returns-then-closes_infinity
unfolding ascii
returns-then-closes_infinity c =
    long_closed (settings_of c.args.settings.now) _ _ (search rules) c.letters_matching-letters.ensures c.if-letters-lt-INITY.false
    (sym c.closes_infinity.ensures ∙ c.if-closes_infinity.true)

pub returns : goal.returns
unfolding ascii
returns c =
    long_goes_on (settings_of c.args.settings.now) _ _ (search rules) c.letters_matching-letters.ensures c.if-letters-lt-INITY.false
    (sym c.closes_infinity.ensures ∙ c.if-closes_infinity.false)
