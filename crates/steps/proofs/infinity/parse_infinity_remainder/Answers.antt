-- `steps::infinity::parse_infinity_remainder` meets its contract: what closes the word after `inf` decides. Assumes nothing.
use mathlib.Core.Path.{sym, ◌∙◌}
use Rattle.rules.specs.SettingsAsWords.{settings_of}
use Rattle.steps.specs.Infinity.{word_short, word_long}
use Rattle.steps.proofs.infinity.parse_infinity_remainder.Goals as goal

pub returns-then-closes_infinity : goal.returns-then-closes_infinity
returns-then-closes_infinity c = word_short (settings_of c.args.settings.now) _ _ (sym c.closes_infinity.ensures ∙ c.if-closes_infinity.true)

pub returns : goal.returns
returns c =
    c.parse_inity.ensures
    ∙ word_long (settings_of c.args.settings.now) _ _ (sym c.closes_infinity.ensures ∙ c.if-closes_infinity.false)

pub closes_infinity-requires : goal.closes_infinity-requires
closes_infinity-requires c = c.requires.settings_value
