-- `steps::number::parse_number` meets its contract: there are whole digits exactly if their run goes on from the place. Assumes nothing.
use mathlib.Core.Path.{ap, ◌∙◌}
use Rattle.rules.specs.SettingsAsWords.{settings_of}
use Rattle.steps.specs.Sums.{sums}
use Rattle.steps.specs.Numbers.{number_whole}
use Rattle.steps.proofs.number.parse_number.Goals as goal

pub returns : goal.returns
returns c =
    c.parse_number_fraction.ensures
    ∙ ap (sums c.args.text.now) (number_whole (settings_of c.args.settings.now) _ _ c.parse_digits_strip_zeros-digits.ensures.0)

pub parse_number_fraction-requires : goal.parse_number_fraction-requires
parse_number_fraction-requires c = c.parse_digits_strip_zeros-digits.ensures.1
