-- `settings::fields::conjunctions` meets its contract. Assumes nothing.
use Rattle.rules.specs.SettingsAsWords.{settings_of}
use Rattle.settings.proofs.fields.conjunctions.Goals as goal

pub returns : goal.returns
unfolding settings_of
returns c = c.held_to_byte.ensures
