-- `settings::fields::default_kind` meets its contract. Assumes nothing.
use Rattle.rules.specs.SettingsAsWords.{settings_of}
use Rattle.settings.proofs.fields.default_kind.Goals as goal

pub returns : goal.returns
unfolding settings_of
returns c = c.held_to_byte.ensures
