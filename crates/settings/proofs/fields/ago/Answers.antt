-- `settings::fields::ago` meets its contract. Assumes nothing.
use borrow.Author.Rules.{rules}
use Rattle.rules.specs.SettingsAsWords.{on, settings_of}
use Rattle.settings.proofs.fields.ago.Goals as goal

pub returns : goal.returns
unfolding on settings_of
returns c = search rules
