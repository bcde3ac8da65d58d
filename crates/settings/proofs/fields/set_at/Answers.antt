-- `settings::fields::set_at` meets its contract. Assumes nothing.
use Rattle.std.proofs.Common.{refl}
use Rattle.rules.specs.SettingsAsWords.{set_of}
use Rattle.settings.proofs.fields.set_at.Goals as goal

pub returns : goal.returns
unfolding set_of
returns c = refl
