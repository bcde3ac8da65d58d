-- `settings::fields::bit` meets its contract. Assumes nothing.
use Rattle.std.proofs.Common.{◌≡◌, Bool, true, false, refl, ◌∙◌}
use Rattle.std.specs.Int.{from_bool}
use Rattle.rules.specs.Common.{when◌then◌else◌}
use Rattle.rules.specs.SettingsAsWords.{bit}
use Rattle.settings.proofs.fields.bit.Goals as goal

pub returns : goal.returns
unfolding when◌then◌else◌
returns c = c.from.ensures ∙ go c.args.b
  where
    go : (b : Bool) → from_bool b ≡ bit b
    go true = refl
    go false = refl
