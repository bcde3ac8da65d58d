-- `card_a::settings` meets its contract: the record is the definition, computed. Assumes nothing.
use mathlib.Core.Path.{refl}
use Rattle.rules.specs.Common.{ascii}
use Rattle.rules.specs.SettingsAndUnitTable.{low_first}
use Rattle.rules.specs.CardAAndItsReadings.{space, conjunction, settings, settings_A}
use Rattle.card_a.proofs.settings.Goals as goal

pub returns : goal.returns
unfolding settings_A settings space conjunction ascii low_first
returns c = refl
