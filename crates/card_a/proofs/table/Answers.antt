-- `card_a::table` meets its contract: the 288 bytes are the definition's, computed. Assumes nothing.
use mathlib.Core.Path.{refl}
use Rattle.rules.specs.Common.{ascii}
use Rattle.rules.specs.SettingsAndUnitTable.{low_bytes}
use Rattle.rules.specs.CardAAndItsReadings.{row_of, table_A}
use Rattle.card_a.proofs.table.Goals as goal

pub returns : goal.returns
unfolding table_A row_of ascii low_bytes
returns c = refl
