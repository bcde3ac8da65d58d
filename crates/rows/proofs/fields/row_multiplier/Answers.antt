-- `rows::fields::row_multiplier` meets its contract: each field of the row, as the definition reads it. Assumes nothing.
use Rattle.rules.specs.SettingsAndUnitTable.{coefficient_field_in, power_field_in}
use Rattle.rows.specs.Laws.Rows.{multiplier_is}
use Rattle.rows.proofs.fields.row_multiplier.Goals as goal

pub returns : goal.returns
unfolding coefficient_field_in power_field_in
returns c = multiplier_is _ c.word_at-coefficient.ensures c.short_at.ensures c.coefficient_magnitude.ensures c.risen_and_fallen-up.ensures.0 c.risen_and_fallen-up.ensures.1
