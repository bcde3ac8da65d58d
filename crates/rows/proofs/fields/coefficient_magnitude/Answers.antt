-- `rows::fields::coefficient_magnitude` meets its contract: on both sides of zero. Assumes nothing.
use Rattle.std.proofs.Common.{◌∙◌, rules}
use Rattle.std.specs.Int.{w64}
use Rattle.std.proofs.lemmas.Int.{of_z-to_z}
use Rattle.rows.specs.Laws.Rows.{signed_word}
use Rattle.rows.proofs.fields.coefficient_magnitude.Goals as goal

pub returns : goal.returns
returns c = c.unsigned_abs.ensures.value ∙ rw (c.cast_signed.ensures, of_z-to_z w64 c.args.x (search rules)) (signed_word c.args.x (search rules))
