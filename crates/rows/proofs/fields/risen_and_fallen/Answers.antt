-- `rows::fields::risen_and_fallen` meets its contract: on both sides of zero. Assumes nothing.
use Rattle.std.proofs.Common.{sym, ◌∙◌, arith, rules}
use Rattle.std.specs.Int.{w16}
use Rattle.std.proofs.lemmas.Int.{of_z-to_z}
use Rattle.rows.specs.Laws.Rows.{risen_of, risen_below, fallen_of, fallen_below, signed_short}
use Rattle.rows.proofs.fields.risen_and_fallen.Goals as goal

pub returns-then-power-lt32768 : goal.returns-then-power-lt32768
returns-then-power-lt32768 c = (sym (risen_of c.args.power c.if-power-lt32768.true), sym (fallen_of c.args.power c.if-power-lt32768.true))

pub returns-else-power-lt32768 : goal.returns-else-power-lt32768
returns-else-power-lt32768 c = (
  sym (risen_below c.args.power c.if-power-lt32768.false),
  c.unsigned_abs.ensures.value ∙ rw (c.cast_signed.ensures, of_z-to_z w16 c.args.power (search rules)) (signed_short c.args.power c.if-power-lt32768.false (search rules) ∙ sym (fallen_below c.args.power c.if-power-lt32768.false)),
)
