-- `value::number::put_zeros` meets its contract: zero stays zero, ten to the twentieth is above any word, and the test by division says
-- whether the product fits. Assumes nothing.
use Rattle.std.proofs.Common.{sym, ◌*◌, ◌^◌, ◌≤◌, zero-mul, mul-one, one-mul, le_trans, mul-le-mul_right, pos_of_ne-zero, div-lt_iff_lt-mul, le-div_iff_mul-le, rules, arith, lit≤}
use Rattle.value.specs.Digits.{ten_pos, ten_grows}
use Rattle.value.specs.Places.{word_fits, word_too_large}
use Rattle.value.proofs.number.put_zeros.Goals as goal
use Rattle.value.proofs.number.put_zeros.Goals.{After-pow10-power, then-number-eq0-via-then-number-eq0, then-number-eq0-via-else-number-eq0+then-zeros-eq0}

pub returns-then-number-eq0 : goal.returns-then-number-eq0
returns-then-number-eq0 c =
    elim c.then-number-eq0.branch [
      | then-number-eq0-via-then-number-eq0 w ↦ word_fits (rw w.if-number-eq0.true (sym (zero-mul _))) (search rules)
      | then-number-eq0-via-else-number-eq0+then-zeros-eq0 w ↦ word_fits (rw w.if-zeros-eq0.true (sym (mul-one _))) (search rules)
    ]

pub returns-then-zeros-gt-MOST_ZEROS : goal.returns-then-zeros-gt-MOST_ZEROS
returns-then-zeros-gt-MOST_ZEROS c =
    let power = 10 ^ c.args.zeros in
    let once : power ≤ c.args.number * power = rw (one-mul power) at (mul-le-mul_right power (pos_of_ne-zero c.if-number-eq0.false)) in
    word_too_large _ (le_trans (lit≤ {m = 2 ^ 64} {n = 10 ^ 20} tt) (le_trans (ten_grows c.if-zeros-gt-MOST_ZEROS.true) once))

pub nonzero_div-power : goal.nonzero_div-power
nonzero_div-power c = rw c.pow10-power.ensures (ten_pos _)

pub returns-then-power-number : goal.returns-then-power-number
returns-then-power-number c = word_too_large _ (rw c.pow10-power.ensures at ((div-lt_iff_lt-mul (nonzero_div-power (goal.at.returns-then-power-number c).After-pow10-power)).0 c.if-power-number.true))

pub overflow_mul-result : goal.overflow_mul-result
overflow_mul-result c = record { fits = omega (arith, (le-div_iff_mul-le (nonzero_div-power (goal.at.overflow_mul-result c).After-pow10-power)).0 c.if-power-number.false) }

pub returns : goal.returns
returns c = word_fits (rw c.pow10-power.ensures) (overflow_mul-result c).fits
