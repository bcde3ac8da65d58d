-- `iso_reader::worth::add` meets its contract: one of the two is too large, their sum is, and neither. Assumes nothing.
use Rattle.std.proofs.Common.{rules, sym, ◌∙◌, ◌+◌, ◌*◌, ◌<◌, ◌^◌, arith}
use Rattle.value.specs.Places.{fits_word}
use Rattle.iso_reader.specs.Due.{due_large, due_more, word_over, add_large, add_over, add_fits}
use Rattle.iso_reader.proofs.worth.add.Goals as goal
use Rattle.iso_reader.proofs.worth.add.Goals.{Else-count-seconds}

pub returns-in_err-seconds : goal.returns-in_err-seconds
returns-in_err-seconds c w n e = rw (c.from_residual.ensures, c.in_err-seconds.was) (due_large n _)

pub returns-in_err-count : goal.returns-in_err-count
returns-in_err-count c w n e =
    rw c.from_residual-in_err-count.ensures (add_large n w _ (search rules) _ (word_over w (sym c.in_err-count.was ∙ e)))

pub returns-then-count-seconds : goal.returns-then-count-seconds
returns-then-count-seconds c w n e =
    rw c.in_ok-seconds.was
    (add_over n w _ (search rules) _ (rw (← fits_word w (sym c.in_ok-count.was ∙ e)) c.if-count-seconds.true))

-- the seconds and the number's fit a word
fits : (c : Else-count-seconds) → c.in_ok-seconds.seconds + c.in_ok-count.count * c.args.unit < 2 ^ 64
fits c = add_fits _ _ _ (search rules) (search rules) c.if-count-seconds.false

pub overflow_mul-result : goal.overflow_mul-result
overflow_mul-result c = record { fits = omega (arith, fits c) }

pub overflow_add-result : goal.overflow_add-result
overflow_add-result c = record { fits = fits c }

pub returns : goal.returns
returns c w n e = rw (c.in_ok-seconds.was, ← fits_word w (sym c.in_ok-count.was ∙ e)) (due_more _ n _)
