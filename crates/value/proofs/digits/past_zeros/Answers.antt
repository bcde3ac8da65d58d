-- `value::digits::past_zeros` meets its contract: another byte and the text's end stop the run, and zeros are a run from `0` to `0`.
-- Assumes nothing.
use Rattle.std.proofs.Common.{sym, ◌∙◌, rules}
use borrow.Author.Tests.{ne_eqb}
use Rattle.rules.specs.Common.{between}
use Rattle.value.specs.Digits.{run_off, run_end, run_zeros}
use Rattle.value.proofs.digits.past_zeros.Goals as goal
use Rattle.value.proofs.digits.past_zeros.Goals.{then-text-place-via-then-text-place, then-text-place-via-else-text-place+then-text-place-ne48}

pub returns-then-text-place : goal.returns-then-text-place
returns-then-text-place c =
    elim c.then-text-place.branch [
      | then-text-place-via-then-text-place w ↦ sym (run_end _ _ _ w.if-text-place.true)
      | then-text-place-via-else-text-place+then-text-place-ne48 w ↦ sym (run_off _ _ _ w.if-text-place.false (ne_eqb _ _ (λ e. w.if-text-place-ne48.true (sym e))))
    ]

pub returns : goal.returns
returns c = c.past.ensures ∙ c.past_eights-next.ensures (between 48 48) (λ at h stands. search rules) ∙ run_zeros _ _
