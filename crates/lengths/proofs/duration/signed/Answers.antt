-- `lengths::duration::signed` meets its contract: no seconds and no nanoseconds are zero, and any others are apart already.
-- Assumes nothing.
use Rattle.std.proofs.Common.{sym, ap, ◌∙◌, arith, rules}
use Rattle.rules.specs.Evaluation.{length_of}
use Rattle.rules.proofs.Laws.Apart.{none, apart}
use Rattle.lengths.proofs.duration.signed.Goals as goal
use Rattle.lengths.proofs.duration.signed.Goals.{else-size-eq0-via-then-size-eq0+else-size-eq0-2, else-size-eq0-via-else-size-eq0}

pub returns-then-size-eq0-2 : goal.returns-then-size-eq0-2
returns-then-size-eq0-2 c = c.zero.ensures ∙ sym (none _) ∙ ap (length_of _) (omega arith)

pub returns : goal.returns
returns c =
    sym (apart _ _ _ (search rules) (search rules) (λ e. absurd (elim c.else-size-eq0.branch [
      | else-size-eq0-via-then-size-eq0+else-size-eq0-2 w ↦ w.if-size-eq0-2.false (omega arith)
      | else-size-eq0-via-else-size-eq0 w ↦ w.if-size-eq0.false (omega arith)
    ])))
