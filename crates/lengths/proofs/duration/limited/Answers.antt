-- `lengths::duration::limited` meets its contract: where the seconds do not fit, the length passes the largest. Assumes nothing.
use Rattle.std.proofs.Common.{sym, ap, ◌∙◌, arith}
use Rattle.rules.specs.Evaluation.{length_of}
use Rattle.rules.proofs.Laws.Lengths.{size_clamped}
use Rattle.rules.proofs.Laws.Apart.{apart}
use Rattle.lengths.proofs.duration.limited.Goals as goal

pub returns-in_default : goal.returns-in_default
returns-in_default c = c.largest.ensures ∙ sym (size_clamped _ _ (omega (arith, c.in_default.ensures)))

pub returns-then-nanoseconds-lt-NANOS_PER_SEC : goal.returns-then-nanoseconds-lt-NANOS_PER_SEC
returns-then-nanoseconds-lt-NANOS_PER_SEC c =
    sym (ap (length_of _) (omega (arith, c.in-Some.ensures)) ∙ apart _ c.in-Some.sum _ (omega (arith, c.in-Some.ensures)) (omega arith) (λ e. c.requires.1 (omega (arith, c.in-Some.ensures))))

pub returns-in_default-checked_add : goal.returns-in_default-checked_add
returns-in_default-checked_add c = c.largest-in_default-checked_add.ensures ∙ sym (size_clamped _ _ (omega (arith, c.in-Some.ensures, c.in_default-checked_add.ensures)))

pub returns : goal.returns
returns c =
    let first = c.in-Some.ensures in
    let second = c.in-Some-checked_add.ensures in
    sym (ap (length_of _) (omega (arith, first, second)) ∙ apart _ c.in-Some-checked_add.sum _ (omega (arith, second)) (omega arith) (λ e. absurd (omega (arith, second))))
