-- `lengths::duration::saturating_add` meets its contract: lengths of one sign add up, and to zero only if both are zero, with a plus;
-- of two signs the shorter is taken from the longer, whose sign stays. Assumes nothing.
use Rattle.std.proofs.Common.{sym, ap, ◌∙◌, ◌+◌, ◌*◌, ◌^◌, ◌<◌, ◌≤◌, le-leb, arith}
use Rattle.std.proofs.lemmas.Grind.{common_steps}
use Rattle.std.proofs.lemmas.Bool.{lt-leb}
use Rattle.rules.specs.ThePartOfTheCrateWeTake.{size}
use Rattle.rules.specs.Evaluation.{length_of}
use Rattle.rules.proofs.Laws.Apart.{proper, zero_plus, sum_alike, sum_first, sum_second}
use Rattle.lengths.proofs.duration.saturating_add.Goals as goal

pub overflow_add-a : goal.overflow_add-a
overflow_add-a c = record { fits = omega (arith, proper c.args.a c.requires.0, proper c.args.b c.requires.1) }

pub limited-requires : goal.limited-requires
unfolding size
limited-requires c = (omega (arith, proper c.args.a c.requires.0, proper c.args.b c.requires.1), λ e. zero_plus c.args.a c.requires.0 (omega arith))

pub returns-then-a-b : goal.returns-then-a-b
unfolding size
returns-then-a-b c = c.limited.ensures ∙ ap (length_of _) (omega arith) ∙ sym (sum_alike _ _ c.if-a-b.true)

pub invariant_of-second : goal.invariant_of-second
invariant_of-second c = record { proper = proper c.args.b c.requires.1 }

pub invariant_of-first : goal.invariant_of-first
invariant_of-first c = record { proper = proper c.args.a c.requires.0 }

pub returns-then-le : goal.returns-then-le
unfolding size
returns-then-le c =
    let order : c.args.b.seconds * 10 ^ 9 + c.args.b.nanoseconds ≤ c.args.a.seconds * 10 ^ 9 + c.args.a.nanoseconds = grind (arith, common_steps) in
    c.subtract.ensures ∙ sym (sum_first _ _ c.if-a-b.false (le-leb _ _ order))

pub returns-else-le : goal.returns-else-le
unfolding size
returns-else-le c =
    let order : c.args.a.seconds * 10 ^ 9 + c.args.a.nanoseconds < c.args.b.seconds * 10 ^ 9 + c.args.b.nanoseconds = grind (arith, common_steps) in
    c.subtract-else-le.ensures ∙ sym (sum_second _ _ c.if-a-b.false (lt-leb _ _ order))
