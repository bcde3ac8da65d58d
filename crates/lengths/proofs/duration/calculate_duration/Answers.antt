-- `lengths::duration::calculate_duration` meets its contract: a coefficient multiplies seconds and attoseconds apart, and each product is
-- known to fit before it is made. Assumes nothing.
use Rattle.std.proofs.Common.{◌≡◌, sym, ◌∙◌, ap, ◌*◌, ◌/◌, ◌%◌, ◌^◌, zero-add, rules}
use Rattle.rules.specs.Evaluation.{length_of}
use Rattle.rules.proofs.Laws.Apart.{none, nanos_whole, nanos_one, nanos_none}
use Rattle.lengths.proofs.Fitting.{fits, passes, seconds_fit}
use Rattle.lengths.proofs.Cuts.{seconds_clamped, cut_apart}
use Rattle.lengths.proofs.duration.calculate_duration.Goals as goal
use Rattle.lengths.proofs.duration.calculate_duration.Goals.{Joined-attos-most, else-attos-most, then-attos-most}

pub returns-then-coefficient-eq1 : goal.returns-then-coefficient-eq1
returns-then-coefficient-eq1 c = rw c.if-coefficient-eq1.true (c.signed.ensures ∙ ap (length_of _) (sym (nanos_one _ _)))

pub returns-then-coefficient-eq0 : goal.returns-then-coefficient-eq0
returns-then-coefficient-eq0 c = rw (c.if-coefficient-eq0.true, nanos_none) (c.zero.ensures ∙ sym (none _))

pub returns-then-most-seconds : goal.returns-then-most-seconds
returns-then-most-seconds c = c.largest.ensures ∙ sym (seconds_clamped _ _ _ _ (passes _ _ (search rules) c.if-most-seconds.true))

pub overflow_mul-whole : goal.overflow_mul-whole
overflow_mul-whole c = record { fits = fits _ _ (search rules) c.if-most-seconds.false }

pub returns-then-attos-eq0 : goal.returns-then-attos-eq0
returns-then-attos-eq0 c = rw c.if-attos-eq0.true (c.signed-then-attos-eq0.ensures ∙ ap (length_of _) (sym (nanos_whole _ _)))

pub overflow_mul-coefficient : goal.overflow_mul-coefficient
overflow_mul-coefficient c = record { fits = fits _ _ (search rules) c.if-attos-most.true }

pub cut_words-size-requires : goal.cut_words-size-requires
cut_words-size-requires c = rw c.product.ensures (seconds_fit (search rules) (search rules))

-- the attoseconds multiplied and cut, in one word or two
either_way :
    (c : Joined-attos-most)
    → (c.if-attos-most.size.seconds ≡ c.args.coefficient * c.args.attos / 10 ^ 9 / 10 ^ 9) × (c.if-attos-most.size.nanoseconds ≡ c.args.coefficient * c.args.attos / 10 ^ 9 % 10 ^ 9)
either_way c =
    elim c.if-attos-most.branch [
      | then-attos-most w ↦ rw w.size-is w.cut_word-size.ensures
      | else-attos-most w ↦ rw (w.size-is, ← w.product.ensures) w.cut_words-size.ensures
    ]

pub returns-then-whole-eq0 : goal.returns-then-whole-eq0
returns-then-whole-eq0 c = cut_apart _ _ _ _ (either_way (goal.at.returns-then-whole-eq0 c).Joined-attos-most) (rw (c.if-whole-eq0.true, zero-add) c.signed-then-whole-eq0.ensures)

pub returns : goal.returns
returns c = cut_apart _ _ _ _ (either_way (goal.at.returns c).Joined-attos-most) c.limited.ensures
