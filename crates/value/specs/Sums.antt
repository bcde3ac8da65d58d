-- The sum of a typed number's digits: it goes on over the point. Assumes nothing.
use Rattle.std.specs.Prelude.{◌≡◌, List, [], ℕ}
use Rattle.std.proofs.Common.{◌∙◌}
use Rattle.std.proofs.Math.Seq.{slice, slice_empty}
use Rattle.rules.specs.declared.Span.{Span}
use Rattle.rules.specs.Evaluation.{digits_of}
use Rattle.value.specs.Numbers.{summed}
use Rattle.value.specs.Digits.{summed_append}

-- the sum of the digits before and after a point
abbrev pub sum_of : List ℕ → Span → Span → ℕ
sum_of text whole fract = summed 0 (digits_of text whole fract)

-- ---- the sum goes on with the digits after the point, of which there may be none

module _ (text : List ℕ) (whole : Span) {number : ℕ} (w : number ≡ summed 0 (slice whole.start whole.end text)) where
  pub sum_both : (fract : Span) {more : ℕ} → more ≡ summed number (slice fract.start fract.end text) → more ≡ sum_of text whole fract
  unfolding digits_of
  sum_both fract e = rw w at e ∙ summed_append 0 _ _

  pub sum_whole : (place : ℕ) → number ≡ sum_of text whole (record { start = place; end = place })
  unfolding summed
  sum_whole place = sum_both (record { start = place; end = place }) (rw (slice_empty place text))

-- ---- no digits at all, which sum up to nothing

module _ (text : List ℕ) (place : ℕ) where
  pub digits_none : digits_of text (record { start = place; end = place }) (record { start = place; end = place }) ≡ []
  unfolding digits_of
  digits_none = rw (slice_empty place text)

  pub sum_none : 0 ≡ sum_of text (record { start = place; end = place }) (record { start = place; end = place })
  unfolding summed
  sum_none = rw digits_none
