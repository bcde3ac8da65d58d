-- Laws of what a coefficient comes to: seconds and attoseconds are multiplied apart. Assumes nothing.
use Rattle.std.proofs.Common.{◌≡◌, sym, ◌∙◌, ap, ℕ, Bool, ◌+◌, ◌*◌, ◌/◌, ◌%◌, ◌^◌, ◌≤◌, arith}
use Rattle.rules.specs.declared.Length.{Length}
use Rattle.rules.specs.ThePartOfTheCrateWeTake.{largest}
use Rattle.rules.specs.Evaluation.{nanos, length_of}
use Rattle.rules.proofs.Laws.Lengths.{size_clamped}
use Rattle.rules.proofs.Laws.Apart.{nanos_apart}

-- seconds that no word holds make the largest length
pub seconds_clamped : (negative : Bool) (c s a : ℕ) → 2 ^ 64 ≤ c * s → length_of negative (nanos c (s * 10 ^ 18 + a)) ≡ largest negative
seconds_clamped negative c s a h = size_clamped negative _ (rw (nanos_apart c s a) (omega arith))

-- the seconds multiplied, and the attoseconds multiplied and cut: together they are the number multiplied and cut
pub cut_apart : (negative : Bool) (c s a : ℕ) {seconds nanoseconds : ℕ} {r : Length} → (seconds ≡ c * a / 10 ^ 9 / 10 ^ 9) × (nanoseconds ≡ c * a / 10 ^ 9 % 10 ^ 9) → r ≡ length_of negative ((c * s + seconds) * 10 ^ 9 + nanoseconds) → r ≡ length_of negative (nanos c (s * 10 ^ 18 + a))
cut_apart negative c s a (e, f) h = h ∙ rw (e, f) (ap (length_of negative) (sym (nanos_apart c s a)))
