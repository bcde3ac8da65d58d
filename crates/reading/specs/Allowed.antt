-- Laws of the test for a forbidden negative. Assumes nothing.
use Rattle.std.specs.Prelude.{◌≡◌, true, false, ℕ}
use Rattle.rules.specs.declared.Length.{Length}
use Rattle.rules.specs.declared.Settings.{Settings}
use Rattle.rules.specs.declared.Refusal.TheVariants.{NegativeForbidden}
use Rattle.rules.specs.Common.{when◌then◌else◌}
use Rattle.rules.specs.NumbersHandedBack.{got, refused}
use Rattle.rules.specs.Evaluation.{allowed}
use Rattle.rules.proofs.Laws.Tests.{and_false}

module _ (s : Settings) (place next : ℕ) (l : Length) where
  pub negative_forbidden : l.negative ≡ true → s.negatives ≡ false → refused (NegativeForbidden place) ≡ allowed s place next l
  unfolding allowed when◌then◌else◌
  negative_forbidden e off = rw (e, off)

  pub negative_allowed : s.negatives ≡ true → got (record { length = l; next = next }) ≡ allowed s place next l
  unfolding allowed when◌then◌else◌
  negative_allowed on = rw (on, and_false)

  pub not_negative : l.negative ≡ false → got (record { length = l; next = next }) ≡ allowed s place next l
  unfolding allowed when◌then◌else◌
  not_negative e = rw e
