-- Outcomes after which the same follows: a step that is another with `more` after it stays so behind a step, and behind a test. Assumes nothing.
use Rattle.std.specs.Prelude.{◌≡◌, Bool}
use Rattle.std.proofs.Math.Path.{refl}
use Rattle.std.proofs.Math.Bool.{true, false}
use Rattle.rules.specs.Common.{when◌then◌else◌}
use Rattle.rules.specs.NumbersHandedBack.{Outcome, got, refused, ◌>>=◌}

module _ {B C : Type 0} (more : B → Outcome C) where
  pub then_joined :
      {A : Type 0} (m : Outcome A) {f : A → Outcome C} (g : A → Outcome B)
      → ((a : A) → f a ≡ (g a >>= more))
      → (m >>= f) ≡ (m >>= g >>= more)
  unfolding ◌>>=◌
  then_joined (got a) g h = h a
  then_joined (refused cause) g h = refl

  pub if_joined :
      (b : Bool) {x y : Outcome C} (u v : Outcome B)
      → x ≡ (u >>= more)
      → y ≡ (v >>= more)
      → (when b then x else y) ≡ ((when b then u else v) >>= more)
  unfolding when◌then◌else◌
  if_joined true u v p q = p
  if_joined false u v p q = q
