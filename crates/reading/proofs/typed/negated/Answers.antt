-- `reading::typed::negated` meets its contract: the sign turns exactly if it is to be negated. Assumes nothing.
use mathlib.Core.Path.{◌≡◌, refl, ap}
use mathlib.Core.Bool.{Bool, true, false, not, beq}
use Rattle.rules.specs.declared.Multiplier.{Multiplier}
use Rattle.rules.specs.Common.{when◌then◌else◌}
use Rattle.rules.specs.ReadingOnePart.{negated}
use Rattle.steps.specs.Units.{negated_if}
use Rattle.reading.proofs.typed.negated.Goals as goal

turned : (m : Multiplier) (negate : Bool) → record { negative = not (beq m.negative negate); coefficient = m.coefficient; up = m.up; down = m.down } ≡ negated_if negate m
unfolding negated when◌then◌else◌
turned m true = ap (λ sign. record { negative = sign; coefficient = m.coefficient; up = m.up; down = m.down }) (other m.negative)
  where
    other : (b : Bool) → not (beq b true) ≡ not b
    other true = refl
    other false = refl
turned m false = ap (λ sign. record { negative = sign; coefficient = m.coefficient; up = m.up; down = m.down }) (same m.negative)
  where
    same : (b : Bool) → not (beq b false) ≡ b
    same true = refl
    same false = refl

pub returns : goal.returns
returns c = turned c.args.m c.args.negate
