-- What a multiplier is worth by its net powers of ten. Assumes nothing.
use Rattle.std.specs.Prelude.{◌≡◌, Bool, ◌+◌, ◌-◌, min}
use Rattle.std.proofs.Common.{arith}
use Rattle.rules.specs.declared.Multiplier.{Multiplier}
use Rattle.rules.specs.Evaluation.{attos, worth}
use Rattle.rules.specs.Laws.Powers.{net}
use Rattle.value.specs.Places.{powers_both}

-- powers that stand on both sides fall away
pub worth_net : (negative : Bool) (m : Multiplier) → worth negative (net m) ≡ worth negative m
unfolding net worth attos
worth_net negative m =
    rw (powers_both 1 (18 + (m.up - m.down)) (0 + (m.down - m.up)) (min m.up m.down) (18 + m.up) (0 + m.down) (omega arith) (omega arith))
