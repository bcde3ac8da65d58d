-- What a spoken number is multiplied by, as it is handed on. Assumes nothing.
use Rattle.rules.specs.declared.Multiplier.{Multiplier}
use Rattle.rules.specs.declared.SpokenRepr.{SpokenRepr}
use Rattle.rules.specs.NumbersHandedBack.{Outcome, got, refused}
use Rattle.rules.specs.Evaluation.{spoken_multiplier}
use Rattle.rules.specs.Laws.Powers.{net}

-- a product in range is handed on with its powers taken off each other
unfoldable pub product : Outcome Multiplier → Outcome Multiplier
product (got m) = got (net m)
product (refused cause) = refused cause

unfoldable pub spoken_product : SpokenRepr → Outcome Multiplier
spoken_product d = product (spoken_multiplier d)
