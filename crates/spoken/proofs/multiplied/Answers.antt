-- `spoken::multiplied` meets its contract, in range and out of it. Assumes nothing.
use Rattle.std.proofs.Common.{rules}
use Rattle.rules.specs.Evaluation.{multiplied}
use Rattle.rules.specs.NumbersHandedBack.{◌>>◌, unless}
use Rattle.spoken.specs.Products.{product}
use Rattle.spoken.proofs.multiplied.Goals as goal

pub returns-then-product_in_range : goal.returns-then-product_in_range
unfolding product multiplied unless ◌>>◌
returns-then-product_in_range c = search rules

pub returns-else-product_in_range : goal.returns-else-product_in_range
unfolding product multiplied unless ◌>>◌
returns-else-product_in_range c = search rules
