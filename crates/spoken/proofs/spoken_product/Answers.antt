-- `spoken::spoken_product` meets its contract: the first product that is out of range is the last. Assumes nothing.
use Rattle.std.proofs.Common.{rules, sym, ◌∙◌}
use Rattle.rules.specs.Evaluation.{spoken_multiplier, multiplied}
use Rattle.spoken.specs.Products.{spoken_product}
use Rattle.spoken.specs.Laws.{product_stops, product_goes_on}
use Rattle.spoken.proofs.spoken_product.Goals as goal

pub returns-in_err-first : goal.returns-in_err-first
unfolding spoken_product spoken_multiplier
returns-in_err-first c = let refusal = product_stops (multiplied c.args.d.numeral c.args.d.kind) (λ m. multiplied m c.args.d.row) (sym c.in_err-first.ensures) in search rules

pub returns : goal.returns
unfolding spoken_product spoken_multiplier
returns c = c.multiplied-2.ensures ∙ product_goes_on _ _ (sym c.in_ok-first.ensures)
