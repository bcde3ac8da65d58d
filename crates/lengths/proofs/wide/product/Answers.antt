-- `lengths::wide::product` meets its contract: the columns, in two words, are the product. Assumes nothing.
use native.Mathlib.Omega.{arith}
use borrow.Author.Rules.{rules}
use Rattle.lengths.specs.Wide.{InPieces}
use Rattle.lengths.proofs.Carrying.{in_pieces, both_words}
use Rattle.lengths.proofs.wide.product.Goals as goal
use Rattle.lengths.proofs.wide.product.Goals.{After-pieces-y}

-- both words in pieces
apart : (c : After-pieces-y) → InPieces c.pieces-x.result × InPieces c.pieces-y.result
apart c = (in_pieces _ c.pieces-x.ensures, in_pieces _ c.pieces-y.ensures)

pub four_columns-first-requires : goal.four_columns-first-requires
four_columns-first-requires c = ((apart (goal.at.four_columns-first-requires c).After-pieces-y).0, (apart (goal.at.four_columns-first-requires c).After-pieces-y).1, omega arith, omega arith)

pub four_columns-second-requires : goal.four_columns-second-requires
four_columns-second-requires c =
    let two = apart (goal.at.four_columns-second-requires c).After-pieces-y in
    (two.0, two.1, omega arith, omega (arith, c.four_columns-first.ensures.small))

pub returns : goal.returns
returns c = both_words (search rules) (search rules) c.pieces-x.ensures c.pieces-y.ensures c.four_columns-first.ensures c.four_columns-second.ensures
