-- `card::row::ascii_name` meets its contract: the closure asks each byte what the definition asks. Assumes nothing.
use Rattle.std.proofs.Common.{◌∙◌, rules, tests}
use Rattle.std.proofs.lemmas.Iterator.{YieldsList-from_slice}
use Rattle.std.proofs.lemmas.Iterator.Search.{all_from_yields_List}
use Rattle.rules.specs.Common.{between}
use Rattle.rows.proofs.Chains.{all_listed}
use Rattle.card.proofs.row.ascii_name.Goals as goal

pub returns : goal.returns
unfolding between
returns c =
    let name = c.args.name.now in
    all_from_yields_List (between 0 127) _ _ _ c.all.ensures.ran (YieldsList-from_slice name cc) (λ x b q k. search (rules, tests)) ∙ all_listed (between 0 127) name
