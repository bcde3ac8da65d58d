-- `card::table::named_before` meets its contract: one of the rows before it has the name. Assumes nothing.
use Rattle.std.proofs.Common.{◌≡◌, ◌<◌, true, refl, ◌∙◌, arith, rules, tests}
use Rattle.std.proofs.lemmas.Iterator.{YieldsList-from_range, serves_from_Range}
use Rattle.std.proofs.lemmas.Iterator.Search.{any_from_yields_List}
use Rattle.rules.specs.Common.{same}
use Rattle.rules.specs.SettingsAndUnitTable.{rows, row, name}
use Rattle.rows.specs.Named.{padded}
use Rattle.card.specs.Laws.Table.{any_earlier}
use Rattle.card.proofs.table.named_before.Goals as goal

pub any-requires-clause-callable : goal.any-requires-clause-callable
any-requires-clause-callable c =
    serves_from_Range (λ x q k. search rules)
    (λ x low high.
    let early : x < rows c.args.table.now = omega (arith, c.requires.i_bound) in
    let one : padded (row c.args.table.now x) ≡ true = c.requires.by_index x (omega arith) in
    let other : padded (row c.args.table.now c.args.i) ≡ true = c.requires.by_index c.args.i (omega arith) in
    search rules)

pub returns : goal.returns
returns c =
    let table = c.args.table.now in
    let wanted = name (row table c.args.i) in
    any_from_yields_List (λ j. same (name (row table j)) wanted) _ _ _ c.any.ensures.ran (YieldsList-from_range 0 c.args.i c.args.i refl (omega arith)) (λ x b q k. search (rules, tests))
    ∙ any_earlier table wanted c.args.i
