-- `sorted::replaced::row_fits` meets its contract: the size, the row by itself, and the names of the others. Assumes nothing.
use mathlib.Core.Path.{◌≡◌, refl, sym, ◌∙◌}
use mathlib.Core.Bool.{Bool, true, false, not}
use borrow.Author.Tests.{ne_eqb}
use Rattle.rules.specs.declared.Refusal.TheVariants.{TableSize, BadRow}
use Rattle.rules.specs.SettingsAsWords.{settings_of}
use Rattle.card.specs.Fields.{alone, said}
use Rattle.card.specs.Laws.Table.{alone_padded}
use Rattle.index.specs.TheSortedIndex.{passes, may_replace}
use Rattle.sorted.specs.Found.{passes_found}
use Rattle.sorted.specs.Replacing.{one_decides, fails_alone, fails_elsewhere, comes_in, padded_rows}
use Rattle.sorted.proofs.replaced.row_fits.Goals as goal
use Rattle.sorted.proofs.replaced.row_fits.Goals.{After-named_elsewhere, After-rows_found, Then-is_ok}

pub returns-then-new-ne-ROW_SIZE : goal.returns-then-new-ne-ROW_SIZE
unfolding may_replace
returns-then-new-ne-ROW_SIZE c = rw (ne_eqb _ _ c.if-new-ne-ROW_SIZE.true)

-- what was found is whether the new row passes by itself
asked :
    (c : After-rows_found)
    → passes (said TableSize BadRow c.rows_found.result) ≡ alone c.unit_rule.result c.args.new.now
asked c = one_decides _ _ c.if-new-ne-ROW_SIZE.false (c.rows_found.ensures TableSize BadRow)

passed : (c : Then-is_ok) → alone c.unit_rule.result c.args.new.now ≡ true
passed c = sym (asked (goal.at.named_elsewhere-requires c).After-rows_found) ∙ passes_found TableSize BadRow _ ∙ sym c.is_ok.ensures.value ∙ c.if-is_ok.true

-- a row that does not pass by itself
fails :
    (c : After-rows_found)
    → passes (said TableSize BadRow c.rows_found.result) ≡ false
    → false ≡ may_replace (settings_of c.args.settings.now) c.args.table.now c.args.i c.args.new.now
fails c no-pass =
    fails_alone _ _ _ _ _ c.unit_rule.ensures.by_index (λ k. (c.shared_slice_known-1.given k).fits) (λ k. (c.shared_slice_known-2-1.given k).fits) c.requires.settings_value.1 c.requires.i_bound c.if-new-ne-ROW_SIZE.false (sym (asked c) ∙ no-pass)

pub named_elsewhere-requires : goal.named_elsewhere-requires
named_elsewhere-requires c = record { by_index = padded_rows _ _ _ _ c.args.new.now c.unit_rule.ensures.by_index (λ k. (c.shared_slice_known-1.given k).fits) (λ k. (c.shared_slice_known-2-1.given k).fits) c.requires.settings_value.1 c.requires.i_bound; len = (c.if-new-ne-ROW_SIZE.false, alone_padded _ _ (passed c)) }

-- whether another row has the name decides
decided :
    (c : After-named_elsewhere) (t : Bool)
    → c.named_elsewhere.result ≡ t
    → not t ≡ may_replace (settings_of c.args.settings.now) c.args.table.now c.args.i c.args.new.now
decided c true e =
    fails_elsewhere _ _ _ _ _ c.unit_rule.ensures.by_index (λ k. (c.shared_slice_known-1.given k).fits) (λ k. (c.shared_slice_known-2-1.given k).fits) c.requires.settings_value.1 c.requires.i_bound c.if-new-ne-ROW_SIZE.false
    (c.named_elsewhere.ensures.elsewhere e)
decided c false e =
    comes_in _ _ _ _ _ c.unit_rule.ensures.by_index (λ k. (c.shared_slice_known-1.given k).fits) (λ k. (c.shared_slice_known-2-1.given k).fits) c.requires.settings_value.1 c.requires.i_bound c.if-new-ne-ROW_SIZE.false
    (passed (goal.at.returns-then-is_ok c).Then-is_ok) (c.named_elsewhere.ensures.not_elsewhere e)

pub returns-then-is_ok : goal.returns-then-is_ok
returns-then-is_ok c = decided c c.named_elsewhere.result refl

pub returns-else-is_ok : goal.returns-else-is_ok
returns-else-is_ok c =
    c.if-is_ok.false ∙ fails (goal.at.returns-else-is_ok c).After-rows_found (passes_found TableSize BadRow _ ∙ sym c.is_ok.ensures.value ∙ c.if-is_ok.false)
