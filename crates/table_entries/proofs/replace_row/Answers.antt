-- `table_entries::replace_row` meets its contract: what stands before it, and then both the table and the index. Assumes nothing.
use mathlib.Core.Path.{◌≡◌, sym, ap, ◌∙◌}
use Rattle.rules.specs.ThePartOfTheCrateWeTake.{zero_length}
use Rattle.rules.specs.NumbersHandedBack.{got, done}
use Rattle.rules.specs.SettingsAndUnitTable.{rows}
use Rattle.rules.specs.SettingsAsWords.{settings_of}
use Rattle.index.specs.TheSortedIndex.{replacing}
use Rattle.table_entries.specs.Changes.{replace_kept, replace_asks, replaced}
use Rattle.table_entries.proofs.replace_row.Goals as goal
use Rattle.table_entries.proofs.replace_row.Goals.{In-Ok}

-- nothing stands before it
allowed :
    (c : In-Ok)
    → replacing (settings_of c.args.settings.now) c.args.table.now c.args.index.now c.args.row c.args.new.now ≡ got tt
allowed c = sym c.may_replace.ensures ∙ c.in-Ok.is

pub returns-in-Err : goal.returns-in-Err
returns-in-Err c =
    let laws = replace_kept _ _ _ _ _ (sym c.may_replace.ensures ∙ c.in-Err.is) in
    record { value = c.refusal.ensures ∙ laws.0; table_after = laws.1; index_after = laws.2 }

pub returns-in-Ok : goal.returns-in-Ok
returns-in-Ok c = let laws = replaced _ _ _ _ _ (allowed (goal.at.returns-in-Ok c).In-Ok) in record { value = c.rows_done.ensures ∙ ap (λ t. done (rows t) zero_length) c.put_in.ensures.table_after ∙ laws.0; table_after = c.put_in.ensures.table_after ∙ laws.1; index_after = c.put_in.ensures.index_after ∙ laws.2 }

pub put_in-requires : goal.put_in-requires
put_in-requires c = let both = replace_asks _ _ _ _ _ (allowed (goal.at.put_in-requires c).In-Ok) in record { i_bound = both.0; right = both.1 }
