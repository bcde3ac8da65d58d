-- `table_entries::make_index` meets its contract: what stands before it, and then the index. Assumes nothing.
use mathlib.Core.Path.{◌≡◌, sym, ◌∙◌}
use Rattle.rules.specs.NumbersHandedBack.{got}
use Rattle.rules.specs.SettingsAsWords.{settings_of}
use Rattle.index.specs.TheSortedIndex.{making}
use Rattle.table_entries.specs.Changes.{make_refused, made, make_asks}
use Rattle.table_entries.proofs.make_index.Goals as goal
use Rattle.table_entries.proofs.make_index.Goals.{In-Ok}

-- nothing stands before it
allowed :
    (c : In-Ok)
    → making (settings_of c.args.settings.now) c.args.table.now c.args.index.now ≡ got tt
allowed c = sym c.may_make.ensures ∙ c.in-Ok.is

pub returns-in-Err : goal.returns-in-Err
returns-in-Err c =
    let laws = make_refused _ _ _ (sym c.may_make.ensures ∙ c.in-Err.is) in
    record { value = c.refusal.ensures ∙ laws.0; index_after = laws.1 }

pub returns-in-Ok : goal.returns-in-Ok
returns-in-Ok c =
    let laws = made _ _ _ (allowed (goal.at.returns-in-Ok c).In-Ok) in
    record { value = c.rows_done.ensures ∙ laws.0; index_after = c.make.ensures ∙ laws.1 }

pub make-requires : goal.make-requires
make-requires c = make_asks _ _ _ (allowed (goal.at.make-requires c).In-Ok)
