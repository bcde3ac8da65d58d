-- `tables::class_of` meets its contract: the table is what the rule of the classes lists, at all 256 bytes, and the bytes of an arm
-- have the class of the byte whose entry is read. Assumes nothing.
use mathlib.Core.Path.{◌≡◌, refl, ◌∙◌}
use mathlib.Core.Bool.{◌||◌}
use mathlib.Core.Logic.{⊎_elim, inl, inr}
use Prim.Native.Nat.{ℕ, ◌<◌}
use native.Mathlib.Omega.{arith}
use lib.Dec.{eqb, lit<}
use lib.ListN.{get_or}
use borrow.Author.Tests.{ne_eqb}
use Rattle.rules.specs.Common.{when◌then◌else◌, between, runs}
use Rattle.rules.specs.SettingsAndUnitTable.{class}
use Rattle.rules.proofs.Laws.Tables.{listed, entry}
use Rattle.tables.specs.Arms.{alike_but, alike}
use Rattle.tables.specs.declared.TheConstants.{CLASSES}
use Rattle.tables.proofs.class_of.Goals as goal
use Rattle.tables.proofs.class_of.Goals.{then-b-lt91, else-b-lt91+else-b-lt97+then-b-lt123, in_default-via-then-b-lt48, in_default-via-else-b-lt48+else-b-lt58+then-b-lt65, in_default-via-else-b-lt48+else-b-lt58+else-b-lt65+else-b-lt91+then-b-lt97, in_default-via-else-b-lt48+else-b-lt58+else-b-lt65+else-b-lt91+else-b-lt97+else-b-lt123}

-- one test over all entries gives each byte's class
class_at : (b : ℕ) → b < 256 → get_or CLASSES b 0 ≡ class b
unfolding listed class between when◌then◌else◌
class_at = entry class 256 CLASSES refl

pub returns-in-43 : goal.returns-in-43
unfolding class between when◌then◌else◌
returns-in-43 c = class_at 43 (lit< tt) ∙ ⊎_elim (λ e. rw e) (λ e. rw e) c.in-43.is

pub returns-in-46 : goal.returns-in-46
returns-in-46 c = class_at 46 (lit< tt) ∙ rw c.in-46.is

pub returns-in-48-to-57 : goal.returns-in-48-to-57
unfolding runs class between when◌then◌else◌
returns-in-48-to-57 c = class_at 48 (lit< tt) ∙ alike class 48 48 10 {x = c.args.b} refl (omega arith) (omega arith)

pub returns-in-65-to-90 : goal.returns-in-65-to-90
unfolding runs class between when◌then◌else◌
returns-in-65-to-90 c =
    class_at 65 (lit< tt)
    ∙ elim c.in-65-to-90-1.branch [
      | then-b-lt91 w ↦ alike class 65 65 26 {x = c.args.b} refl (omega arith) (omega arith)
      | else-b-lt91+else-b-lt97+then-b-lt123 w ↦ alike class 65 97 26 {x = c.args.b} refl (omega arith) (omega arith)
    ]

-- below the digits stand the signs and the point, which have arms of their own
pub returns-in_default : goal.returns-in_default
unfolding runs class between when◌then◌else◌
returns-in_default c =
    class_at 0 (lit< tt)
    ∙ elim c.in_default.branch [
      | in_default-via-then-b-lt48 w ↦ alike_but class 0 0 48 {x = c.args.b} (λ x. eqb x 43 || (eqb x 45 || eqb x 46)) refl (omega arith) (omega arith) (rw (ne_eqb _ 43 (λ e. c.in_default-1.rest.0.1 (inl e)), ne_eqb _ 45 (λ e. c.in_default-1.rest.0.1 (inr e)), ne_eqb _ 46 c.in_default-1.rest.1))
      | in_default-via-else-b-lt48+else-b-lt58+then-b-lt65 w ↦ alike class 0 58 7 {x = c.args.b} refl (omega arith) (omega arith)
      | in_default-via-else-b-lt48+else-b-lt58+else-b-lt65+else-b-lt91+then-b-lt97 w ↦ alike class 0 91 6 {x = c.args.b} refl (omega arith) (omega arith)
      | in_default-via-else-b-lt48+else-b-lt58+else-b-lt65+else-b-lt91+else-b-lt97+else-b-lt123 w ↦ alike class 0 123 133 {x = c.args.b} refl (omega arith) (omega arith)
    ]
