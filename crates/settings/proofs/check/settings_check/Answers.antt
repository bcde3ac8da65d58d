-- `settings::check::settings_check` meets its contract: the three tests in the definition's order. Assumes nothing.
use mathlib.Core.Path.{◌≡◌}
use lib.Dec.{leb}
use borrow.Author.Tests.{le-leb, lt-leb, not-true, not-false}
use Rattle.rules.specs.SettingsAndUnitTable.{last_kind, settings_check}
use Rattle.rules.specs.SettingsAsWords.{settings_of}
use Rattle.rules.specs.declared.Refusal.TheVariants.{DefaultKind}
use Rattle.rules.specs.NumbersHandedBack.{◌>>◌, unless}
use Rattle.std.proofs.Common.{ap, not}
use Rattle.settings.proofs.check.settings_check.Goals as goal
use Rattle.settings.proofs.check.settings_check.Goals.{Else-not-conjunctions_accepted}

pub returns-then-not-delimiters_accepted : goal.returns-then-not-delimiters_accepted
unfolding settings_check unless ◌>>◌
returns-then-not-delimiters_accepted c = rw (← c.delimiters_accepted.ensures, not-true c.delimiters_accepted.result (ap not c.if-not-delimiters_accepted.true))

pub returns-then-not-conjunctions_accepted : goal.returns-then-not-conjunctions_accepted
unfolding settings_check unless ◌>>◌
returns-then-not-conjunctions_accepted c =
    rw (
      ← c.delimiters_accepted.ensures,
      not-false c.delimiters_accepted.result (ap not c.if-not-delimiters_accepted.false),
      ← c.conjunctions_accepted.ensures,
      not-true c.conjunctions_accepted.result (ap not c.if-not-conjunctions_accepted.true),
    )

-- past the first two tests the third decides
kind-decides :
    (c : Else-not-conjunctions_accepted)
    → let s = settings_of c.args.settings.now in
    settings_check s ≡ unless DefaultKind (leb s.default_kind last_kind)
unfolding settings_check unless ◌>>◌
kind-decides c =
    rw (
      ← c.delimiters_accepted.ensures,
      not-false c.delimiters_accepted.result (ap not c.if-not-delimiters_accepted.false),
      ← c.conjunctions_accepted.ensures,
      not-false c.conjunctions_accepted.result (ap not c.if-not-conjunctions_accepted.false),
    )

pub returns-then-default_kind-gt7 : goal.returns-then-default_kind-gt7
unfolding unless
returns-then-default_kind-gt7 c = rw (kind-decides (goal.at.returns-then-default_kind-gt7 c).Else-not-conjunctions_accepted, ← c.default_kind.ensures, lt-leb _ _ c.if-default_kind-gt7.true)

pub returns : goal.returns
unfolding unless
returns c = rw (kind-decides (goal.at.returns c).Else-not-conjunctions_accepted, ← c.default_kind.ensures, le-leb _ _ c.if-default_kind-gt7.false)
