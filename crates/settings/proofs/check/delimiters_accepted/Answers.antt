-- `settings::check::delimiters_accepted` meets its contract: it asks of both sets what the definition asks. Assumes nothing.
use Rattle.rules.specs.SettingsAndUnitTable.{delimiters_accepted}
use Rattle.settings.proofs.check.delimiters_accepted.Goals as goal

pub returns-then-delimits : goal.returns-then-delimits
unfolding delimiters_accepted
returns-then-delimits c =
    rw (
      ← c.inner.ensures,
      ← c.delimits.ensures,
      c.if-delimits.true,
      ← c.outer.ensures,
    )
    c.delimits-then-delimits.ensures

pub returns-else-delimits : goal.returns-else-delimits
unfolding delimiters_accepted
returns-else-delimits c = rw (← c.inner.ensures, ← c.delimits.ensures, c.if-delimits.false)
