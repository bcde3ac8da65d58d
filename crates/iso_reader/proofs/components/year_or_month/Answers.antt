-- `iso_reader::components::year_or_month` meets its contract: two bytes, before the first component. Assumes nothing.
use Rattle.std.proofs.Common.{arith, ⊎_elim}
use Rattle.std.proofs.lemmas.Grind.{common_steps}
use Rattle.iso.specs.IsoTimings.{year_or_month}
use Rattle.iso_reader.specs.Kinds.{bound_first, bound_later}
use Rattle.iso_reader.proofs.components.year_or_month.Goals as goal

pub returns-in-89 : goal.returns-in-89
unfolding year_or_month
returns-in-89 c = rw (bound_first c.args.below c.if-is_none.ensures) (⊎_elim (λ e. rw e) (λ e. rw e) c.in-89.is)

pub returns-in_default : goal.returns-in_default
unfolding year_or_month
returns-in_default c =
    rw (bound_first c.args.below c.if-is_none.ensures) (grind (arith, common_steps, c.in_default))

pub returns-else-is_none : goal.returns-else-is_none
unfolding year_or_month
returns-else-is_none c = rw (bound_later c.args.below c.if-is_none.ensures, c.if-is_none.false)
