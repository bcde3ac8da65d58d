-- `iso_reader::components::may_come` meets its contract: before the first component, and after another. Assumes nothing.
use Rattle.std.proofs.Common.{◌≡◌, refl}
use Rattle.std.specs.Ordering.{partial_lt, partial_ge}
use Rattle.rules.specs.Common.{when◌then◌else◌, between}
use Rattle.iso.specs.IsoTimings.{ANY, may_come}
use Rattle.iso_reader.specs.Kinds.{kind_number}
use Rattle.iso_reader.specs.declared.counted.Kind.{Kind}
use Rattle.iso_reader.specs.declared.counted.Kind.TheVariants.{Seconds, Minutes, Hours, Days, Weeks}
use Rattle.iso_reader.specs.contracts.counted.KindPartialOrd.TheImpl.{partial_cmp-value}
use Rattle.iso_reader.proofs.components.may_come.Goals as goal

first : (kind : Kind) → partial_ge partial_cmp-value.it kind Days ≡ may_come ANY (kind_number kind)
unfolding may_come between when◌then◌else◌
first Seconds = refl
first Minutes = refl
first Hours = refl
first Days = refl
first Weeks = refl

later : (kind last : Kind) → partial_lt partial_cmp-value.it kind last ≡ may_come (kind_number last) (kind_number kind)
unfolding may_come when◌then◌else◌
later Seconds Seconds = refl
later Seconds Minutes = refl
later Seconds Hours = refl
later Seconds Days = refl
later Seconds Weeks = refl
later Minutes Seconds = refl
later Minutes Minutes = refl
later Minutes Hours = refl
later Minutes Days = refl
later Minutes Weeks = refl
later Hours Seconds = refl
later Hours Minutes = refl
later Hours Hours = refl
later Hours Days = refl
later Hours Weeks = refl
later Days Seconds = refl
later Days Minutes = refl
later Days Hours = refl
later Days Days = refl
later Days Weeks = refl
later Weeks Seconds = refl
later Weeks Minutes = refl
later Weeks Hours = refl
later Weeks Days = refl
later Weeks Weeks = refl

pub returns-in-None : goal.returns-in-None
returns-in-None c = rw (c.ge.ensures, c.in-None.is) (first c.args.kind)

pub returns-in-Some : goal.returns-in-Some
returns-in-Some c = rw (c.lt.ensures, c.in-Some.is) (later c.args.kind c.in-Some.last)
