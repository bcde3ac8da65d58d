-- `iso_reader::reader::timing` meets its contract: no `P`, `T` after it, and a component after it. Assumes nothing.
use Rattle.std.proofs.Common.{◌≡◌, ◌∙◌, sym, ap, drop}
use Rattle.rules.specs.NumbersHandedBack.{◌>>=◌}
use Rattle.rules.proofs.Laws.Outcomes.{bind_refused}
use Rattle.iso.specs.IsoTimings.{ANY, date, wanted, read_from, components}
use Rattle.iso_reader.specs.Steps.{handed_on}
use Rattle.iso_reader.specs.Sums.{valued, first_refused, first_is, date_clock, date_number, none_so_far}
use Rattle.iso_reader.proofs.reader.timing.Goals as goal
use Rattle.iso_reader.proofs.reader.timing.Goals.{Else-not-stands, Else-stands}

pub returns-then-not-stands : goal.returns-then-not-stands
returns-then-not-stands c = sym (bind_refused _ (sym (first_refused _ (sym c.if-not-stands.ensures))))

-- `P` stands first
dated-from : (c : Else-not-stands) → components c.args.text.now ≡ read_from date 1 (drop 1 c.args.text.now)
dated-from c = first_is _ (sym c.if-not-stands.ensures)

pub returns-then-stands : goal.returns-then-stands
returns-then-stands c =
    c.clock.ensures
    ∙ none_so_far _
    ∙ ap valued (sym (dated-from (goal.at.returns-then-stands c).Else-not-stands ∙ date_clock _ 1 (sym c.if-stands.ensures)))

-- and no `T` behind it
component-from : (c : Else-stands) → read_from (wanted ANY) 1 (drop 1 c.args.text.now) ≡ components c.args.text.now
component-from c = sym (first_is _ (sym c.if-not-stands.ensures) ∙ date_number _ 1 (sym c.if-stands.ensures))

pub returns-in_err-component : goal.returns-in_err-component
unfolding ◌>>=◌
returns-in_err-component c =
    handed_on c.from_residual.result c.from_residual.ensures.1
    ∙ sym (bind_refused _ (sym (c.in_err-component.ensures.outcome ∙ component-from (goal.at.returns-in_err-component c).Else-stands)))

pub returns : goal.returns
unfolding ◌>>=◌
returns c =
    c.dated.ensures ∙ ap valued (c.in_ok-component.ensures.outcome ∙ component-from (goal.at.returns c).Else-stands)
