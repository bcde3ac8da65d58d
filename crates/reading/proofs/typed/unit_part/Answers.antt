-- `reading::typed::unit_part` meets its contract: what comes of the unit that was found, or of none. Assumes nothing.
use Rattle.std.proofs.Common.{◌≡◌, sym, ap, ◌∙◌, rules}
use Rattle.std.proofs.Math.Seq.{slice}
use Rattle.rules.specs.NumbersHandedBack.{refused}
use Rattle.rules.specs.Common.{run}
use Rattle.rules.specs.SettingsAsWords.{settings_of}
use Rattle.rules.specs.SettingsAndUnitTable.{find_row}
use Rattle.rules.specs.ReadingOnePart.{in_stretch, find_unit}
use Rattle.rules.proofs.Laws.Outcomes.{bind_got, bind_refused}
use Rattle.steps.specs.Units.{ago_read, unit_read, Fits, stretch_within, found_fits}
use Rattle.reading.specs.Meant.{meant}
use Rattle.reading.specs.Entries.{card_readable}
use Rattle.reading.specs.Coded.{unit_coded, coded_part}
use Rattle.reading.proofs.typed.unit_part.Goals as goal
use Rattle.reading.proofs.typed.unit_part.Goals.{After-parse_ago, After-parse_time_unit, After-unit_stretch-stretch}

-- the place found is where the stretch ends
stretch :
    (c : After-unit_stretch-stretch)
    → c.unit_stretch-stretch.result.end ≡ run (in_stretch (settings_of c.args.card.now.settings.now)) c.args.text.now c.args.counted.next
stretch c = c.unit_stretch-stretch.ensures.end_value _ c.args.card.now.stopped

pub parse_time_unit-requires : goal.parse_time_unit-requires
parse_time_unit-requires c = record { readable = c.args.card.now.readable; scanned = record { within = stretch_within _ _ _ (stretch c); word = c.unit_stretch-stretch.ensures.first_value } }

-- what is read of the row that the stretch finds
found :
    (c : After-parse_time_unit)
    → c.parse_time_unit.result ≡ unit_read (find_unit (meant c.args.card.now) c.args.text.now c.args.counted.next)
unfolding find_unit
found c =
    c.parse_time_unit.ensures
    ∙ ap (λ end. unit_read (find_row c.args.card.now.units.hall.now c.args.card.now.units.line.now (slice c.args.counted.next end c.args.text.now))) (c.unit_stretch-stretch.ensures.end_value _ c.args.card.now.stopped)

-- and what follows its name
followed :
    (c : After-parse_ago)
    → c.parse_ago.result ≡ ago_read (settings_of c.args.card.now.settings.now) c.args.text.now (run (in_stretch (settings_of c.args.card.now.settings.now)) c.args.text.now c.args.counted.next)
followed c = c.parse_ago.ensures ∙ ap (ago_read _ _) (c.unit_stretch-stretch.ensures.end_value _ c.args.card.now.stopped)

pub returns-in_default : goal.returns-in_default
unfolding coded_part
returns-in_default c =
    c.unitless_part.ensures
    ∙ ap (unit_coded (meant c.args.card.now) c.args.text.now c.args.negative c.args.counted)
    (sym c.in_default.is ∙ found (goal.at.returns-in_default c).After-parse_time_unit)

pub with_unit-requires : goal.with_unit-requires
with_unit-requires c =
    let fits : Fits c.parse_time_unit.result = rw c.parse_time_unit.ensures (found_fits _ _ _ c.args.card.now.readable) in
    (c.requires, rw c.in-Some.is at fits)

pub returns-in_err-ago : goal.returns-in_err-ago
unfolding coded_part
returns-in_err-ago c =
    let refusal : refused c.in_err-ago.field-0.0 ≡ coded_part (meant c.args.card.now) c.args.text.now c.args.negative c.args.counted =
    sym (ap (unit_coded (meant c.args.card.now) c.args.text.now c.args.negative c.args.counted) (sym (found (goal.at.returns-in_err-ago c).After-parse_time_unit) ∙ c.in-Some.is)
    ∙ bind_refused _ (sym (followed (goal.at.returns-in_err-ago c).After-parse_ago) ∙ c.in_err-ago.was)) in
    search rules

pub returns : goal.returns
unfolding coded_part
returns c =
    rw c.with_unit.ensures
    (sym (ap (unit_coded (meant c.args.card.now) c.args.text.now c.args.negative c.args.counted) (sym (found (goal.at.returns c).After-parse_time_unit) ∙ c.in-Some.is)
    ∙ bind_got _ (sym (followed (goal.at.returns c).After-parse_ago) ∙ c.in_ok-ago.was)))
