-- `reading::ready::AcceptedCard::with_indexes` meets its contract: an accepted card has accepted settings, and tables that can be searched. Assumes nothing.
use Rattle.rules.specs.SettingsAsWords.{card_of}
use Rattle.rules.specs.SettingsAndUnitTable.{Card}
use Rattle.card.specs.Laws.Accepted.{card_settings}
use Rattle.reading.specs.Entries.{card_readable, card_sayable}
use Rattle.reading.proofs.ready.AcceptedCard.with_indexes.Goals as goal
use Rattle.reading.proofs.ready.AcceptedCard.with_indexes.Goals.{Start}

abbrev card : Start → Card
card c = card_of c.args.settings.now c.args.hall.now c.args.line.now c.args.numerals.now

pub stops-requires : goal.stops-requires
stops-requires c = card_settings (card (goal.at.stops-requires c).Start) c.requires.accepted

pub invariant_of-ready : goal.invariant_of-ready
invariant_of-ready c =
    let units = card_readable (card (goal.at.invariant_of-ready c).Start) c.requires.accepted in
    record { searchable = ∣ (record { rooms = units.0.rooms; beside = c.requires.beside.0 }, record { rooms = units.1.rooms; beside = c.requires.beside.1 }) ∣₁ }

pub invariant_of-ready-2 : goal.invariant_of-ready-2
invariant_of-ready-2 c =
    let lent = card (goal.at.invariant_of-ready-2 c).Start in
    let accepted = c.requires.accepted in
    record { settings_accepted = card_settings lent accepted; readable = card_readable lent accepted; sayable = card_sayable lent accepted; stopped = c.stops.ensures }
