-- The definitions' card that a card made ready is. Assumes nothing.
use Rattle.rules.specs.SettingsAsWords.{card_of}
use Rattle.rules.specs.SettingsAndUnitTable.{Card}
use Rattle.reading.specs.declared.ready.ReadyCard.{ReadyCard}

abbrev pub meant : ReadyCard → Card
meant card = card_of card.settings.now card.units.hall.now card.units.line.now card.numerals.now
