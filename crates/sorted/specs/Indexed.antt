-- Laws of an accepted card with its indexes: the card is accepted, and each index is right. Assumes nothing.
use Rattle.std.specs.Prelude.{◌≡◌}
use Rattle.std.proofs.Common.{inr}
use Rattle.rules.specs.declared.Refusal.TheVariants.{WrongIndex, WrongLineIndex}
use Rattle.rules.specs.NumbersHandedBack.{got}
use Rattle.rules.specs.SettingsAndUnitTable.{card_check}
use Rattle.rules.proofs.Laws.Outcomes.{passed_both}
use Rattle.index.specs.TheSortedIndex.{index_check, Indexed, indexed_check}
use Rattle.index.specs.Laws.Right.{Right}
use Rattle.index.proofs.Laws.Right.{index_accepts}
use Rattle.lookup.specs.Searching.{Beside}

module _ (c : Indexed) (good : indexed_check c ≡ got tt) where
  pub card_good : card_check c.card ≡ got tt
  unfolding indexed_check
  card_good = (passed_both (card_check c.card) _ good).0

  indexes_good :
      (index_check WrongIndex c.card.hall c.hall_index ≡ got tt) × (index_check WrongLineIndex c.card.line c.line_index ≡ got tt)
  unfolding indexed_check
  indexes_good = passed_both (index_check WrongIndex c.card.hall c.hall_index) _ (passed_both (card_check c.card) _ good).1

  pub hall_right : Right c.card.hall c.hall_index
  hall_right = (index_accepts WrongIndex c.card.hall c.hall_index).0 indexes_good.0

  pub line_right : Right c.card.line c.line_index
  line_right = (index_accepts WrongLineIndex c.card.line c.line_index).0 indexes_good.1

  pub both_beside : Beside c.card.hall c.hall_index × Beside c.card.line c.line_index
  both_beside = (inr hall_right, inr line_right)
