-- A total goes by its parts: one that is refused, the last, and one with others after it. Assumes nothing.
use Rattle.std.specs.Prelude.{◌≡◌, List, ℕ, ◌≤◌, ◌<◌, length}
use Rattle.std.proofs.Math.Path.{sym}
use Rattle.std.proofs.Common.{◌∙◌, le-leb}
use Rattle.std.proofs.lemmas.Bool.{lt-leb}
use Rattle.rules.specs.declared.Length.{Length}
use Rattle.rules.specs.declared.Reading.{Reading}
use Rattle.rules.specs.declared.Refusal.{Refusal}
use Rattle.rules.specs.Common.{when◌then◌else◌, ends}
use Rattle.rules.specs.NumbersHandedBack.{got, refused}
use Rattle.rules.specs.SettingsAndUnitTable.{Card}
use Rattle.rules.specs.Evaluation.{part_reading, sum}
use Rattle.rules.proofs.Laws.Outcomes.{bind_got, bind_refused}
use Rattle.rules.proofs.Laws.Totals.{total_from, total_step}

module _ (card : Card) (text : List ℕ) (so_far : Length) (place : ℕ) where
  pub total_refuses : {cause : Refusal} → part_reading card text place ≡ refused cause → refused cause ≡ total_from card text so_far place
  total_refuses e = sym (total_step card text so_far place ∙ bind_refused _ e)

  module _ {r : Reading} (e : part_reading card text place ≡ got r) {added : Length} (a : added ≡ sum so_far r.length) where
    pub total_ends : length text ≤ r.next → got added ≡ total_from card text so_far place
    unfolding ends when◌then◌else◌
    total_ends h = sym (total_step card text so_far place ∙ bind_got _ e ∙ rw (le-leb (length text) r.next h, a))

    pub total_goes_on : r.next < length text → total_from card text added r.next ≡ total_from card text so_far place
    unfolding ends when◌then◌else◌
    total_goes_on h = sym (total_step card text so_far place ∙ bind_got _ e ∙ rw (lt-leb (length text) r.next h, a))
