-- Which parts of a text its total comes to read; and the total is refused exactly with what one of them is. Assumes nothing.
use Rattle.std.specs.Prelude.{◌≡◌, false, List, ◌↔◌, ℕ, zero, suc, ◌+◌, ◌<◌, length}
use Rattle.std.proofs.Common.{sym, ◌∙◌, arith}
use Rattle.rules.specs.declared.Length.{Length}
use Rattle.rules.specs.declared.Reading.{Reading}
use Rattle.rules.specs.declared.Refusal.{Refusal}
use Rattle.rules.specs.declared.Refusal.TheVariants.{Nothing}
use Rattle.rules.specs.Common.{ends}
use Rattle.rules.specs.ThePartOfTheCrateWeTake.{zero_length}
use Rattle.rules.specs.NumbersHandedBack.{got, refused}
use Rattle.rules.specs.SettingsAndUnitTable.{Card}
use Rattle.rules.specs.Evaluation.{part_reading, sum, total}
use Rattle.rules.proofs.Laws.Choices.{if_else}
use Rattle.rules.proofs.Laws.Outcomes.{all_of, bind_got, bind_refused, Refused, not_refused, refused_by, refused_itself, the_cause, refused_map, refused_if, refused_bind}
use Rattle.rules.proofs.Laws.Totals.{reading_beyond, reading_ends, total_from, total_is, total_step}

-- the total comes to read a part at the place
pub data Reached (card : Card) (text : List ℕ) : ℕ → Type 0 where
  at_first : Reached card text 0
  behind : {place : ℕ} {r : Reading} → Reached card text place → part_reading card text place ≡ got r → ends text r.next ≡ false → Reached card text r.next

module _ (card : Card) (text : List ℕ) where
  -- a part that the total comes to read is refused so
  abbrev pub PartRefused : Refusal → Type 0
  PartRefused cause = (from : ℕ) × Reached card text from × (part_reading card text from ≡ refused cause)

  -- from a place on, of which at most k bytes and one are left
  from_told : (k : ℕ) (so_far : Length) (place : ℕ) → length text < place + k → Reached card text place → Refused PartRefused (total_from card text so_far place)
  from_told zero so_far place few h =
      let nothing : part_reading card text place ≡ refused (Nothing place) = reading_ends card text place (omega arith) in
      rw (total_step card text so_far place ∙ bind_refused _ nothing) (refused_by (place, h, nothing))
  from_told (suc k) so_far place few h =
      rw total_step
      (refused_bind (part_reading card text place) (refused_map (refused_itself (part_reading card text place)) (λ cause e. (place, h, e)))
      (λ r read.
      refused_if (λ _. not_refused)
      (λ on. from_told k (sum so_far r.length) r.next (omega (arith, all_of (reading_beyond card text place) read)) (behind h read on))))

  -- where the total comes to read a part, it is what it has summed up so far and the parts from there on
  goes_on : {from : ℕ} → Reached card text from → (so_far : Length) × (total card text ≡ total_from card text so_far from)
  goes_on at_first = (zero_length, total_is card text)
  goes_on (behind {place = place} {r = r} h read on) =
      let (so_far, same) = goes_on h in
      (sum so_far r.length, same ∙ total_step card text so_far place ∙ bind_got _ read ∙ if_else _ _ on)

  pub total_refused : (cause : Refusal) → (total card text ≡ refused cause) ↔ PartRefused cause
  total_refused cause = (there, back)
    where
      there : total card text ≡ refused cause → PartRefused cause
      there e = the_cause (from_told (suc (length text)) zero_length 0 (omega arith) at_first) (sym (total_is card text) ∙ e)

      back : PartRefused cause → total card text ≡ refused cause
      back (from, reached, e) = let (so_far, same) = goes_on reached in same ∙ total_step card text so_far from ∙ bind_refused _ e
