-- Laws of the shift total: what adding comes to, in the order of its refusals, and what is then handed back and held. Assumes nothing.
use Rattle.std.specs.Prelude.{◌≡◌, refl, true, false, List, ℕ, ◌≤◌, ◌<◌, leb, length}
use borrow.Author.Tests.{le-leb, lt-leb}
use Rattle.rules.specs.declared.Length.{Length}
use Rattle.rules.specs.declared.Refusal.{Refusal}
use Rattle.rules.specs.declared.Refusal.TheVariants.{TextTooLong, Malformed}
use Rattle.rules.specs.ThePartOfTheCrateWeTake.{longest_text, well_formed}
use Rattle.rules.specs.NumbersHandedBack.{Outcome, got, refused, ◌>>=◌, ◌>>◌, unless, done, refusal, answered}
use Rattle.rules.proofs.Laws.Outcomes.{All, all_refused}
use Rattle.rules.proofs.Laws.Totals.{total_well_formed}
use Rattle.rules.specs.SettingsAndUnitTable.{Card, card_check}
use Rattle.rules.specs.Evaluation.{sum, total}
use Rattle.rules.specs.WriterAndShiftTotal.{shifting, record_after}
use Rattle.rules.specs.WhatEveryEntryOwes.{read_total, add_total, shift_answer, shifted_record}

all_then : {A : Type 0} {P : A → Type 0} (first : Outcome (Unit {0})) {m : Outcome A} → All P m → All P (first >> m)
unfolding ◌>>◌
all_then (got passed) h = h
all_then (refused cause) h = all_refused

-- a total that is read is well formed
pub read_well_formed : (card : Card) (text : List ℕ) → All (λ l. well_formed l ≡ true) (read_total card text)
unfolding read_total
read_well_formed card text = all_then (card_check card) (all_then (unless TextTooLong (leb (length text) longest_text)) (total_well_formed card text))

module _ (so_far : Length) (card : Card) (text : List ℕ) where
  -- ---- what adding comes to

  pub card_refuses : {cause : Refusal} → card_check card ≡ refused cause → add_total so_far card text ≡ refused cause
  unfolding add_total ◌>>◌
  card_refuses e = rw e

  module _ (good : card_check card ≡ got tt) where
    pub malformed_refused : well_formed so_far ≡ false → refused Malformed ≡ add_total so_far card text
    unfolding add_total unless ◌>>◌
    malformed_refused e = rw (good, e)

    module _ (proper : well_formed so_far ≡ true) where
      pub long_refused : longest_text < length text → add_total so_far card text ≡ refused TextTooLong
      unfolding add_total unless ◌>>◌
      long_refused h = rw (good, proper, lt-leb (length text) longest_text h)

      module _ (short : length text ≤ longest_text) where
        pub total_refused : {cause : Refusal} → total card text ≡ refused cause → add_total so_far card text ≡ refused cause
        unfolding add_total shifting unless ◌>>◌ ◌>>=◌
        total_refused e = rw (good, proper, le-leb (length text) longest_text short, e)

        pub total_added : {l : Length} → total card text ≡ got l → add_total so_far card text ≡ got (sum so_far l)
        unfolding add_total shifting unless ◌>>◌ ◌>>=◌
        total_added e = rw (good, proper, le-leb (length text) longest_text short, e)

    -- a text that is too long is refused as where its total is read
    pub total_shifted : well_formed so_far ≡ true → add_total so_far card text ≡ (read_total card text >>= λ l. got (sum so_far l))
    unfolding add_total read_total shifting unless ◌>>=◌ ◌>>◌
    total_shifted proper = rw (good, proper) (go (unless TextTooLong (leb (length text) longest_text)))
      where
        go : (long : Outcome (Unit {0})) → (long >> shifting so_far (total card text)) ≡ ((long >> total card text) >>= λ l. got (sum so_far l))
        go (got done) = refl
        go (refused cause) = refl

  -- ---- what is handed back, and what the record then holds

  pub kept : {cause : Refusal} → add_total so_far card text ≡ refused cause → (refusal cause ≡ shift_answer so_far card text) × (so_far ≡ shifted_record so_far card text)
  unfolding shift_answer shifted_record answered record_after
  kept e = rw e (refl, refl)

  pub added : {l : Length} → add_total so_far card text ≡ got l → (done (length text) l ≡ shift_answer so_far card text) × (l ≡ shifted_record so_far card text)
  unfolding shift_answer shifted_record answered record_after
  added e = rw e (refl, refl)
