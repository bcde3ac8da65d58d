-- What an entry hands back by another table of numbers and positions than that of now, as it was before a request; and where folding the answers of
-- refusals gives that table's, folding an entry's answer does. Assumes nothing.
use Rattle.std.specs.Prelude.{◌≡◌, refl, List, ℕ, length}
use Rattle.rules.specs.declared.Answer.{Answer}
use Rattle.rules.specs.declared.Length.{Length}
use Rattle.rules.specs.declared.Refusal.{Refusal}
use Rattle.rules.specs.NumbersHandedBack.{Outcome, got, refused, done, refusal, answered}
use Rattle.rules.specs.SettingsAndUnitTable.{Card}
use Rattle.rules.specs.WriterAndShiftTotal.{writing}
use Rattle.rules.specs.WhatEveryEntryOwes.{read_part, part_answer, read_total, total_answer, write_answer, add_total, shift_answer}
use Rattle.handed_back.specs.RefusedWith.{refused_at}

-- the number and the position of each refusal
pub record Table : Type 0 where
  pub number : Refusal → ℕ
  pub position : Refusal → ℕ

abbrev pub refusal_by : Table → Refusal → Answer
refusal_by table cause = refused_at (table.number cause) (table.position cause)

unfoldable pub answered_by : {A : Type 0} → Table → (A → Answer) → Outcome A → Answer
answered_by table show (got a) = show a
answered_by table show (refused cause) = refusal_by table cause

-- ---- the entries of document 01

unfoldable pub part_by : Table → Card → List ℕ → ℕ → Answer
part_by table card text place = answered_by table (λ r. done r.next r.length) (read_part card text place)

unfoldable pub total_by : Table → Card → List ℕ → Answer
total_by table card text = answered_by table (done (length text)) (read_total card text)

unfoldable pub write_by : Table → Length → List ℕ → ℕ → Answer
write_by table l buffer place = answered_by table (λ r. done r.next r.length) (writing l buffer place)

unfoldable pub shift_by : Table → Length → Card → List ℕ → Answer
shift_by table so_far card text = answered_by table (done (length text)) (add_total so_far card text)

-- ---- answers folded back to a table

module _ (table : Table) (fold : Answer → Answer) where
  -- of refusals it gives the table's answers, and what is read or written it leaves alone
  pub record Folds : Type 0 where
    pub refusals : (cause : Refusal) → fold (refusal cause) ≡ refusal_by table cause
    pub others : (a : Answer) → a.number ≡ 0 → fold a ≡ a

  module _ (folds : Folds) where
    -- whatever is handed back
    pub folded : {A : Type 0} (show : A → Answer) (m : Outcome A) → ((a : A) → (show a).number ≡ 0) → fold (answered show m) ≡ answered_by table show m
    unfolding answered answered_by
    folded show (got a) read = folds.others (show a) (read a)
    folded show (refused cause) read = folds.refusals cause

    pub part_folded : (card : Card) (text : List ℕ) (place : ℕ) → fold (part_answer card text place) ≡ part_by table card text place
    unfolding part_answer part_by done
    part_folded card text place = folded _ (read_part card text place) (λ r. refl)

    pub total_folded : (card : Card) (text : List ℕ) → fold (total_answer card text) ≡ total_by table card text
    unfolding total_answer total_by done
    total_folded card text = folded _ (read_total card text) (λ l. refl)

    pub write_folded : (l : Length) (buffer : List ℕ) (place : ℕ) → fold (write_answer l buffer place) ≡ write_by table l buffer place
    unfolding write_answer write_by done
    write_folded l buffer place = folded _ (writing l buffer place) (λ r. refl)

    pub shift_folded : (so_far : Length) (card : Card) (text : List ℕ) → fold (shift_answer so_far card text) ≡ shift_by table so_far card text
    unfolding shift_answer shift_by done
    shift_folded so_far card text = folded _ (add_total so_far card text) (λ l. refl)
