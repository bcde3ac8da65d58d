-- What the check of an index found, said of the hall's index or of the line's. Assumes nothing.
use Rattle.std.specs.Prelude.{◌≡◌, Bool, true, false, List, ℕ, ◌+◌, ◌≤◌, ◌<◌, length, Result, ⊤}
use Rattle.std.proofs.Common.{refl, sym, ap, ◌∙◌, add-one, arith, eq-eqb, ne_eqb}
use Rattle.std.proofs.lemmas.Bool.{false≢true}
use Rattle.std.specs.Result.{MatchResult, IsErrAnd, is_ok}
use Rattle.rules.specs.declared.Refusal.{Refusal}
use Rattle.rules.specs.NumbersHandedBack.{Outcome, got, refused, ◌>>◌, unless}
use Rattle.rules.specs.SettingsAndUnitTable.{rows, rows_check}
use Rattle.card.specs.declared.table.TableFault.{TableFault}
use Rattle.card.specs.declared.table.TableFault.TheVariants.{WrongSize, BadRow}
use Rattle.card.specs.Fields.{said}
use Rattle.card.specs.Laws.Table.{first_bad, check_bad, check_good}
use Rattle.index.specs.TheSortedIndex.{count, passes, entry_right, index_check}
use Rattle.index.proofs.Laws.Counts.{count_passed, count_failed}

abbrev pub told : (ℕ → Refusal) → Result ⊤ ℕ → Outcome (Unit {0})
told wrong (got found) = got found
told wrong (refused k) = refused (wrong k)

-- an entry made a refusal
pub told_by :
    (wrong : ℕ → Refusal) (found : Result ⊤ ℕ) {r : Outcome (Unit {0})} → MatchResult found (λ x. r ≡ got x) (λ k. IsErrAnd r (λ cause. cause ≡ wrong k))
    → r ≡ told wrong found
told_by wrong (got x) e = e
told_by wrong (refused k) {r = got x} e = absurd e
told_by wrong (refused k) {r = refused cause} e = ap refused e

module _ (wrong : ℕ → Refusal) (table index : List ℕ) where
  pub wrong_length : (length index ≡ rows table → ⊥) → refused (wrong (rows table)) ≡ index_check wrong table index
  unfolding index_check unless ◌>>◌
  wrong_length h = rw (ne_eqb _ _ h)

  module _ (long : length index ≡ rows table) {first : ℕ} (found : first ≡ first_bad (entry_right table index) 0 (rows table)) where
    sized : index_check wrong table index ≡ rows_check (entry_right table index) wrong 0 (rows table)
    unfolding index_check unless ◌>>◌
    sized = rw (eq-eqb _ _ long)

    pub wrong_entry : first < rows table → refused (wrong first) ≡ index_check wrong table index
    wrong_entry h = ap (λ k. refused (wrong k)) found ∙ sym (sized ∙ check_bad _ wrong (rows table) (rw (← found) h))

    pub no_wrong_entry : rows table ≤ first → got tt ≡ index_check wrong table index
    no_wrong_entry h = sym (sized ∙ check_good _ wrong (rows table) (rw (← found) h))

-- whether a table was found to be without a fault
pub passes_found : (size : Refusal) (bad : ℕ → Refusal) (found : Result ⊤ TableFault) → passes (said size bad found) ≡ is_ok found
unfolding passes
passes_found size bad (got x) = refl
passes_found size bad (refused WrongSize) = refl
passes_found size bad (refused (BadRow i)) = refl

pub no_fault : (size : Refusal) (bad : ℕ → Refusal) (found : Result ⊤ TableFault) → is_ok found ≡ true → got tt ≡ said size bad found
no_fault size bad (got x) e = refl
no_fault size bad (refused fault) e = absurd (false≢true e)

pub accepted : {m : Outcome (Unit {0})} → is_ok m ≡ true → m ≡ got tt
accepted {m = got x} e = refl
accepted {m = refused cause} e = absurd (false≢true e)

-- one number more, passed or not
pub count_next : (test : ℕ → Bool) (n : ℕ) {found : ℕ} → found ≡ count test n → test n ≡ true → found + 1 ≡ count test (n + 1)
count_next test n e passes = omega (arith, e, count_passed test n passes, ap (count test) (add-one n))

pub count_same : (test : ℕ → Bool) (n : ℕ) {found : ℕ} → found ≡ count test n → test n ≡ false → found ≡ count test (n + 1)
count_same test n e fails = omega (arith, e, count_failed test n fails, ap (count test) (add-one n))
