-- A run of digits is read at once. Assumes nothing.
use Rattle.std.specs.Prelude.{◌≡◌, refl, true, false, ℕ, suc, ◌+◌, length}
use Rattle.std.proofs.Common.{◌∙◌, add-zero, add-suc, suc-add}
use Rattle.std.proofs.lemmas.Bool.{false≢true}
use mathlib.Core.List.{List, [], ◌∷◌, ◌++◌, append-nil, append_assoc}
use Rattle.rules.specs.Common.{when◌then◌else◌, all}
use Rattle.rules.specs.SettingsAndUnitTable.{DIGIT, is}
use Rattle.rules.specs.NumbersHandedBack.{Outcome, got, refused, ◌>>=◌}
use Rattle.rules.proofs.Laws.Choices.{all_first, all_others}
use Rattle.iso.specs.IsoTimings.{Component, Stand, wanted, whole, mark, fraction, none, on, digit_step, step, read_from}

-- a byte that makes nothing adds nothing to what the rest makes
pub nothing_made : (m : Outcome (List Component)) → (m >>= λ cs. got ([] ++ cs)) ≡ m
unfolding ◌>>=◌
nothing_made (got cs) = refl
nothing_made (refused cause) = refl

-- a byte that makes nothing leaves the rest to be read from the next stand
pub goes_on : (s t : Stand) (place b : ℕ) (rest : List ℕ) → step s place b ≡ on t → read_from s place (b ∷ rest) ≡ read_from t (suc place) rest
unfolding read_from on ◌>>=◌
goes_on s t place b rest e = rw e (nothing_made (read_from t (suc place) rest))

-- a digit leads from one stand to another
abbrev pub DigitLeads : Stand → (ℕ → Stand) → Type 0
DigitLeads s next = (place b : ℕ) → is DIGIT b ≡ true → step s place b ≡ on (next b)

-- where a digit joins those read, digits do
module _ (after : List ℕ → Stand) (joins : (ds : List ℕ) → DigitLeads (after ds) (λ b. after (ds ++ (b ∷ [])))) where
  pub run : (ds xs rest : List ℕ) (place : ℕ) → all (is DIGIT) xs ≡ true → read_from (after ds) place (xs ++ rest) ≡ read_from (after (ds ++ xs)) (place + length xs) rest
  run ds [] rest place h = rw (append-nil, add-zero)
  run ds (x ∷ xs) rest place h =
      goes_on (after ds) (after (ds ++ (x ∷ []))) place x (xs ++ rest) (joins ds place x (all_first (is DIGIT) x xs h))
      ∙ (run (ds ++ (x ∷ [])) xs rest (suc place) (all_others (is DIGIT) x xs h) ∙ rw (append_assoc, suc-add, add-suc))

  -- and one or more digits where a digit is the first
  pub begun_run : (s : Stand) → DigitLeads s (λ b. after (b ∷ [])) → (xs rest : List ℕ) (place : ℕ) → none xs ≡ false → all (is DIGIT) xs ≡ true → read_from s place (xs ++ rest) ≡ read_from (after xs) (place + length xs) rest
  unfolding none
  begun_run s begins [] rest place p h = absurd (false≢true (cc))
  begun_run s begins (x ∷ xs) rest place p h =
      goes_on s (after (x ∷ [])) place x (xs ++ rest) (begins place x (all_first (is DIGIT) x xs h))
      ∙ (run (x ∷ []) xs rest (suc place) (all_others (is DIGIT) x xs h) ∙ rw (suc-add, add-suc))

-- where a digit begins a number that may come after kind k
abbrev pub Begins : ℕ → Stand → Type 0
Begins k s = DigitLeads s (λ b. whole k (b ∷ []))

-- where a number must come, its first digit begins it
pub digit_begins : (k place b : ℕ) → is DIGIT b ≡ true → digit_step k place b ≡ on (whole k (b ∷ []))
unfolding digit_step when◌then◌else◌
digit_begins k place b h = rw h

module _ (k : ℕ) where
  whole_joins : (ds : List ℕ) → DigitLeads (whole k ds) (λ b. whole k (ds ++ (b ∷ [])))
  unfolding step when◌then◌else◌
  whole_joins ds place b h = rw h

  -- digits after the digits of a number
  pub whole_run : (ds xs rest : List ℕ) (place : ℕ) → all (is DIGIT) xs ≡ true → read_from (whole k ds) place (xs ++ rest) ≡ read_from (whole k (ds ++ xs)) (place + length xs) rest
  whole_run = run (whole k) whole_joins

  fraction_joins : (ds fs : List ℕ) → DigitLeads (fraction k ds fs) (λ b. fraction k ds (fs ++ (b ∷ [])))
  unfolding step when◌then◌else◌
  fraction_joins ds fs place b h = rw h

  -- digits after a mark and digits
  pub fraction_run : (ds fs xs rest : List ℕ) (place : ℕ) → all (is DIGIT) xs ≡ true → read_from (fraction k ds fs) place (xs ++ rest) ≡ read_from (fraction k ds (fs ++ xs)) (place + length xs) rest
  fraction_run ds = run (fraction k ds) (fraction_joins ds)

  -- digits where they begin a number
  pub number_run : (s : Stand) → Begins k s → (xs rest : List ℕ) (place : ℕ) → none xs ≡ false → all (is DIGIT) xs ≡ true → read_from s place (xs ++ rest) ≡ read_from (whole k xs) (place + length xs) rest
  number_run = begun_run (whole k) whole_joins

  pub wanted_run : (xs rest : List ℕ) (place : ℕ) → none xs ≡ false → all (is DIGIT) xs ≡ true → read_from (wanted k) place (xs ++ rest) ≡ read_from (whole k xs) (place + length xs) rest
  unfolding step
  wanted_run = number_run (wanted k) (digit_begins k)

  mark_begins : (ds : List ℕ) (m : ℕ) → DigitLeads (mark k ds m) (λ b. fraction k ds (m ∷ b ∷ []))
  unfolding step when◌then◌else◌
  mark_begins ds m place b h = rw h

  -- digits after a mark
  pub mark_run : (ds : List ℕ) (m : ℕ) (xs rest : List ℕ) (place : ℕ) → none xs ≡ false → all (is DIGIT) xs ≡ true → read_from (mark k ds m) place (xs ++ rest) ≡ read_from (fraction k ds (m ∷ xs)) (place + length xs) rest
  mark_run ds m = begun_run (λ xs. fraction k ds (m ∷ xs)) (λ xs. fraction_joins ds (m ∷ xs)) (mark k ds m) (mark_begins ds m)
