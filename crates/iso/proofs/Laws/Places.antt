-- Where a text is refused, in the words of what is right. Assumes nothing.
use Rattle.std.specs.Prelude.{◌≡◌, ◌⊎◌, ◌↔◌, true, List, ◌++◌, ℕ, suc, ◌<◌, length, take}
use Rattle.std.proofs.Common.{sym, ap, ◌∙◌, ⊎_elim}
use Rattle.rules.specs.declared.Refusal.{Refusal}
use Rattle.rules.specs.declared.Refusal.TheVariants.{NotIso, YearOrMonth}
use Rattle.rules.specs.NumbersHandedBack.{refused}
use Rattle.iso.specs.IsoTimings.{Component, right, spelling, components}
use Rattle.iso.proofs.Laws.Complete.{complete}
use Rattle.iso.proofs.Laws.Sound.{sound}
use Rattle.iso.proofs.Laws.Begins.{Reads, Begins}
use Rattle.iso.proofs.Laws.Refused.{At, AtYearOrMonth, refused_begins, refused_barred, refused_unread, refused_there, refused_at_end, year_or_month_from, year_or_month_to}

-- a right text, of any length
abbrev pub Right : List ℕ → Type 0
Right text = (cs : List Component) × (right cs ≡ true) × (spelling cs ≡ text)

-- the bytes begin a right text
abbrev pub BeginsRight : List ℕ → Type 0
BeginsRight bytes = (cs : List Component) × (rest : List ℕ) × (right cs ≡ true) × (spelling cs ≡ bytes ++ rest)

-- two meanings of beginning that say the same
same_beginning : {Begun Other : List ℕ → Type 0} → ((bytes : List ℕ) → Begun bytes → Other bytes) → ((bytes : List ℕ) → Other bytes → Begun bytes) → (text : List ℕ) (place : ℕ) → AtYearOrMonth Begun text place → AtYearOrMonth Other text place
same_beginning to from text place m =
    record {
      within = m.within;
      begun = to (take place text) m.begun;
      barred = λ r. m.barred (from (take (suc place) text) r);
      year_or_month = m.year_or_month;
      later = m.later;
      after_number = m.after_number;
      before_clock = m.before_clock;
    }

-- ---- what is read is what is right

reads_right : (text : List ℕ) → Reads text → Right text
reads_right text r =
    let s = sound text r.0 r.1 in
    (r.0, s.0, s.1)

right_reads : (text : List ℕ) → Right text → Reads text
right_reads text r = (r.0, ap components (sym r.2) ∙ complete r.0 r.1)

begins_right : (bytes : List ℕ) → Begins bytes → BeginsRight bytes
begins_right bytes r =
    let s = reads_right (bytes ++ r.0) r.1 in
    (s.0, r.0, s.1, s.2)

right_begins : (bytes : List ℕ) → BeginsRight bytes → Begins bytes
right_begins bytes r = (r.1, right_reads (bytes ++ r.1) (r.0, r.2, r.3))

-- ---- the place of a refusal

module _ (text : List ℕ) {cause : Refusal} (place : ℕ) (at : At cause place) (e : components text ≡ refused cause) where
  -- the bytes before the place begin a right text
  pub place_begins : BeginsRight (take place text)
  place_begins = begins_right (take place text) (refused_begins text place at e)

  -- with the byte there they begin none
  pub place_barred : place < length text → BeginsRight (take (suc place) text) → ⊥
  place_barred h r = refused_barred text place at e h (right_begins (take (suc place) text) r)

  -- and the text is not right
  pub place_not_right : Right text → ⊥
  place_not_right r = refused_unread text place at e (right_reads text r)

-- ---- and there is no other

pub only_place : (text : List ℕ) (place : ℕ) → place < length text → BeginsRight (take place text) → (BeginsRight (take (suc place) text) → ⊥) → (components text ≡ refused (NotIso place)) ⊎ (components text ≡ refused (YearOrMonth place))
only_place text place h begun barred = refused_there text place h (right_begins (take place text) begun) (λ r. barred (begins_right (take (suc place) text) r))

-- a text that only begins a right one is refused at its end
pub place_at_end : (text : List ℕ) → BeginsRight text → (Right text → ⊥) → components text ≡ refused (NotIso (length text))
place_at_end text begun wrong = refused_at_end text (right_begins text begun) (λ r. wrong (reads_right text r))

-- ---- a year or a month

pub year_or_month_place : (text : List ℕ) (place : ℕ) → (components text ≡ refused (YearOrMonth place)) ↔ AtYearOrMonth BeginsRight text place
year_or_month_place text place = (
  λ e. same_beginning begins_right right_begins text place (year_or_month_from text place e),
  λ m. year_or_month_to text place (same_beginning right_begins begins_right text place m),
)

-- and no other text that stops there is refused as that
pub not_iso_place : (text : List ℕ) (place : ℕ) → place < length text → BeginsRight (take place text) → (BeginsRight (take (suc place) text) → ⊥) → (AtYearOrMonth BeginsRight text place → ⊥) → components text ≡ refused (NotIso place)
not_iso_place text place h begun barred other =
    ⊎_elim (λ e. e) (λ e. absurd (other ((year_or_month_place text place).0 e))) (only_place text place h begun barred)
