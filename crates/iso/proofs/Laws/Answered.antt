-- What is handed back of a text, in the words of the request: one of five answers, each with what it says of the text, and no two of them.
-- Assumes nothing.
use Rattle.std.specs.Prelude.{◌≡◌, Bool, true, false, List, ℕ, suc, ◌≤◌, ◌<◌, ltb, length, take}
use Rattle.std.proofs.Math.Path.{refl, ap}
use Rattle.std.proofs.Common.{sym, ◌∙◌, inl, inr, arith, ltb-true, ltb-false}
use Rattle.std.proofs.Math.Logic.{⊎_elim}
use Rattle.std.proofs.Math.Seq.{take-length}
use Rattle.rules.specs.declared.Length.{Length}
use Rattle.rules.specs.declared.Answer.{Answer}
use Rattle.rules.specs.declared.Refusal.{Refusal}
use Rattle.rules.specs.declared.Refusal.TheVariants.{TextTooLong, NotIso, YearOrMonth, TooLarge}
use Rattle.rules.specs.ThePartOfTheCrateWeTake.{longest_text}
use Rattle.rules.specs.NumbersHandedBack.{Outcome, got, refused, done, refusal, answered}
use Rattle.iso.specs.IsoTimings.{components, read_iso, iso_answer}
use Rattle.iso.proofs.Laws.Refused.{At, AtYearOrMonth, other_cause, causes_apart, refused_place, too_long as refused_long, iso_refused, iso_refused_at}
use Rattle.iso.proofs.Laws.Right.{Spells, SpellsMore, reads_exactly, too_large_exactly}
use Rattle.iso.proofs.Laws.Places.{Right, BeginsRight, place_begins, place_barred, place_not_right, place_at_end, year_or_month_place, not_iso_place}

-- the text is not too long; the bytes before the place begin a right text, with the byte there they begin none, and the text is not right
-- itself
pub record Stopped (text : List ℕ) (place : ℕ) : Type 0 where
  pub short : length text ≤ longest_text
  pub within : place ≤ length text
  pub begins : BeginsRight (take place text)
  pub barred : place < length text → BeginsRight (take (suc place) text) → ⊥
  pub wrong : Right text → ⊥

pub data Answered (text : List ℕ) : Answer → Type 0 where
  -- 8 at 4096
  too_long : longest_text < length text → Answered text (refusal TextTooLong)
  -- 12 at the place
  not_iso : (place : ℕ) → Stopped text place → (AtYearOrMonth BeginsRight text place → ⊥) → Answered text (refusal (NotIso place))
  -- 13 at the place
  year_or_month : (place : ℕ) → Stopped text place → AtYearOrMonth BeginsRight text place → Answered text (refusal (YearOrMonth place))
  -- 14 at 0
  too_large : SpellsMore text → Answered text (refusal TooLarge)
  -- 0, the text's length, and the length that it spells
  read : (l : Length) → Spells text l → Answered text (done (length text) l)

module _ (text : List ℕ) where
  stopped : {cause : Refusal} (place : ℕ) → At cause place → place ≤ length text → length text ≤ longest_text → components text ≡ refused cause → Stopped text place
  stopped place at within short e = record {
    short = short;
    within = within;
    begins = place_begins text place at e;
    barred = place_barred text place at e;
    wrong = place_not_right text place at e;
  }

  at_place : (cause : Refusal) → length text ≤ longest_text → components text ≡ refused cause → Answered text (refusal cause)
  at_place cause short e =
      let (place, at, within) = refused_place text cause e in
      let here : Stopped text place = stopped place at within short e in
      ⊎_elim
      (λ f. rw f (not_iso place here (λ m. causes_apart (sym f ∙ other_cause e ((year_or_month_place text place).1 m)))))
      (λ f. rw f (year_or_month place here ((year_or_month_place text place).0 (e ∙ ap refused f))))
      at

  pub answer : Answered text (iso_answer text)
  unfolding iso_answer answered
  answer = go (read_iso text) refl
    where
      go : (o : Outcome Length) → read_iso text ≡ o → Answered text (answered (done (length text)) o)
      go (got l) e = read l ((reads_exactly text l).0 e)
      go (refused cause) e =
          ⊎_elim (λ h. rw h.1 (too_long h.0))
          (λ h. ⊎_elim (at_place cause h.0) (λ g. rw g.1 (too_large ((too_large_exactly text).0 (e ∙ ap refused g.1)))) h.1) (iso_refused text cause e)

  -- ---- and there is no other

  stopped_place : (place : ℕ) → Stopped text place → (AtYearOrMonth BeginsRight text place → ⊥) → components text ≡ refused (NotIso place)
  stopped_place place s other = go (ltb place (length text)) refl
    where
      go : (c : Bool) → ltb place (length text) ≡ c → components text ≡ refused (NotIso place)
      go true t = let h : place < length text = ltb-true place (length text) t in not_iso_place text place h s.begins (s.barred h) other
      go false t =
          let here : place ≡ length text = omega (arith, ltb-false place (length text) t, s.within) in
          rw here (place_at_end text (rw (here, take-length) at s.begins) s.wrong)

  pub only_answer : {a : Answer} → Answered text a → a ≡ iso_answer text
  unfolding iso_answer answered
  only_answer (too_long h) = rw (refused_long text h)
  only_answer (not_iso place s other) = rw ((iso_refused_at text place (inl refl)).1 (s.short, stopped_place place s other))
  only_answer (year_or_month place s m) = rw ((iso_refused_at text place (inr refl)).1 (s.short, (year_or_month_place text place).1 m))
  only_answer (too_large m) = rw ((too_large_exactly text).1 m)
  only_answer (read l m) = rw ((reads_exactly text l).1 m)

  -- so the five exclude each other, and so do the places and lengths of one
  pub one_answer : {a b : Answer} → Answered text a → Answered text b → a ≡ b
  one_answer p q = only_answer p ∙ sym (only_answer q)
