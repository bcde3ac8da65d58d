-- A length is read of exactly the texts that spell it. Assumes nothing.
use Rattle.std.specs.Prelude.{◌≡◌, refl, Bool, true, false, List, ◌↔◌, ℕ, ◌*◌, ◌≤◌, ◌<◌, leb, ltb, length}
use Rattle.std.proofs.Common.{sym, ◌∙◌, ap, ⊎_elim, arith, leb-true, le-leb, ltb-true, ltb-false, lt-ltb, le-ltb}
use Rattle.rules.specs.declared.Length.{Length}
use Rattle.rules.specs.declared.Refusal.{Refusal}
use Rattle.rules.specs.declared.Refusal.TheVariants.{TextTooLong, TooLarge}
use Rattle.rules.specs.Common.{when◌then◌else◌}
use Rattle.rules.specs.ThePartOfTheCrateWeTake.{longest_text, nanoseconds_per_second, seconds_limit}
use Rattle.rules.specs.NumbersHandedBack.{Outcome, got, refused, ◌>>=◌, ◌>>◌, unless}
use Rattle.rules.specs.Evaluation.{length_of}
use Rattle.rules.proofs.Laws.Choices.{if_either}
use Rattle.iso.specs.IsoTimings.{Component, right, spelling, components, nanoseconds_of, held, read_iso}
use Rattle.iso.proofs.Laws.Sound.{never}
use Rattle.iso.proofs.Laws.Refused.{refused_place}
pub use Rattle.iso.proofs.Laws.Complete.{complete, spelling_one}
pub use Rattle.iso.proofs.Laws.Sound.{sound}

-- a text that is not too long, and the right components that it spells
pub record Spelt (text : List ℕ) : Type 0 where
  pub parts : List Component
  pub rightly : right parts ≡ true
  pub spells : spelling parts ≡ text
  pub short : length text ≤ longest_text

-- what is read of it
pub spelt_read : (text : List ℕ) (t : Spelt text) → read_iso text ≡ held (nanoseconds_of t.parts)
unfolding read_iso unless ◌>>◌ ◌>>=◌
spelt_read text t =
    let c : components text ≡ got t.parts = ap components (sym t.spells) ∙ complete t.parts t.rightly in
    rw (le-leb (length text) longest_text t.short, c)

-- one that spells no right components is not too large
not_large : (text : List ℕ) (cause : Refusal) → components text ≡ refused cause → cause ≡ TooLarge → ⊥
not_large text cause e h =
    ⊎_elim (λ f. let z : ◌≡◌ {A = ℕ} 0 1 = cc in omega arith) (λ f. let z : ◌≡◌ {A = ℕ} 0 1 = cc in omega arith) (refused_place text cause e).1

-- a text is spelt, and then its components say what is read; or it is refused, and not as too large
data Reads (text : List ℕ) : Outcome Length → Type 0 where
  of_spelt : (t : Spelt text) → Reads text (held (nanoseconds_of t.parts))
  of_no : (cause : Refusal) → (cause ≡ TooLarge → ⊥) → Reads text (refused cause)

reads : (text : List ℕ) → Reads text (read_iso text)
unfolding read_iso unless ◌>>◌ ◌>>=◌ components
reads text = go (leb (length text) longest_text) (components text) refl refl
  where
    go : (t : Bool) (o : Outcome (List Component)) → leb (length text) longest_text ≡ t → components text ≡ o → Reads text (unless TextTooLong t >> o >>= λ cs. held (nanoseconds_of cs))
    go true (got cs) l e =
        let s = sound text cs e in
        of_spelt (record { parts = cs; rightly = s.0; spells = s.1; short = leb-true (length text) longest_text l })
    go true (refused cause) l e = of_no cause (not_large text cause e)
    go false o l e = of_no TextTooLong (λ h. let z : ◌≡◌ {A = ℕ} 0 1 = cc in omega arith)

-- a text spells this length
abbrev pub Spells : List ℕ → Length → Type 0
Spells text l =
    (t : Spelt text) × (nanoseconds_of t.parts < seconds_limit * nanoseconds_per_second) × (l ≡ length_of false (nanoseconds_of t.parts))

-- a text spells more than the largest length
abbrev pub SpellsMore : List ℕ → Type 0
SpellsMore text = (t : Spelt text) × (seconds_limit * nanoseconds_per_second ≤ nanoseconds_of t.parts)

-- a length is read of exactly the texts that spell it
pub reads_exactly : (text : List ℕ) (l : Length) → (read_iso text ≡ got l) ↔ Spells text l
unfolding held when◌then◌else◌
reads_exactly text l = (
  read (reads text),
  λ s.
      spelt_read text s.0 ∙ rw (lt-ltb (nanoseconds_of s.0.parts) (seconds_limit * nanoseconds_per_second) s.1, s.2),
)
  where
    read : {o : Outcome Length} → Reads text o → o ≡ got l → Spells text l
    read (of_spelt t) h =
        let n = nanoseconds_of t.parts in
        if_either (λ o. o ≡ got l → Spells text l) (ltb n (seconds_limit * nanoseconds_per_second))
        (λ b h. (t, ltb-true n (seconds_limit * nanoseconds_per_second) b, cc)) (λ _ h. never h) h
    read (of_no cause n) h = never h

-- those that spell more are too large, and no others
pub too_large_exactly : (text : List ℕ) → (read_iso text ≡ refused TooLarge) ↔ SpellsMore text
unfolding held when◌then◌else◌
too_large_exactly text = (
  read (reads text),
  λ s.
      spelt_read text s.0 ∙ rw (le-ltb (nanoseconds_of s.0.parts) (seconds_limit * nanoseconds_per_second) s.1),
)
  where
    read : {o : Outcome Length} → Reads text o → o ≡ refused TooLarge → SpellsMore text
    read (of_spelt t) h =
        let n = nanoseconds_of t.parts in
        if_either (λ o. o ≡ refused TooLarge → SpellsMore text) (ltb n (seconds_limit * nanoseconds_per_second))
        (λ _ h. never (sym h)) (λ b _. (t, ltb-false n (seconds_limit * nanoseconds_per_second) b)) h
    read (of_no cause n) h = absurd (n (cc))
