-- A run of delimiters, from where it ends. Assumes nothing.
use Rattle.std.specs.Prelude.{◌≡◌, refl, Bool, true, false, List, ℕ, ◌+◌, ◌≤◌, ◌<◌, length}
use Rattle.std.proofs.Common.{sym, ◌∙◌, arith}
use Rattle.std.specs.Bool.{beq}
use borrow.Author.Tests.{le-leb, lt-leb}
use Rattle.rules.specs.declared.ByteSet.{ByteSet}
use Rattle.rules.specs.declared.Settings.{Settings}
use Rattle.rules.specs.declared.Refusal.TheVariants.{DelimiterEnds}
use Rattle.rules.specs.Common.{when◌then◌else◌, ends, sees, run}
use Rattle.rules.specs.NumbersHandedBack.{got, refused}
use Rattle.rules.specs.SettingsAndUnitTable.{holds}
use Rattle.rules.specs.ReadingOnePart.{delimiters, gap}
use Rattle.rules.proofs.Laws.Outcomes.{all_got, all_refused, all_if, all_of}
use Rattle.rules.proofs.Laws.Tests.{and_false}
use Rattle.rules.proofs.Laws.Texts.{sees_in, run_more, run_past, run_stop, run_within}
use Rattle.value.specs.Digits.{run_same}
use Rattle.settings.specs.Sets.{passes}

-- a byte passes at the place exactly if the run from there goes on
pub sees_run : (test : ℕ → Bool) (text : List ℕ) (place : ℕ) → place < run test text place → sees test text place ≡ true
sees_run test text place h = go (sees test text place) refl
  where
    go : (b : Bool) → sees test text place ≡ b → b ≡ true
    go true e = refl
    go false e = absurd (omega (arith, run_stop test text place e))

pub sees_none : (test : ℕ → Bool) (text : List ℕ) (place : ℕ) → run test text place ≤ place → sees test text place ≡ false
sees_none test text place h = go (sees test text place) refl
  where
    go : (b : Bool) → sees test text place ≡ b → b ≡ false
    go true e = absurd (omega (arith, run_past test text place e))
    go false e = refl

held : (b : Bool) → beq b true ≡ b
held true = refl
held false = refl

pub run_held : (set : ByteSet) (text : List ℕ) (place : ℕ) → run (passes set true) text place ≡ run (holds set) text place
unfolding passes
run_held set text place = run_same _ _ (λ b. held (holds set b)) text place

module _ (set : ByteSet) (text : List ℕ) (place : ℕ) where
  -- a run that begins at the place and reaches the end, and one that does not
  module _ (here : sees (holds set) text place ≡ true) {end : ℕ} (at : end ≡ run (passes set true) text (place + 1)) where
    there : end ≡ run (holds set) text place
    there = at ∙ run_held set text (place + 1) ∙ sym (run_more (holds set) text place here)

    pub delimiters_end : length text ≤ end → refused (DelimiterEnds place) ≡ delimiters set text place
    unfolding delimiters ends when◌then◌else◌
    delimiters_end k = rw (← there, here, le-leb (length text) end k)

    pub delimiters_past : end < length text → got end ≡ delimiters set text place
    unfolding delimiters ends when◌then◌else◌
    delimiters_past k = rw (← there, lt-leb (length text) end k, and_false)

  -- and none
  pub delimiters_none : sees (holds set) text place ≡ false → got place ≡ delimiters set text place
  unfolding delimiters when◌then◌else◌
  delimiters_none e = rw (run_stop (holds set) text place e, e)

-- a run that is got ends within the text
pub delimiters_within :
    (set : ByteSet) (text : List ℕ) (place : ℕ)
    → sees (holds set) text place ≡ true
    → {word : ℕ}
    → delimiters set text place ≡ got word
    → word ≤ length text
unfolding delimiters
delimiters_within set text place e d =
    let here : place < length text = sees_in (holds set) text place e in
    all_of {P = λ word. word ≤ length text}
    (all_if (λ _. all_refused) (λ _. all_got (run_within (holds set) text place (omega arith)))) d

pub gap_on : (s : Settings) (text : List ℕ) (place : ℕ) → gap true s text place ≡ delimiters s.inner text place
unfolding gap when◌then◌else◌
gap_on s text place = refl

pub gap_off : (s : Settings) (text : List ℕ) (place : ℕ) → gap false s text place ≡ got place
unfolding gap when◌then◌else◌
gap_off s text place = refl
