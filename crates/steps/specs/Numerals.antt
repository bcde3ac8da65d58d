-- Laws of the numeral step: the stretch, what the lookup finds, and the delimiters behind it. Assumes nothing.
use Rattle.std.specs.Prelude.{◌≡◌, Bool, ℕ, ◌≤◌, ◌<◌, get_or, Option, Some, None}
use Rattle.std.proofs.Math.Path.{refl, sym, ap}
use Rattle.std.proofs.Common.{◌∙◌, arith}
use Rattle.std.proofs.Math.Bool.{true, false, not, beq}
use Rattle.std.proofs.lemmas.Bool.{false≢true}
use mathlib.Core.List.{List, [], ◌∷◌}
use Rattle.std.proofs.Math.ListN.{length}
use Rattle.std.proofs.Math.Seq.{slice}
use Rattle.rules.specs.declared.ByteSet.{ByteSet}
use Rattle.rules.specs.declared.Settings.{Settings}
use Rattle.rules.specs.declared.Numeral.{Numeral}
use Rattle.rules.specs.declared.Refusal.{Refusal}
use Rattle.rules.specs.declared.Refusal.TheVariants.{NoNumber}
use Rattle.rules.specs.Common.{when◌then◌else◌, starts, sees, run}
use Rattle.rules.specs.NumbersHandedBack.{Outcome, got, refused, ◌>>=◌}
use Rattle.rules.specs.SettingsAndUnitTable.{LETTER, is, holds, Card, rows, rows_in, row, row_multiplier, lookup_from_in, lookup, lookup_in}
use Rattle.rules.specs.ReadingOnePart.{delimiters, numeral_end, numeral_found, numeral_step}
use Rattle.rules.proofs.Laws.Outcomes.{All, all_got, all_refused, all_if, all_bind, always, bind_got, bind_refused}
use Rattle.rules.proofs.Laws.Texts.{sees_here, sees_end, run_from, run_ends}
use Rattle.rows.specs.Named.{Padded}
use Rattle.rows.specs.Laws.Lookup.{lookup_found}
use Rattle.settings.specs.Sets.{passes}
use Rattle.steps.specs.declared.numeral.FoundNumeral.{FoundNumeral}
use Rattle.steps.specs.Units.{run_alike}

-- what accepted numerals have: zeros after each name, and what begins with no letter is none of them
pub record Sayable (numerals : List ℕ) : Type 0 where
  pub rooms : Padded numerals
  pub lettered : (wanted : List ℕ) → starts (is LETTER) wanted ≡ false → lookup numerals wanted ≡ None

-- ---- the step, with the row in place of what it multiplies by

abbrev row_and_place : ℕ → ℕ → FoundNumeral
row_and_place i next = record { row = i; next = next }

unfoldable pub numeral_here : Settings → List ℕ → ℕ → Option ℕ → Outcome FoundNumeral
numeral_here s text place (Some i) =
    when sees (holds s.inner) text (numeral_end s text place)
    then (delimiters s.inner text (numeral_end s text place) >>= λ next. got (row_and_place i next))
    else refused (NoNumber place)
numeral_here s text place None = refused (NoNumber place)

unfoldable pub numeral_row : Settings → List ℕ → List ℕ → ℕ → Outcome FoundNumeral
numeral_row s numerals text place = numeral_here s text place (lookup numerals (slice place (numeral_end s text place) text))

-- what the row of a numeral multiplies by
abbrev pub numeral_of : List ℕ → FoundNumeral → Numeral
numeral_of numerals found = record { multiplier = row_multiplier (row numerals found.row); next = found.next }

-- is the request's step
pub numeral_is :
    (card : Card) (text : List ℕ) (place : ℕ)
    → numeral_step card text place ≡ (numeral_row card.settings card.numerals text place >>= λ found. got (numeral_of card.numerals found))
unfolding numeral_step numeral_found numeral_row numeral_here when◌then◌else◌ ◌>>=◌
numeral_is card text place = go (lookup card.numerals (slice place end text))
  where
    end : ℕ
    end = numeral_end card.settings text place

    told : (i : ℕ) (b : Bool) (run : Outcome ℕ)
        → (when b then (run >>= λ next. got (numeral_of card.numerals (row_and_place i next))) else refused (NoNumber place))
        ≡ ((when b then (run >>= λ next. got (row_and_place i next)) else refused (NoNumber place)) >>= λ found. got (numeral_of card.numerals found))
    told i true (got next) = refl
    told i true (refused cause) = refl
    told i false run = refl

    go : (f : Option ℕ) → numeral_found card text place f ≡ (numeral_here card.settings text place f >>= λ found. got (numeral_of card.numerals found))
    go (Some i) = told i (sees (holds card.settings.inner) text end) (delimiters card.settings.inner text end)
    go None = refl

module _ (s : Settings) (numerals text : List ℕ) (place : ℕ) where
  -- a row that is found is one of the numerals'
  pub numeral_within : All (λ found. found.row < rows numerals) (numeral_row s numerals text place)
  unfolding numeral_row numeral_here
  numeral_within = go (lookup numerals (slice place (numeral_end s text place) text)) refl
    where
      go : (f : Option ℕ) → lookup numerals (slice place (numeral_end s text place) text) ≡ f → All (λ found. found.row < rows numerals) (numeral_here s text place f)
      go (Some i) e = all_if (λ _. all_bind (always _) (λ next _. all_got (lookup_found numerals _ i e).0)) (λ _. all_refused)
      go None e = all_refused

  -- ---- case by case

  pub numerals_none : length numerals ≡ 0 → refused (NoNumber place) ≡ numeral_row s numerals text place
  unfolding numeral_row numeral_here lookup_in lookup_from_in rows_in
  numerals_none h = rw (none numerals h)
    where
      none : (l : List ℕ) → length l ≡ 0 → l ≡ []
      none [] h = refl
      none (b ∷ l) h = absurd (omega arith)

  module _ {inner : ByteSet} (i : inner ≡ s.inner) {end : ℕ} (ended : end ≡ run (passes inner false) text place) where
    not_held : (held : Bool) → beq held false ≡ not held
    not_held true = refl
    not_held false = refl

    end_is : numeral_end s text place ≡ end
    unfolding numeral_end passes
    end_is =
        sym
        (ended
        ∙ ap (λ set. run (passes set false) text place) i
        ∙ run_alike (passes s.inner false) (λ b. not (holds s.inner b)) text place (λ k. not_held (holds s.inner (get_or text k 0))))

    pub numeral_from : place ≤ end
    numeral_from = rw ended (run_from _ text place)

    pub numeral_ends : length text ≤ end → refused (NoNumber place) ≡ numeral_row s numerals text place
    unfolding numeral_row numeral_here when◌then◌else◌
    numeral_ends h = go (lookup numerals (slice place (numeral_end s text place) text))
      where
        go : (f : Option ℕ) → refused (NoNumber place) ≡ numeral_here s text place f
        go (Some k) = rw (end_is, sees_end (holds s.inner) text end h)
        go None = refl

    module _ {found : Option ℕ} (f : found ≡ lookup numerals (slice place end text)) where
      looked : lookup numerals (slice place (numeral_end s text place) text) ≡ found
      looked = ap (λ n. lookup numerals (slice place n text)) end_is ∙ sym f

      pub numeral_nowhere : found ≡ None → refused (NoNumber place) ≡ numeral_row s numerals text place
      unfolding numeral_row numeral_here
      numeral_nowhere n = rw (looked, n)

      -- a stretch that does not end the text ends at a delimiter
      module _ (h : end < length text) where
        pub delimiter_behind : sees (holds inner) text end ≡ true
        unfolding passes
        delimiter_behind =
            let stops : beq (holds inner (get_or text end 0)) false ≡ false =
            sym (sees_here (passes inner false) text end h) ∙ rw ended (run_ends (passes inner false) text place) in
            sees_here (holds inner) text end h ∙ held _ stops
          where
            held : (b : Bool) → beq b false ≡ false → b ≡ true
            held true e = refl
            held false e = absurd (false≢true (sym e))

        module _ {k : ℕ} (r : found ≡ Some k) where
          asked : numeral_row s numerals text place ≡ (delimiters inner text end >>= λ next. got (row_and_place k next))
          unfolding numeral_row numeral_here when◌then◌else◌
          asked = rw (looked, r, end_is, ← i, delimiter_behind)

          pub numeral_refused : {cause : Refusal} → delimiters inner text end ≡ refused cause → refused cause ≡ numeral_row s numerals text place
          numeral_refused d = sym (asked ∙ bind_refused _ d)

          pub numeral_got : {next : ℕ} → delimiters inner text end ≡ got next → got (row_and_place k next) ≡ numeral_row s numerals text place
          numeral_got d = sym (asked ∙ bind_got _ d)
