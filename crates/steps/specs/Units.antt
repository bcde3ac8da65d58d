-- Laws of the unit step: the stretch, `ago`, and what the lookup finds. Assumes nothing.
use Rattle.std.specs.Prelude.{◌≡◌, Bool, ◌&&◌, ◌||◌, List, [], ◌∷◌, ◌⊎◌, ℕ, suc, ◌+◌, ◌≤◌, ◌<◌, leb, length, get_or, take, drop, Option, Some, None}
use Rattle.std.proofs.Math.Path.{refl, ap}
use Rattle.std.proofs.Common.{sym, ◌∙◌, inl, inr, arith, le-leb, leb-true, leb-false, length-take, drop_of_length-le, get_or-drop}
use Rattle.std.proofs.Math.Bool.{true, false, not}
use Rattle.std.specs.Bool.{beq}
use Rattle.std.proofs.lemmas.Bool.{false≢true, lt-leb}
use Rattle.std.proofs.Math.Seq.{slice}
use Rattle.rules.specs.declared.ByteSet.{ByteSet}
use Rattle.rules.specs.declared.Settings.{Settings}
use Rattle.rules.specs.declared.Multiplier.{Multiplier}
use Rattle.rules.specs.declared.Unit as declared_unit
use Rattle.rules.specs.declared.Refusal.{Refusal}
use Rattle.rules.specs.Common.{when◌then◌else◌, between, ascii, ends, sees, front, run}
use Rattle.rules.specs.NumbersHandedBack.{Outcome, got, refused, ◌>>=◌}
use Rattle.rules.specs.SettingsAndUnitTable.{class, is, is_next_duration, holds, rows, row, kind, row_multiplier, product, in_range, lookup, line_first, stands, held_row, find_row}
use Rattle.rules.specs.ReadingOnePart.{says, delimiters, in_stretch, closes_unit, negated, ago_step}
use Rattle.rules.proofs.Laws.Ahead.{says_within}
use Rattle.rules.specs.Laws.Lists.{Bytes}
use Rattle.rules.proofs.Laws.Tests.{or_false}
use Rattle.rules.proofs.Laws.Texts.{sees_here, run_within}
use Rattle.value.specs.Digits.{run_end}
use Rattle.rows.specs.Named.{Padded}
use Rattle.rows.specs.Powers.{Fitting}
use Rattle.rows.specs.Laws.Rows.{row_fitting}
use Rattle.rows.specs.Laws.Lookup.{found_holds}
use Rattle.settings.specs.Sets.{either, passes}
use Rattle.settings.specs.Laws.Sets.{runs, either_holds, first_word}
use Rattle.steps.specs.declared.unit.Ago.{Ago}
use Rattle.steps.specs.declared.unit.UnitRow.{UnitRow}

-- what an accepted table has: zeros after each row's name, kind times row in range, of each row, and none has an empty name
pub record Readable (table : List ℕ) : Type 0 where
  pub rooms : Padded table
  pub products : (i : ℕ) → i < rows table → in_range (product (row table i)) ≡ true
  pub named : lookup table [] ≡ None

-- between two places that do not ascend nothing stands, and nothing has no name
pub nothing_found : (hall line text : List ℕ) (place end : ℕ) → Readable hall × Readable line → end ≤ place → [] ≡ find_row hall line (slice place end text)
unfolding find_row held_row stands line_first
nothing_found hall line text place end t h =
    sym (ap (find_row hall line) (drop_of_length-le (take end text) {i = place} (omega (arith, length-take end text))) ∙ rw (t.1.named, t.0.named))

-- a run that goes on ends within the text
pub stretch_within : (test : ℕ → Bool) (text : List ℕ) (place : ℕ) {end : ℕ} → end ≡ run test text place → place < end → end ≤ length text
stretch_within test text place {end = end} e h = go (leb (length text) place) refl
  where
    go : (b : Bool) → leb (length text) place ≡ b → end ≤ length text
    go true past = absurd (omega (arith, run_end test text place (leb-true (length text) place past)))
    go false here = rw e (run_within test text place (omega (arith, leb-false (length text) place here)))

-- ---- where a name ends

-- `+`, `-` and the digits
abbrev pub next_set : ByteSet
next_set = record { word0 = 287992881640112128; word1 = 0; word2 = 0; word3 = 0 }

next_holds : (b : ℕ) → b < 256 → holds next_set b ≡ is_next_duration b
unfolding runs is_next_duration is class between when◌then◌else◌
next_holds b h = first_word 287992881640112128 is_next_duration refl refl b h

-- the bytes before which a name ends, as one set
unfoldable pub stops_of : Settings → ByteSet
stops_of s = when s.ago then either (either s.outer next_set) s.inner else either s.outer next_set

module _ (s : Settings) (b : ℕ) (h : b < 256) where
  not-not : (t : Bool) → t ≡ not (not t)
  not-not true = refl
  not-not false = refl

  stops : holds (stops_of s) b ≡ not (in_stretch s b)
  unfolding stops_of in_stretch when◌then◌else◌
  stops = go s.ago refl
    where
      go : (a : Bool) → s.ago ≡ a → holds (stops_of s) b ≡ not (in_stretch s b)
      go true a = rw (a, either_holds, either_holds, next_holds b h) (not-not _)
      go false a = rw (a, either_holds, next_holds b h, or_false) (not-not _)

-- tests that agree at each byte of a text give one run
front_alike : (test other : ℕ → Bool) (rest : List ℕ) → ((k : ℕ) → test (get_or rest k 0) ≡ other (get_or rest k 0)) → front test rest ≡ front other rest
unfolding front
front_alike test other [] h = refl
front_alike test other (b ∷ rest) h = rw (h 0, front_alike test other rest (λ k. h (suc k)))

pub run_alike :
    (test other : ℕ → Bool) (text : List ℕ) (place : ℕ)
    → ((k : ℕ) → test (get_or text k 0) ≡ other (get_or text k 0))
    → run test text place ≡ run other text place
unfolding run
run_alike test other text place h = rw (front_alike test other (drop place text) (λ k. rw (get_or-drop place text k 0) (h (place + k))))

outside : (a b : Bool) → a ≡ not b → beq a false ≡ b
outside true true e = absurd (false≢true (sym e))
outside true false e = refl
outside false true e = refl
outside false false e = absurd (false≢true e)

-- the bytes that do not stop a name are those of the stretch
pub stretch_ends : (s : Settings) (text : List ℕ) (place : ℕ) → Bytes text → run (passes (stops_of s) false) text place ≡ run (in_stretch s) text place
unfolding passes
stretch_ends s text place bytes = run_alike _ _ text place (λ k. outside _ _ (stops s (get_or text k 0) (bytes k)))

-- ---- what must follow `ago`

pub closes_end : (s : Settings) (text : List ℕ) (place : ℕ) → length text ≤ place → true ≡ closes_unit s text place
unfolding closes_unit ends
closes_end s text place h = rw (le-leb (length text) place h)

module _ (s : Settings) {outer : ByteSet} (o : s.outer ≡ outer) (text : List ℕ) (place : ℕ) where
  module _ (h : place < length text) where
    closes_here : (holds outer (get_or text place 0) || is_next_duration (get_or text place 0)) ≡ closes_unit s text place
    unfolding closes_unit ends
    closes_here =
        ap (λ set. holds set (get_or text place 0) || is_next_duration (get_or text place 0)) (sym o)
        ∙ rw (lt-leb (length text) place h, sees_here (λ b. holds s.outer b || is_next_duration b) text place h)

    pub closes_outer : holds outer (get_or text place 0) ≡ true → true ≡ closes_unit s text place
    closes_outer e = rw e at closes_here

    pub closes_next : holds outer (get_or text place 0) ≡ false → is_next_duration (get_or text place 0) ≡ closes_unit s text place
    closes_next e = rw e at closes_here

-- ---- `ago`

-- the word lies within the text
pub ago_within : (text : List ℕ) (word : ℕ) → word ≤ length text → says (ascii "ago") text word ≡ true → word + 3 ≤ length text
unfolding ascii
ago_within text word h w = says_within (ascii "ago") text word h w

-- the place before the delimiters
abbrev pub back : ℕ → Outcome Ago
back place = got (record { negated = false; next = place })

unfoldable pub ago_after : Settings → List ℕ → ℕ → ℕ → Outcome Ago
ago_after s text place word =
    when says (ascii "ago") text word && closes_unit s text (word + 3) then got (record { negated = true; next = word + 3 }) else back place

-- what follows a unit's name, whatever the unit
unfoldable pub ago_read : Settings → List ℕ → ℕ → Outcome Ago
ago_read s text place =
    when not (s.ago && sees (holds s.inner) text place) then back place else (delimiters s.inner text place >>= ago_after s text place)

-- a multiplier as it is, or negated
abbrev pub negated_if : Bool → Multiplier → Multiplier
negated_if negate m = when negate then negated m else m

abbrev pub agoed : Multiplier → Ago → declared_unit.Unit
agoed m found = record { multiplier = negated_if found.negated m; next = found.next }

-- is document 01's step, of each
pub ago_is : (s : Settings) (text : List ℕ) (place : ℕ) (m : Multiplier) → ago_step s text m place ≡ (ago_read s text place >>= λ found. got (agoed m found))
unfolding ago_step ago_read ago_after when◌then◌else◌ ◌>>=◌
ago_is s text place m = go (not (s.ago && sees (holds s.inner) text place)) (delimiters s.inner text place)
  where
    said : (b : Bool) (word : ℕ)
        → (when b then got (record { multiplier = negated m; next = word + 3 }) else got (record { multiplier = m; next = place }))
        ≡ ((when b then got (record { negated = true; next = word + 3 }) else back place) >>= λ found. got (agoed m found))
    said true word = refl
    said false word = refl

    go : (b : Bool) (run : Outcome ℕ)
        → (when b
        then got (record { multiplier = m; next = place })
        else
        (run
        >>= λ word.
        when says (ascii "ago") text word && closes_unit s text (word + 3)
        then got (record { multiplier = negated m; next = word + 3 })
        else got (record { multiplier = m; next = place })))
        ≡ ((when b then back place else (run >>= ago_after s text place)) >>= λ found. got (agoed m found))
    go true run = refl
    go false (got word) = said (says (ascii "ago") text word && closes_unit s text (word + 3)) word
    go false (refused cause) = refl

pub ago_off : (s : Settings) (text : List ℕ) (place : ℕ) → s.ago ≡ false → back place ≡ ago_read s text place
unfolding ago_read when◌then◌else◌
ago_off s text place a = rw a

module _ (s : Settings) {inner : ByteSet} (i : s.inner ≡ inner) (text : List ℕ) (place : ℕ) (a : s.ago ≡ true) where
  inner_sees : {t : Bool} → sees (holds inner) text place ≡ t → sees (holds s.inner) text place ≡ t
  inner_sees e = ap (λ set. sees (holds set) text place) i ∙ e

  taken : {d : Outcome ℕ} → delimiters inner text place ≡ d → delimiters s.inner text place ≡ d
  taken e = ap (λ set. delimiters set text place) i ∙ e

  pub ago_none : sees (holds inner) text place ≡ false → back place ≡ ago_read s text place
  unfolding ago_read when◌then◌else◌
  ago_none e = rw (a, inner_sees e)

  module _ (e : sees (holds inner) text place ≡ true) where
    pub ago_refused : {cause : Refusal} → delimiters inner text place ≡ refused cause → refused cause ≡ ago_read s text place
    unfolding ago_read when◌then◌else◌ ◌>>=◌
    ago_refused d = rw (a, inner_sees e, taken d)

    module _ {word : ℕ} (d : delimiters inner text place ≡ got word) where
      pub ago_other : says (ascii "ago") text word ≡ false → back place ≡ ago_read s text place
      unfolding ago_read ago_after when◌then◌else◌ ◌>>=◌
      ago_other w = rw (a, inner_sees e, taken d, w)

      module _ (w : says (ascii "ago") text word ≡ true) where
        pub ago_open : closes_unit s text (word + 3) ≡ false → back place ≡ ago_read s text place
        unfolding ago_read ago_after when◌then◌else◌ closes_unit ◌>>=◌
        ago_open c = rw (a, inner_sees e, taken d, w, c)

        pub ago_there : closes_unit s text (word + 3) ≡ true → got (record { negated = true; next = word + 3 }) ≡ ago_read s text place
        unfolding ago_read ago_after when◌then◌else◌ closes_unit ◌>>=◌
        ago_there c = rw (a, inner_sees e, taken d, w, c)

-- ---- what the lookup finds

-- what a part takes of a row
abbrev pub unit_row : List ℕ → UnitRow
unit_row r = record { kind = kind r; own = row_multiplier r }

unfoldable pub unit_read : List ℕ → Option UnitRow
unit_read [] = None
unit_read (size ∷ r) = Some (unit_row (size ∷ r))

pub read_nothing : (r : List ℕ) → length r ≡ 0 → None ≡ unit_read r
unfolding unit_read
read_nothing [] h = refl
read_nothing (size ∷ r) h = absurd (omega arith)

pub read_row : (r : List ℕ) → (length r ≡ 0 → ⊥) → Some (unit_row r) ≡ unit_read r
unfolding unit_read
read_row [] h = absurd (h refl)
read_row (size ∷ r) h = refl

-- kind times row is in range
abbrev pub Fits : Option UnitRow → Type 0
Fits (Some unit) = Fitting unit.kind unit.own
Fits None = Unit {0}

-- of what is found in two tables that can be read
pub found_fits : (hall line wanted : List ℕ) → Readable hall × Readable line → Fits (unit_read (find_row hall line wanted))
unfolding unit_read
found_fits hall line wanted t =
    go (find_row hall line wanted)
    (found_holds (λ r. Fitting (kind r) (row_multiplier r)) hall line wanted (λ i below. row_fitting _ (t.0.products i below)) (λ i below. row_fitting _ (t.1.products i below)))
  where
    go : (r : List ℕ) → (r ≡ []) ⊎ Fitting (kind r) (row_multiplier r) → Fits (unit_read r)
    go [] h = tt
    go (size ∷ r) (inl none) = let never : ◌≡◌ {A = ℕ} (suc (length r)) 0 = ap length none in absurd (omega arith)
    go (size ∷ r) (inr fits) = fits
