-- Which components of a length are written: of hours, minutes and seconds those that are not zero, and one at least. Assumes nothing.
use Rattle.std.specs.Prelude.{◌≡◌, Bool, not, ◌&&◌, ◌||◌, List, [], ◌∷◌, ◌++◌, ℕ, ◌/◌, ◌%◌}
use Rattle.std.proofs.Math.Path.{refl}
use Rattle.std.proofs.Common.{sym, ap, ◌∙◌, append_assoc, arith}
use Rattle.std.proofs.Math.Bool.{true, false}
use Rattle.std.proofs.lemmas.Bool.{false≢true}
use borrow.Author.Tests.{eqb-true, eqb-false, ne_eqb}
use Rattle.std.proofs.Math.Dec.{eqb}
use Rattle.rules.specs.declared.Length.{Length}
use Rattle.rules.specs.Common.{when◌then◌else◌}
use Rattle.rules.specs.ThePartOfTheCrateWeTake.{size}
use Rattle.rules.proofs.Laws.Tests.{and_false}
use Rattle.iso.specs.IsoTimings.{Component, SECONDS, MINUTES, HOURS, component, unless_zero, components_of}

-- one of zero is left out, unless it is needed
unfoldable pub shown : Bool → ℕ → ℕ → Bool
shown needed number nanoseconds = needed || not (eqb number 0 && eqb nanoseconds 0)

-- what is left out is zero
pub left_out :
    (needed : Bool) (number nanoseconds : ℕ)
    → shown needed number nanoseconds ≡ false
    → (needed ≡ false) × (number ≡ 0) × (nanoseconds ≡ 0)
unfolding shown
left_out needed number nanoseconds h = go needed (eqb number 0) (eqb nanoseconds 0) refl refl h
  where
    go : (n a b : Bool) → eqb number 0 ≡ a → eqb nanoseconds 0 ≡ b → n || not (a && b) ≡ false → (n ≡ false) × (number ≡ 0) × (nanoseconds ≡ 0)
    go true a b e f h = absurd (false≢true (sym h))
    go false true true e f h = (refl, eqb-true number 0 e, eqb-true nanoseconds 0 f)
    go false true false e f h = absurd (false≢true (sym h))
    go false false b e f h = absurd (false≢true (sym h))

unfoldable pub if_shown : Bool → Component → List Component
if_shown b c = when b then c ∷ [] else []

unless_shown :
    (kind number nanoseconds : ℕ)
    → unless_zero kind number nanoseconds ≡ if_shown (shown false number nanoseconds) (component kind number nanoseconds)
unfolding unless_zero if_shown shown when◌then◌else◌
unless_shown kind number nanoseconds = go (eqb number 0 && eqb nanoseconds 0)
  where
    go : (b : Bool) → (when b then [] else component kind number nanoseconds ∷ []) ≡ (when not b then component kind number nanoseconds ∷ [] else [])
    go true = refl
    go false = refl

-- hours, minutes and seconds, each if it is shown
abbrev pub chosen : (hours minutes seconds nanoseconds : ℕ) (h m s : Bool) → List Component
chosen hours minutes seconds nanoseconds h m s =
    if_shown h (component HOURS hours 0) ++ (if_shown m (component MINUTES minutes 0) ++ if_shown s (component SECONDS seconds nanoseconds))

-- seconds are needed where there is nothing else to write, which is where the length has none
module _ (l : Length) where
  abbrev pub hours_shown : Bool
  hours_shown = shown false (l.seconds / 3600) 0

  abbrev pub minutes_shown : Bool
  minutes_shown = shown false (l.seconds / 60 % 60) 0

  abbrev pub seconds_shown : Bool
  seconds_shown = shown (eqb l.seconds 0) (l.seconds % 60) l.nanoseconds

  pub one_shown : hours_shown ≡ false → minutes_shown ≡ false → seconds_shown ≡ false → ⊥
  one_shown h m s =
      let hours = left_out false (l.seconds / 3600) 0 h in
      let minutes = left_out false (l.seconds / 60 % 60) 0 m in
      let seconds = left_out (eqb l.seconds 0) (l.seconds % 60) l.nanoseconds s in
      eqb-false l.seconds 0 seconds.0 (omega (arith, hours.1, minutes.1, seconds.1))

  abbrev of_this : Bool → List Component
  of_this s = chosen (l.seconds / 3600) (l.seconds / 60 % 60) (l.seconds % 60) l.nanoseconds hours_shown minutes_shown s

  pub components_shown : components_of l ≡ of_this seconds_shown
  unfolding components_of size if_shown shown when◌then◌else◌
  components_shown = go (eqb (size l) 0) refl
    where
      -- where a length of other than zero has no seconds, it has nanoseconds
      needless :
          eqb (size l) 0 ≡ false
          → (b : Bool)
          → eqb l.seconds 0 ≡ b
          → shown false (l.seconds % 60) l.nanoseconds ≡ shown b (l.seconds % 60) l.nanoseconds
      needless e true z = rw (ne_eqb l.nanoseconds 0 (λ n. eqb-false (size l) 0 e (omega (arith, eqb-true l.seconds 0 z, n))), and_false)
      needless e false z = refl

      go :
          (b : Bool)
          → eqb (size l) 0 ≡ b
          → (when b
          then component SECONDS 0 0 ∷ []
          else unless_zero HOURS (l.seconds / 3600) 0 ++ unless_zero MINUTES (l.seconds / 60 % 60) 0 ++ unless_zero SECONDS (l.seconds % 60) l.nanoseconds)
          ≡ of_this seconds_shown
      go true e =
          let no_seconds : l.seconds ≡ 0 = omega (arith, eqb-true (size l) 0 e) in
          let no_nanoseconds : l.nanoseconds ≡ 0 = omega (arith, eqb-true (size l) 0 e) in
          rw (no_seconds, no_nanoseconds)
      go false e =
          append_assoc (unless_zero HOURS (l.seconds / 3600) 0) (unless_zero MINUTES (l.seconds / 60 % 60) 0) (unless_zero SECONDS (l.seconds % 60) l.nanoseconds)
          ∙ rw (
            unless_shown HOURS (l.seconds / 3600) 0,
            unless_shown MINUTES (l.seconds / 60 % 60) 0,
            unless_shown SECONDS (l.seconds % 60) l.nanoseconds,
          )
          (ap of_this (needless e (eqb l.seconds 0) refl))
