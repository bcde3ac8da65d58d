-- Under no card does a part that is no spoken number find its unit at a row of which the name cannot be typed, in the hall's table or in the
-- line's. Assumes nothing.
use Rattle.std.specs.Prelude.{◌≡◌, Bool, ◌&&◌, List, [], ◌∷◌, ℕ, zero, suc, ◌+◌, ◌/◌, ◌%◌, ◌<◌, drop}
use Rattle.std.proofs.Math.Path.{refl}
use Rattle.std.proofs.Common.{sym, ap, ◌∙◌, arith}
use Rattle.std.proofs.Math.Bool.{true, false, not}
use Rattle.std.proofs.lemmas.Bool.{false≢true}
use Rattle.std.proofs.Math.Seq.{slice, drop-nil}
use borrow.Author.Tests.{not-true, not-false}
use Rattle.rules.specs.declared.ByteSet.{ByteSet}
use Rattle.rules.specs.declared.Settings.{Settings}
use Rattle.rules.specs.Common.{when◌then◌else◌, between, starts, sees, run}
use Rattle.rules.specs.NumbersHandedBack.{got}
use Rattle.rules.specs.SettingsAndUnitTable.{lower, word, holds, empty, name_size, name, led_by_e, e_may_lead, can_be_typed, Card, Holder, Neither, stands, held_row}
use Rattle.rules.specs.ReadingOnePart.{same_letter, gap, sign_step, number_step, exponent_step, in_stretch}
use Rattle.rules.proofs.Laws.Choices.{or_neither}
use Rattle.rules.proofs.Laws.Tests.{or_true}
use Rattle.rules.proofs.Laws.Lists.{runs_below}
use Rattle.rules.proofs.Laws.Outcomes.{All, all_got, all_refused, all_of, all_if, all_bind, all_map, always, bind_got}
use Rattle.rules.proofs.Laws.Layout.{gap_none}
use Rattle.findable.specs.WhereAPartFindsItsUnit.{unit_stands, number_unit, unsigned_unit, unit_of, finds}
use Rattle.findable.specs.OneOfTheTwoTables.{row_held, Stands, somewhere, nowhere, where_it_stands}
use Rattle.findable.proofs.OfEveryUnit.{found_holds}

-- ---- an empty set holds nothing

-- from 192 on each byte has its bit in the last word
last_word : (set : ByteSet) (b i : ℕ) → b / 64 ≡ suc (suc (suc i)) → holds set b ≡ holds set (192 + b % 64)
unfolding holds word
last_word set b i e =
    let fourth : (192 + b % 64) / 64 ≡ 3 = omega arith in
    let same_bit : (192 + b % 64) % 64 ≡ b % 64 = omega arith in
    rw (e, fourth, same_bit)

none_held : (set : ByteSet) → empty set ≡ true → (b : ℕ) → holds set b ≡ false
unfolding empty
none_held set none b = go (b / 64) refl
  where
    below : (k : ℕ) → k < 256 → holds set k ≡ false
    below k h = not-true (holds set k) (runs_below (λ k. not (holds set k)) 256 k none h)

    go : (i : ℕ) → b / 64 ≡ i → holds set b ≡ false
    go zero e = below b (omega arith)
    go (suc zero) e = below b (omega arith)
    go (suc (suc zero)) e = below b (omega arith)
    go (suc (suc (suc i))) e = last_word set b i e ∙ below (192 + b % 64) (omega arith)

starts_none : (test : ℕ → Bool) → ((b : ℕ) → test b ≡ false) → (rest : List ℕ) → starts test rest ≡ false
unfolding starts
starts_none test none [] = refl
starts_none test none (b ∷ rest) = none b

gap_off : (s : Settings) (text : List ℕ) (place : ℕ) → gap false s text place ≡ got place
unfolding gap when◌then◌else◌
gap_off s text place = refl

-- ---- where no `e` can lead a name, none stands at the place where a unit is looked up

module _ (s : Settings) (text : List ℕ) (place : ℕ) where
  no_exponent : s.exponents ≡ false → All (λ scaled. sees (same_letter 101) text scaled.next ≡ false) (exponent_step s text place)
  unfolding exponent_step
  no_exponent off =
      all_if (λ none. all_got (not-true (sees (same_letter 101) text place) none))
      (λ _. all_if (λ _. all_refused) (λ on. absurd (false≢true (sym off ∙ not-false s.exponents on))))

  no_delimiter : (s.before_unit && not (empty s.inner)) ≡ false → gap s.before_unit s text place ≡ got place
  unfolding sees
  no_delimiter e = go s.before_unit e
    where
      go : (on : Bool) → (on && not (empty s.inner)) ≡ false → gap on s text place ≡ got place
      go true e = gap_none s text place true (starts_none (holds s.inner) (none_held s.inner (not-false (empty s.inner) e)) (drop place text))
      go false e = gap_off s text place

-- ---- a name begins as the text does where it stands

slice_starts : (test : ℕ → Bool) (from to : ℕ) (text : List ℕ) → starts test (drop from text) ≡ false → starts test (slice from to text) ≡ false
unfolding starts
slice_starts test from zero text e = rw (drop-nil from)
slice_starts test zero (suc to) [] e = refl
slice_starts test zero (suc to) (b ∷ text) e = e
slice_starts test (suc from) (suc to) [] e = refl
slice_starts test (suc from) (suc to) (b ∷ text) e = slice_starts test from to text e

not_led : (from to : ℕ) (text : List ℕ) → sees (same_letter 101) text from ≡ false → led_by_e (slice from to text) ≡ false
unfolding sees led_by_e same_letter lower between when◌then◌else◌
not_led from to text e = slice_starts (same_letter 101) from to text e

-- ---- a part

module _ (card : Card) (text : List ℕ) where
  abbrev s : Settings
  s = card.settings

  -- of nothing an `e` leads no name
  none_led : led_by_e (name (row_held card Neither)) ≡ false
  unfolding held_row name name_size led_by_e starts
  none_led = refl

  -- whatever was found, an `e` does not lead its name
  abbrev Unled : Holder → Type 0
  Unled at = led_by_e (name (row_held card at)) ≡ false

  module _ (none : e_may_lead s ≡ false) where
    off : (s.exponents ≡ false) × ((s.before_unit && not (empty s.inner)) ≡ false)
    unfolding e_may_lead
    off = or_neither s.exponents (s.before_unit && not (empty s.inner)) none

    looked_up : (place to : ℕ) → sees (same_letter 101) text place ≡ false → Unled (stands card.hall card.line (slice place to text))
    looked_up place to none = go (where_it_stands card.hall card.line (slice place to text))
      where
        go : {at : Holder} → Stands card.hall card.line (slice place to text) at → Unled at
        go (somewhere long named) = ap led_by_e named ∙ not_led place to text none
        go nowhere = none_led

    number_unled : (place : ℕ) → All Unled (number_unit card text place)
    unfolding number_unit unit_stands
    number_unled place =
        all_bind (always (number_step s text place))
        (λ number _.
        all_bind (no_exponent s text number.next off.0)
        (λ scaled none. rw (bind_got _ (no_delimiter s text scaled.next off.1)) (all_got (looked_up scaled.next (run (in_stretch s) text scaled.next) none))))

    unled : (place : ℕ) → All Unled (unit_of card text place)
    unfolding unit_of unsigned_unit
    unled place = all_bind (always (sign_step s text place)) (λ signed _. all_if (λ _. number_unled signed.next) (λ _. all_got none_led))

  -- a row at which a part finds its unit has a name that can be typed
  abbrev pub Typable : Holder → Type 0
  Typable at = can_be_typed s (name (row_held card at)) ≡ true

  typable : (place : ℕ) → All Typable (unit_of card text place)
  unfolding can_be_typed
  typable place = go (e_may_lead s) refl
    where
      go : (may : Bool) → e_may_lead s ≡ may → All Typable (unit_of card text place)
      go true e = all_map (always (unit_of card text place)) (λ at _. rw (e, or_true))
      go false e = all_map (unled e place) (λ at unled. rw unled)

  pub part_typed : (place : ℕ) (at : Holder) → unit_of card text place ≡ got at → Typable at
  part_typed place at e = all_of (typable place) e

  -- no part of any text without a spoken number finds its unit at a row of which the name cannot be typed
  pub found_typed : (at : Holder) → finds card text at ≡ true → Typable at
  found_typed = found_holds card text Typable typable
