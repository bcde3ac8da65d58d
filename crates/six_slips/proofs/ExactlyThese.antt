-- A part is refused by each of the six numbers exactly for what it names, at that place; and by one of them at most. Assumes nothing.
use Rattle.std.specs.Prelude.{◌≡◌, Bool, List, ◌↔◌, ℕ}
use Rattle.std.proofs.Math.Path.{refl}
use Rattle.std.proofs.Math.Bool.{true, false}
use Rattle.std.proofs.Common.{arith, eqb-true}
use Rattle.std.proofs.lemmas.Bool.{eqb-false}
use Rattle.std.proofs.Math.Dec.{eqb}
use Rattle.rules.specs.SettingsAndUnitTable.{Card}
use Rattle.rules.specs.Evaluation.{part_reading}
use Rattle.rules.proofs.Laws.Tests.{between_from, between_to}
use Rattle.handed_back.specs.RefusedWith as refused
use Rattle.handed_back.specs.RefusedWith.{RefusedWith}
use Rattle.six_slips.specs.TheAnswerBefore.{slip}
use Rattle.six_slips.specs.TheSixSlips.{TextEnds, DelimitersEnd, ConjunctionSlip, FractionSlip, ExponentSlip, InfinitySlip, by_test, where_it_is, Says}
use Rattle.six_slips.proofs.WhatAStepRefuses.{reading_told}
use Rattle.six_slips.proofs.WhereItIsDue.{text_ends, delimiters_end, conjunction_slip, fraction_slip, exponent_slip, infinity_slip}

module _ (card : Card) (text : List ℕ) (from : ℕ) where
  abbrev PartRefused : ℕ → ℕ → Type 0
  PartRefused = RefusedWith (part_reading card text from)

  -- what a number says is so
  says : {n q : ℕ} → PartRefused n q → Says card text from n q
  says = refused.says (Says card text from) (reading_told card text from)

  pub seventeen_exactly : (q : ℕ) → PartRefused 17 q ↔ TextEnds card text from q
  unfolding Says where_it_is by_test
  seventeen_exactly q = (says, text_ends card text from)

  pub eighteen_exactly : (q : ℕ) → PartRefused 18 q ↔ DelimitersEnd card text from q
  unfolding Says where_it_is by_test
  eighteen_exactly q = (says, delimiters_end card text from)

  pub nineteen_exactly : (q : ℕ) → PartRefused 19 q ↔ ConjunctionSlip card text from q
  unfolding Says where_it_is by_test
  nineteen_exactly q = (says, conjunction_slip card text from)

  pub twenty_exactly : (q : ℕ) → PartRefused 20 q ↔ FractionSlip card text from q
  unfolding Says where_it_is by_test
  twenty_exactly q = (says, fraction_slip card text from)

  pub twenty_one_exactly : (q : ℕ) → PartRefused 21 q ↔ ExponentSlip card text from q
  unfolding Says where_it_is by_test
  twenty_one_exactly q = (says, exponent_slip card text from)

  pub twenty_two_exactly : (q : ℕ) → PartRefused 22 q ↔ InfinitySlip card text from q
  unfolding Says where_it_is by_test
  twenty_two_exactly q = (says, infinity_slip card text from)

  -- by number, so that it is said of all six at once
  it_is : (n m : ℕ) {q : ℕ} {X Y : Type 0} → (X → PartRefused m q) → ((n ≡ m → ⊥) → Y → PartRefused n q) → where_it_is n m X Y → PartRefused n q
  unfolding where_it_is by_test
  it_is n m {q} {X} {Y} f g = go (eqb n m) refl
    where
      go : (same : Bool) → eqb n m ≡ same → by_test same X Y → PartRefused n q
      go true same x = rw (eqb-true n m same) (f x)
      go false other y = g (eqb-false n m other) y

  pub exactly : (n q : ℕ) → slip n ≡ true → PartRefused n q ↔ Says card text from n q
  unfolding Says slip
  exactly n q six = (
    says,
    it_is n 17 (text_ends card text from)
        (λ a.
        it_is n 18 (delimiters_end card text from)
        (λ b.
        it_is n 19 (conjunction_slip card text from)
        (λ c.
        it_is n 20 (fraction_slip card text from)
        (λ d.
        it_is n 21 (exponent_slip card text from)
        (λ e. it_is n 22 (infinity_slip card text from) (λ f _. absurd (omega (arith, between_from 17 22 n six, between_to 17 22 n six)))))))),
  )

  -- a part is refused by one of them at most, at one place
  pub one_slip : {n m p q : ℕ} → PartRefused n p → PartRefused m q → (n ≡ m) × (p ≡ q)
  one_slip = refused.once
