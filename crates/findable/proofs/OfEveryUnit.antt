-- What holds of wherever a part finds its unit holds of every row that a text finds. Assumes nothing.
use Rattle.std.specs.Prelude.{◌≡◌, Bool, ◌||◌, length}
use Rattle.std.proofs.Math.Path.{refl}
use Rattle.std.proofs.Math.Bool.{true, false}
use Rattle.std.proofs.lemmas.Bool.{false≢true}
use mathlib.Core.List.{List, [], ◌∷◌}
use Prim.Native.Nat.{ℕ, zero, suc}
use Rattle.rules.specs.declared.Repr.{Repr}
use Rattle.rules.specs.declared.Repr.TheVariants.{Typed, Spoken}
use Rattle.rules.specs.NumbersHandedBack.{Outcome, got, refused}
use Rattle.rules.specs.SettingsAndUnitTable.{Card, Holder}
use Rattle.rules.specs.ReadingOnePart.{part}
use Rattle.rules.specs.Evaluation.{part_reading}
use Rattle.rules.proofs.Laws.Outcomes.{All, all_got, all_refused, of_got, all_if, all_bind, always}
use Rattle.findable.specs.WhereAPartFindsItsUnit.{unit_of, counted, units, same_holder, among, among_got, finds}
use Rattle.findable.specs.OneOfTheTwoTables.{same_holders}
use Rattle.findable.proofs.TheReadersOwn.{refused_among}

got_among : (at : Holder) (found : List Holder) → among_got at (got found) ≡ true → among at found ≡ true
unfolding among_got
got_among at found e = e

module _ (card : Card) (text : List ℕ) (P : Holder → Type 0) (each : (place : ℕ) → All P (unit_of card text place)) where
  counted_holds : (place : ℕ) (d : Repr) → All P (counted card text place d)
  unfolding counted
  counted_holds place (Typed d) = each place
  counted_holds place (Spoken d) = all_refused

  module _ (at : Holder) where
    one_more : (unit : Holder) (more : List Holder) → P unit → (among at more ≡ true → P at) → among at (unit ∷ more) ≡ true → P at
    unfolding among
    one_more unit more here later e = go (same_holder unit at) refl e
      where
        go : (same : Bool) → same_holder unit at ≡ same → (same || among at more) ≡ true → P at
        go true is e = rw (← (same_holders unit at is)) here
        go false is e = later e

    no_more : among at [] ≡ true → P at
    unfolding among
    no_more e = absurd (false≢true e)

    units_hold : (n place : ℕ) → All (λ found. among at found ≡ true → P at) (units card text n place)
    unfolding units
    units_hold zero place = all_refused
    units_hold (suc n) place =
        all_bind (always (part card text place))
        (λ p _.
        all_bind (always (part_reading card text place))
        (λ r _.
        all_bind (counted_holds place p.repr)
        (λ unit here.
        all_if (λ _. all_got (one_more unit [] here no_more))
        (λ _. all_bind (units_hold n r.next) (λ more later. all_got (one_more unit more here later))))))

    pub found_holds : finds card text at ≡ true → P at
    unfolding finds
    found_holds e = go (units card text (suc (length text)) 0) (units_hold (suc (length text)) 0) e
      where
        go : (m : Outcome (List Holder)) → All (λ found. among at found ≡ true → P at) m → among_got at m ≡ true → P at
        go (got found) h e = of_got h (got_among at found e)
        go (refused cause) h e = absurd (refused_among at cause e)
