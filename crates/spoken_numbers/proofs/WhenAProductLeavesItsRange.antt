-- A part is refused by 16 exactly if it is a spoken one, read to its end, connection included, and one of its two products leaves its range. Assumes
-- nothing.
use Rattle.std.specs.Prelude.{◌≡◌, Bool, List, [], ◌∷◌, ◌↔◌, ℕ, ◌+◌, ◌^◌, leb, ltb}
use Rattle.std.proofs.Math.Path.{refl, ap}
use Rattle.std.proofs.Common.{sym, ◌∙◌, ⊎_elim, arith, ltb-false, leb-false, le-ltb}
use Rattle.std.proofs.Math.Bool.{true, false}
use Rattle.std.proofs.lemmas.Bool.{false≢true, lt-leb}
use Rattle.std.proofs.Math.Logic.{inl, inr}
use Rattle.rules.specs.declared.Multiplier.{Multiplier}
use Rattle.rules.specs.declared.Refusal.{Refusal}
use Rattle.rules.specs.declared.Refusal.TheVariants.{OutOfRange}
use Rattle.rules.specs.declared.Repr.{Repr}
use Rattle.rules.specs.declared.Repr.TheVariants.{Typed, Spoken}
use Rattle.rules.specs.declared.SpokenRepr.{SpokenRepr}
use Rattle.rules.specs.NumbersHandedBack.{got, refused, ◌>>=◌, ◌>>◌, number, unless}
use Rattle.rules.specs.SettingsAndUnitTable.{times, in_range, Card}
use Rattle.rules.specs.ReadingOnePart.{part}
use Rattle.rules.specs.Evaluation.{multiplied, spoken_multiplier, evaluate_spoken, evaluated, part_reading}
use Rattle.rules.proofs.Laws.Choices.{and_either}
use Rattle.rules.proofs.Laws.Outcomes.{All, all_got, all_refused, all_of, bind_got, bind_refused, Refused, not_refused, the_cause, refused_map, refused_bind, refused_then, refused_unless}
use Rattle.rules.proofs.Laws.Refusals.{among, by_one, allowed_by}
use Rattle.rules.proofs.Laws.Tests.{and_false}
use Rattle.spoken_numbers.proofs.WhenNoUnitFollows.{Why, otherwise, no_unit, part_why}
use Rattle.spoken_numbers.specs.WhenAProductLeavesItsRange.{Outside, too_large, too_high, too_low, ProductOutside, OutOfItsRange}

-- ---- the test of a product

outside : (m : Multiplier) → in_range m ≡ false → Outside m
unfolding in_range
outside m e =
    let coefficient : ltb m.coefficient (2 ^ 63) ≡ false → Outside m = λ e. too_large (ltb-false _ _ e) in
    let above : leb m.up (m.down + 32767) ≡ false → Outside m = λ e. too_high (leb-false _ _ e) in
    let below : leb m.down (m.up + 32768) ≡ false → Outside m = λ e. too_low (leb-false _ _ e) in
    ⊎_elim (λ e. ⊎_elim coefficient above (and_either _ _ e)) below (and_either _ _ e)

not_in_range : (m : Multiplier) → Outside m → in_range m ≡ false
unfolding in_range
not_in_range m (too_large h) = rw (le-ltb m.coefficient (2 ^ 63) h)
not_in_range m (too_high h) = rw (lt-leb m.up (m.down + 32767) h, and_false)
not_in_range m (too_low h) = rw (lt-leb m.down (m.up + 32768) h, and_false)

module _ (m n : Multiplier) where
  multiplied_told : Refused (λ cause. (cause ≡ OutOfRange) × Outside (times m n)) (multiplied m n)
  unfolding multiplied
  multiplied_told = refused_then (unless OutOfRange _) (refused_unless OutOfRange _ (λ e. (refl, outside (times m n) e))) not_refused

  multiplied_got : All (λ product. product ≡ times m n) (multiplied m n)
  unfolding multiplied unless ◌>>◌
  multiplied_got = go (in_range (times m n))
    where
      go : (test : Bool) → All (λ product. product ≡ times m n) (unless OutOfRange test >> got (times m n))
      go true = all_got refl
      go false = all_refused

  multiplied_refuses : Outside (times m n) → multiplied m n ≡ refused OutOfRange
  unfolding multiplied unless ◌>>◌
  multiplied_refuses h = rw (not_in_range (times m n) h)

-- ---- what is evaluated

module _ (d : SpokenRepr) where
  multiplier_told : Refused (λ cause. (cause ≡ OutOfRange) × ProductOutside d) (spoken_multiplier d)
  unfolding spoken_multiplier
  multiplier_told =
      refused_bind (multiplied d.numeral d.kind) (refused_map (multiplied_told d.numeral d.kind) (λ cause (is, h). (is, inl h)))
      (λ m read. refused_map (multiplied_told m d.row) (λ cause (is, h). (is, inr (rw (all_of (multiplied_got d.numeral d.kind) read) at h))))

  multiplier_refuses : ProductOutside d → spoken_multiplier d ≡ refused OutOfRange
  unfolding spoken_multiplier multiplied unless ◌>>◌ ◌>>=◌
  multiplier_refuses (inl h) = bind_refused _ (multiplied_refuses d.numeral d.kind h)
  multiplier_refuses (inr h) = go (in_range (times d.numeral d.kind))
    where
      go : (test : Bool) → (unless OutOfRange test >> got (times d.numeral d.kind) >>= λ m. multiplied m d.row) ≡ refused OutOfRange
      go true = multiplied_refuses (times d.numeral d.kind) d.row h
      go false = refl

evaluated_told : (text : List ℕ) (r : Repr) → Refused (λ cause. (cause ≡ OutOfRange) × ((d : SpokenRepr) × (r ≡ Spoken d) × ProductOutside d)) (evaluated text r)
unfolding evaluated evaluate_spoken
evaluated_told text (Typed d) = not_refused
evaluated_told text (Spoken d) = refused_bind (spoken_multiplier d) (refused_map (multiplier_told d) (λ cause (is, h). (is, (d, refl, h)))) (λ m _. not_refused)

-- ---- refused by 16

module _ (card : Card) (text : List ℕ) (place : ℕ) where
  -- no step refuses by it, and 5 is another number
  pub reading_told : Refused (λ cause. number cause ≡ 16 → (cause ≡ OutOfRange) × OutOfItsRange card text place) (part_reading card text place)
  unfolding part_reading number among
  reading_told =
      refused_bind (part card text place) (refused_map (part_why card text place) told)
      (λ p read.
      refused_bind (evaluated text p.repr) (refused_map (evaluated_told text p.repr) (λ cause (is, (d, is_spoken, h)) _. (is, record { p = p; read = read; d = d; is_spoken = is_spoken; product = h })))
      (λ l _. refused_map (by_one (allowed_by card.settings place p.next l)) (λ cause e is. absurd (omega arith))))
    where
      told : (cause : Refusal) → Why card text place cause → number cause ≡ 16 → (cause ≡ OutOfRange) × OutOfItsRange card text place
      told cause (otherwise h) is = absurd (false≢true (sym h ∙ ap (among (15 ∷ 16 ∷ [])) is))
      told cause (no_unit missing) is = absurd (omega arith)

  reading_refuses : OutOfItsRange card text place → part_reading card text place ≡ refused OutOfRange
  unfolding part_reading evaluated evaluate_spoken
  reading_refuses h = bind_got _ h.read ∙ bind_refused _ (rw h.is_spoken (bind_refused _ (multiplier_refuses h.d h.product)))

  pub out_of_range_exactly : (part_reading card text place ≡ refused OutOfRange) ↔ OutOfItsRange card text place
  unfolding number
  out_of_range_exactly = ((λ e. (the_cause reading_told e refl).1), reading_refuses)
