-- Laws of the number step: the digits before a point, the point, and the digits after it. Assumes nothing.
use Rattle.std.specs.Prelude.{◌≡◌, refl, Bool, List, ℕ, ◌+◌, ◌<◌, eqb}
use Rattle.std.proofs.Math.Path.{sym}
use Rattle.std.proofs.Math.Bool.{true, false}
use Rattle.std.proofs.Common.{arith, ltb-true, ltb-false}
use Rattle.std.proofs.Math.Dec.{ltb}
use Rattle.rules.specs.declared.Settings.{Settings}
use Rattle.rules.specs.declared.Span.{Span}
use Rattle.rules.specs.declared.Refusal.TheVariants.{FractionOff, FractionEmpty}
use Rattle.rules.specs.Common.{when◌then◌else◌, sees, run}
use Rattle.rules.specs.NumbersHandedBack.{got, refused}
use Rattle.rules.specs.SettingsAndUnitTable.{DIGIT, POINT, is}
use Rattle.rules.specs.ReadingOnePart.{fraction_step, number_step}
use Rattle.rules.proofs.Laws.Tests.{or_true}
use Rattle.rules.proofs.Laws.Texts.{run_from}
use Rattle.steps.specs.Delimiters.{sees_run, sees_none}

module _ (s : Settings) (text : List ℕ) (any_whole : Bool) (whole : Span) (place : ℕ) where
  pub fraction_absent :
      sees (is POINT) text place ≡ false
      → got (record { whole = whole; fract = record { start = place; end = place }; next = place })
      ≡ fraction_step s text any_whole whole place
  unfolding fraction_step when◌then◌else◌
  fraction_absent e = rw e

  module _ (e : sees (is POINT) text place ≡ true) where
    pub fraction_off : s.fractions ≡ false → refused (FractionOff place) ≡ fraction_step s text any_whole whole place
    unfolding fraction_step when◌then◌else◌
    fraction_off off = rw (e, off)

    module _
        (on : s.fractions ≡ true)
        {end : ℕ} (f : end ≡ run (is DIGIT) text (place + 1)) where
      pub fraction_empty :
          end ≡ place + 1
          → any_whole ≡ false
          → refused (FractionEmpty place) ≡ fraction_step s text any_whole whole place
      unfolding fraction_step when◌then◌else◌
      fraction_empty h w = rw (e, on, w, sees_none (is DIGIT) text (place + 1) (omega (arith, rw f at h)))

      pub fraction_after :
          any_whole ≡ true
          → got (record { whole = whole; fract = record { start = place + 1; end = end }; next = end }) ≡ fraction_step s text any_whole whole place
      unfolding fraction_step when◌then◌else◌
      fraction_after w = rw (e, on, w, f)

      pub fraction_some :
          (end ≡ place + 1 → ⊥)
          → got (record { whole = whole; fract = record { start = place + 1; end = end }; next = end }) ≡ fraction_step s text any_whole whole place
      unfolding fraction_step when◌then◌else◌
      fraction_some h = rw (e, on, sees_run (is DIGIT) text (place + 1) beyond, or_true, f)
        where
          beyond : place + 1 < run (is DIGIT) text (place + 1)
          beyond = omega (arith, run_from (is DIGIT) text (place + 1))

module _
    (s : Settings) (text : List ℕ) (place : ℕ)
    {whole : Span} (w : whole ≡ record { start = run (eqb 48) text place; end = run (is DIGIT) text place }) where
  -- there are digits before the point exactly if their run goes on
  pub number_whole : fraction_step s text (ltb place whole.end) whole whole.end ≡ number_step s text place
  unfolding number_step
  number_whole = rw (w, any (ltb place (run (is DIGIT) text place)) refl)
    where
      any : (b : Bool) → ltb place (run (is DIGIT) text place) ≡ b → b ≡ sees (is DIGIT) text place
      any true e = sym (sees_run (is DIGIT) text place (ltb-true place (run (is DIGIT) text place) e))
      any false e = sym (sees_none (is DIGIT) text place (ltb-false place (run (is DIGIT) text place) e))
