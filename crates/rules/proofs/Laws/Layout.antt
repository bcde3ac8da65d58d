-- What stands at a place of a text: runs, stretches and the place after them, from what the rest of the text begins with; and steps
-- that find nothing there. Assumes nothing.
use Rattle.std.specs.Prelude.{◌≡◌, Bool, List, [], ◌∷◌, ◌++◌, ℕ, suc, ◌+◌, ◌≤◌, take, drop, eqb}
use Rattle.std.proofs.Math.Path.{refl, sym, ap}
use Rattle.std.proofs.Common.{◌∙◌, zero-le, add-zero, arith, length-drop}
use Rattle.std.proofs.Math.Bool.{true, false}
use Rattle.std.proofs.Math.ListN.{length}
use Rattle.std.proofs.Math.Seq.{slice, drop-append_seam, take-append_seam}
use borrow.Author.Tests.{lt-leb, eqb-true}
use Rattle.rules.specs.declared.Settings.{Settings}
use Rattle.rules.specs.Common.{when◌then◌else◌, all, ends, starts, sees, front, run}
use Rattle.rules.specs.NumbersHandedBack.{got}
use Rattle.rules.specs.SettingsAndUnitTable.{holds}
use Rattle.rules.specs.ReadingOnePart.{same_letter, delimiters, gap, exponent_step, connection}
use Rattle.rules.specs.Evaluation.{spelled}
use Rattle.rules.proofs.Laws.Choices.{all_first, all_others, if_either}
use Rattle.rules.proofs.Laws.Texts.{run_stop, drop_shift, slice_shift}

-- a test that fails at the byte after them ends the run of bytes that pass it
front_over : (test : ℕ → Bool) (mid post : List ℕ) → all test mid ≡ true → starts test post ≡ false → front test (mid ++ post) ≡ length mid
unfolding front starts when◌then◌else◌
front_over test [] [] passes stops = refl
front_over test [] (b ∷ post) passes stops = rw stops
front_over test (b ∷ mid) post passes stops = rw (all_first test b mid passes) (ap suc (front_over test mid post (all_others test b mid passes) stops))

front_first : (test : ℕ → Bool) (mid post : List ℕ) → starts test post ≡ false → front test (mid ++ post) ≡ front test mid
unfolding front starts when◌then◌else◌
front_first test [] [] stops = refl
front_first test [] (b ∷ post) stops = rw stops
front_first test (b ∷ mid) post stops = rw (front_first test mid post stops)

front_most : (test : ℕ → Bool) (mid : List ℕ) → front test mid ≤ length mid
unfolding front
front_most test [] = zero-le
front_most test (b ∷ mid) = let more = front_most test mid in if_either (λ n. n ≤ suc (length mid)) (test b) {x = suc (front test mid)} {y = 0} (λ _. omega (arith, more)) (λ _. zero-le)

-- zeros in front spell nothing
front_zeros : (digits : List ℕ) → spelled 0 (drop (front (eqb 48) digits) digits) ≡ spelled 0 digits
unfolding front when◌then◌else◌ spelled
front_zeros [] = refl
front_zeros (d ∷ digits) = go (eqb 48 d) refl (front_zeros digits)
  where
    go :
        (b : Bool) → eqb 48 d ≡ b
        → spelled 0 (drop (front (eqb 48) digits) digits) ≡ spelled 0 digits
        → spelled 0 (drop (when b then suc (front (eqb 48) digits) else 0) (d ∷ digits)) ≡ spelled 0 (d ∷ digits)
    go true z more = more ∙ rw (← (eqb-true 48 d z))
    go false z more = refl

module _ (text : List ℕ) (place : ℕ) where
  pub sees_of : (test : ℕ → Bool) {rest : List ℕ} → drop place text ≡ rest → sees test text place ≡ starts test rest
  unfolding sees
  sees_of test here = ap (starts test) here

  pub goes_on : {b : ℕ} {rest : List ℕ} → drop place text ≡ b ∷ rest → ends text place ≡ false
  unfolding ends
  goes_on here = lt-leb (length text) place (omega (arith, sym (length-drop place text) ∙ ap length here))

  module _ (mid post : List ℕ) (here : drop place text ≡ mid ++ post) where
    pub behind : drop (place + length mid) text ≡ post
    behind = sym (drop_shift text place (length mid)) ∙ ap (drop (length mid)) here ∙ drop-append_seam mid post

    pub run_over : (test : ℕ → Bool) → all test mid ≡ true → starts test post ≡ false → run test text place ≡ place + length mid
    unfolding run
    run_over test passes stops = ap (λ rest. place + front test rest) here ∙ ap (λ n. place + n) (front_over test mid post passes stops)

    -- the bytes of the stretch without the zeros in front of it
    pub spelled_stretch : starts (eqb 48) post ≡ false → spelled 0 (slice (run (eqb 48) text place) (place + length mid) text) ≡ spelled 0 mid
    unfolding run
    spelled_stretch stops =
        ap (λ z. spelled 0 (slice (place + z) (place + length mid) text)) (ap (front (eqb 48)) here ∙ front_first (eqb 48) mid post stops)
        ∙ ap (spelled 0) (sym (slice_shift text place (front (eqb 48) mid) (length mid)) ∙ ap (slice (front (eqb 48) mid) (length mid)) here)
        ∙ ap (λ l. spelled 0 (drop (front (eqb 48) mid) l)) (take-append_seam mid post)
        ∙ front_zeros mid

    pub stretch : slice place (place + length mid) text ≡ mid
    stretch =
        ap (λ from. slice from (place + length mid) text) (sym (add-zero place))
        ∙ sym (slice_shift text place 0 (length mid))
        ∙ ap (take (length mid)) here
        ∙ take-append_seam mid post

-- ---- steps that find nothing

module _ (s : Settings) (text : List ℕ) (place : ℕ) where
  -- no inner delimiter at the place: nothing is skipped
  pub gap_none : (on : Bool) → sees (holds s.inner) text place ≡ false → gap on s text place ≡ got place
  unfolding gap delimiters when◌then◌else◌
  gap_none true none = rw (none, run_stop (holds s.inner) text place none)
  gap_none false none = refl

  pub exponent_none : sees (same_letter 101) text place ≡ false → exponent_step s text place ≡ got (record { exponent = record { negative = false; power = 0 }; next = place })
  unfolding exponent_step when◌then◌else◌
  exponent_none none = rw none

  pub connection_none : sees (holds s.outer) text place ≡ false → connection s text place ≡ got place
  unfolding connection when◌then◌else◌
  connection_none none = rw none
