-- Which bytes are moved, and what comes of them: none that is right is refused, and what is accepted is right. Assumes nothing.
use Rattle.std.specs.Prelude.{◌≡◌, Bool, true, false, ◌&&◌, ℕ, suc, ◌*◌, ◌≤◌, length}
use Rattle.std.proofs.Math.Path.{refl}
use Rattle.std.proofs.Common.{ap, ◌∙◌, leb-true}
use mathlib.Core.List.{List, [], ◌∷◌, ◌++◌, flatten}
use Rattle.std.proofs.Math.Dec.{leb}
use Rattle.rules.specs.Common.{all}
use Rattle.rules.specs.declared.Refusal.{Refusal}
use Rattle.rules.specs.declared.Refusal.TheVariants.{NoRoom, NoStoredRow, NameTooLong}
use Rattle.rules.specs.NumbersHandedBack.{Outcome, got, refused, ◌>>=◌, ◌>>◌, unless}
use Rattle.rules.specs.SettingsAndUnitTable.{name_size}
use Rattle.rules.proofs.Laws.Choices.{and_both, all_first, all_others}
use Rattle.rules.proofs.Laws.Outcomes.{not_got}
use Rattle.stored.specs.Lines.{line_size_in, restored_in}
use Rattle.moves.specs.NamesLongerThanSixteenBytes.{lines, line_stands, move_line, move_lines, moving}
use Rattle.moves.specs.Laws.Moves.{line_moves, moved_line}
use Rattle.moves.proofs.Laws.Moves.{line_got, enough}
use Rattle.moved.specs.MovedLines.{moved_lines, length_moved_lines}

-- ---- two steps, and two tests, of which something came

both_got : {A B C : Type 0} (m : Outcome A) (n : Outcome B) (make : A → B → C) {c : C} → (m >>= λ a. n >>= λ b. got (make a b)) ≡ got c → (a : A) × (b : B) × (m ≡ got a) × (n ≡ got b)
unfolding ◌>>=◌
both_got (got a) (got b) make e = (a, b, refl, refl)
both_got (got a) (refused cause) make e = absurd (not_got cause e)
both_got (refused cause) n make e = absurd (not_got cause e)

both_passed : {A : Type 0} (first second : Refusal) (a b : Bool) (x : A) {y : A} → (unless first a >> (unless second b >> got x)) ≡ got y → (a && b) ≡ true
unfolding unless ◌>>◌
both_passed first second true true x e = refl
both_passed first second true false x e = absurd (not_got second e)
both_passed first second false b x e = absurd (not_got first e)

tested_got : {A : Type 0} (m : Outcome A) (cause : Refusal) (test : A → Bool) {a : A} → (m >>= λ x. unless cause (test x) >> got x) ≡ got a → (m ≡ got a) × (test a ≡ true)
unfolding ◌>>=◌ ◌>>◌ unless
tested_got {A = A} (got x) cause test {a = a} e = go (test x) refl e
  where
    go : (t : Bool) → test x ≡ t → (unless cause t >> got x) ≡ got a → ◌≡◌ {A = Outcome A} (got x) (got a) × (test a ≡ true)
    go true passed same = let there : x ≡ a = cc in (same, rw (← there) passed)
    go false passed same = absurd (not_got cause same)
tested_got (refused first) cause test e = absurd (not_got first e)

module _ (from to : ℕ) where
  -- ---- a line

  line_of : (i : ℕ) (line : List ℕ) {out : List ℕ} → move_line from to i line ≡ got out → line_moves from to line ≡ true
  unfolding line_moves moved_line move_line
  line_of i line e = both_passed (NoStoredRow i) (NameTooLong i) (line_stands from line) (leb (name_size (restored_in from line)) to) (moved_line from to line) e

  -- ---- lines

  lines_got : (i : ℕ) (ls : List (List ℕ)) → all (line_moves from to) ls ≡ true → move_lines from to i ls ≡ got (moved_lines from to ls)
  unfolding move_lines moved_lines flatten ◌>>=◌
  lines_got i [] e = refl
  lines_got i (line ∷ more) e =
      rw (line_got from to i line (all_first (line_moves from to) line more e), lines_got (suc i) more (all_others (line_moves from to) line more e))

  lines_of : (i : ℕ) (ls : List (List ℕ)) {out : List ℕ} → move_lines from to i ls ≡ got out → all (line_moves from to) ls ≡ true
  unfolding move_lines all
  lines_of i [] e = refl
  lines_of i (line ∷ more) e =
      let (first, others, here, there) = both_got (move_line from to i line) (move_lines from to (suc i) more) (λ f o. f ++ o) e in
      and_both (line_of i line here) (lines_of (suc i) more there)

  -- ---- all of them

  module _ (source target : List ℕ) where
    -- none that is right is refused
    pub moving_got : all (line_moves from to) (lines source) ≡ true → length (lines source) * line_size_in to ≤ length target → moving from to source target ≡ got (moved_lines from to (lines source))
    moving_got right room = enough from to source target (moved_lines from to (lines source)) (lines_got 0 (lines source) right) (rw (length_moved_lines from to (lines source) right) room)

    -- and what is accepted is right
    module _ {there : List ℕ} (e : moving from to source target ≡ got there) where
      all_got : (move_lines from to 0 (lines source) ≡ got there) × (leb (length there) (length target) ≡ true)
      unfolding moving
      all_got = tested_got (move_lines from to 0 (lines source)) (NoRoom 0) (λ moved. leb (length moved) (length target)) e

      pub moving_right : all (line_moves from to) (lines source) ≡ true
      moving_right = lines_of 0 (lines source) all_got.0

      pub moving_gives : there ≡ moved_lines from to (lines source)
      moving_gives = cc (all_got.0, lines_got 0 (lines source) moving_right)

      pub moving_within : length there ≤ length target
      moving_within = leb-true (length there) (length target) all_got.1

      pub moving_length : length there ≡ length (lines source) * line_size_in to
      moving_length = ap length moving_gives ∙ length_moved_lines from to (lines source) moving_right
