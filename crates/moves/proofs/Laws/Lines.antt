-- Laws of a source's lines: a piece of a line's length that is digits and a newline is the first of them; any other piece begins with a line that is
-- not accepted. Assumes nothing.
use Rattle.std.specs.Prelude.{◌≡◌, refl, Bool, true, false, not, List, [], ◌∷◌, ◌++◌, ℕ, ◌<◌, eqb, length, take, drop}
use Rattle.std.proofs.Common.{sym, ap, ◌∙◌, append_assoc, arith, take-append-drop, eqb-true}
use Rattle.std.proofs.lemmas.Bool.{false≢true, not-true}
use Rattle.rules.specs.Common.{when◌then◌else◌, between, all}
use Rattle.rules.proofs.Laws.Choices.{all_first, all_others, all_weaken}
use Rattle.stored.specs.Lines.{digits_size_in, line_size_in, digit_value, spells, line_accepted_in}
use Rattle.stored.specs.Laws.{line_long, line_ends, line_spelled}
use Rattle.moves.specs.NamesLongerThanSixteenBytes.{newline, with_byte, lines}

-- ---- bytes of which none is a newline, and a newline

unfoldable pub in_line : ℕ → Bool
in_line b = not (eqb b newline)

pub line_first : (front rest : List ℕ) → all in_line front ≡ true → lines (front ++ newline ∷ rest) ≡ (front ++ newline ∷ []) ∷ lines rest
unfolding lines with_byte when◌then◌else◌ in_line
line_first [] rest e = refl
line_first (b ∷ front) rest e =
    rw (not-true (eqb b newline) (all_first in_line b front e), line_first front rest (all_others in_line b front e))

-- ---- digits and a newline

newline_spells : spells newline ≡ false
unfolding spells digit_value between when◌then◌else◌
newline_spells = refl

digit_goes_on : (b : ℕ) → spells b ≡ true → eqb b newline ≡ false
digit_goes_on b e = go (eqb b newline) refl
  where
    go : (t : Bool) → eqb b newline ≡ t → eqb b newline ≡ false
    go true is = absurd (false≢true (sym newline_spells ∙ ap spells (sym (eqb-true b newline is)) ∙ e))
    go false is = is

digits_line : (digits rest : List ℕ) → all spells digits ≡ true → lines (digits ++ newline ∷ rest) ≡ (digits ++ newline ∷ []) ∷ lines rest
unfolding in_line
digits_line digits rest e = line_first digits rest (all_weaken spells in_line (λ d spelled. rw (digit_goes_on d spelled)) digits e)

-- ---- a source begins with its first line

record Begun (source : List ℕ) : Type 0 where
  first : List ℕ
  others : List (List ℕ)
  are : lines source ≡ first ∷ others
  front : take (length first) source ≡ first

begun : (b : ℕ) (bs : List ℕ) → Begun (b ∷ bs)
unfolding lines when◌then◌else◌ with_byte
begun b [] = go (eqb b newline) refl
  where
    go : (t : Bool) → eqb b newline ≡ t → Begun (b ∷ [])
    go true is = record { first = b ∷ []; others = []; are = rw is; front = refl }
    go false is = record { first = b ∷ []; others = []; are = rw is; front = refl }
begun b (c ∷ cs) = go (eqb b newline) refl (begun c cs)
  where
    go : (t : Bool) → eqb b newline ≡ t → Begun (c ∷ cs) → Begun (b ∷ c ∷ cs)
    go true is next = record { first = b ∷ []; others = lines (c ∷ cs); are = rw is; front = refl }
    go false is next = record { first = b ∷ next.first; others = next.others; are = rw is (ap (with_byte b) next.are); front = ap (λ l. b ∷ l) next.front }

module _ (room : ℕ) (rest : List ℕ) where
  -- a piece of a line's length that is accepted is the first line
  pub first_line : line_accepted_in room (take (line_size_in room) rest) ≡ true → lines rest ≡ take (line_size_in room) rest ∷ lines (drop (line_size_in room) rest)
  first_line good =
      let line : List ℕ = take (line_size_in room) rest in
      let digits : List ℕ = take (digits_size_in room) line in
      let behind : List ℕ = drop (line_size_in room) rest in
      let whole : digits ++ newline ∷ [] ≡ line = ap (λ l. digits ++ l) (sym (line_ends room line good)) ∙ take-append-drop (digits_size_in room) line in
      let parts : digits ++ newline ∷ behind ≡ rest = sym (append_assoc digits (newline ∷ []) behind) ∙ ap (λ l. l ++ behind) whole ∙ take-append-drop (line_size_in room) rest in
      ap lines (sym parts) ∙ digits_line digits behind (line_spelled room line good) ∙ ap (λ l. l ∷ lines behind) whole

-- and if it is not, neither is the first line
pub record NotALine (room : ℕ) (rest : List ℕ) : Type 0 where
  pub first : List ℕ
  pub others : List (List ℕ)
  pub are : lines rest ≡ first ∷ others
  pub wrong : line_accepted_in room first ≡ false

pub not_a_line : (room : ℕ) (rest : List ℕ) → 0 < length rest → line_accepted_in room (take (line_size_in room) rest) ≡ false → NotALine room rest
not_a_line room [] some bad = absurd (omega arith)
not_a_line room (b ∷ bs) some bad =
    let begins = begun b bs in
    record { first = begins.first; others = begins.others; are = begins.are; wrong = go begins (line_accepted_in room begins.first) refl }
  where
    go : (begins : Begun (b ∷ bs)) (t : Bool) → line_accepted_in room begins.first ≡ t → line_accepted_in room begins.first ≡ false
    go begins false is = is
    go begins true is =
        let same : take (line_size_in room) (b ∷ bs) ≡ begins.first = ap (λ n. take n (b ∷ bs)) (sym (line_long room begins.first is)) ∙ begins.front in
        absurd (false≢true (sym bad ∙ ap (line_accepted_in room) same ∙ is))
