-- Laws of the lines of a sheet. Assumes nothing.
use Rattle.std.specs.Prelude.{◌≡◌, refl, Bool, true, List, [], ◌∷◌, ◌++◌, eqb, length, get_or}
use Rattle.std.proofs.Common.{sym, ◌∙◌, append_assoc, append-nil, zero-add, suc-add, le_of_suc-le-suc, not-suc-le-zero, length-append, drop-drop, get_or-drop}
use Rattle.std.proofs.Math.Path.{ap, ap₂}
use Rattle.std.proofs.Math.Bool.{false, not, not-not}
use Prim.Native.Nat.{ℕ, suc, ◌+◌, ◌-◌, ◌≤◌, ◌<◌, zero-le, suc-le-suc}
use native.Mathlib.Omega.{arith}
use borrow.Author.Tests.{eq-eqb, ne_eqb, eqb-true}
use Rattle.std.proofs.Math.ListN.{take, drop, length-drop}
use Rattle.std.proofs.Math.Seq.{take-append-add, drop-append-add}
use Rattle.rules.specs.Common.{when◌then◌else◌, all, front, run}
use Rattle.rules.proofs.Laws.Choices.{and_both, all_first, all_others}
use Rattle.rules.proofs.Laws.Texts.{sees_here, sees_end, run_more, run_stop, run_from, run_within}
use Rattle.printing.specs.Lines.{newline, in_line, before_first, lines, line_end, line_at, Whole}

-- ---- where a line ends: where it ends from the next place on, unless a newline stands here or nothing

module _ (sheet : List ℕ) (place : ℕ) where
  pub end_beyond : length sheet ≤ place → line_end sheet place ≡ place
  unfolding line_end
  end_beyond h = run_stop in_line sheet place (sees_end in_line sheet place h)

  module _ (h : place < length sheet) where
    pub end_here : get_or sheet place 0 ≡ newline → line_end sheet place ≡ place
    unfolding line_end in_line
    end_here e = run_stop in_line sheet place (sees_here in_line sheet place h ∙ ap not (eq-eqb (get_or sheet place 0) newline e))

    pub end_further : (get_or sheet place 0 ≡ newline → ⊥) → line_end sheet place ≡ line_end sheet (place + 1)
    unfolding line_end in_line
    end_further e = run_more in_line sheet place (sees_here in_line sheet place h ∙ ap not (ne_eqb (get_or sheet place 0) newline e))

  pub end_from : place ≤ line_end sheet place
  unfolding line_end
  end_from = run_from in_line sheet place

  pub end_within : place ≤ length sheet → line_end sheet place ≤ length sheet
  unfolding line_end
  end_within h = run_within in_line sheet place h

-- ---- the first line, and the lines behind it

pub lines_first : (sheet : List ℕ) → 0 < length sheet → lines sheet ≡ take (front in_line sheet) sheet ∷ lines (drop (suc (front in_line sheet)) sheet)
unfolding lines front before_first when◌then◌else◌
lines_first [] h = absurd (not-suc-le-zero h)
lines_first (b ∷ rest) h = go (in_line b) refl rest (λ k. lines_first rest k)
  where
    go :
        (c : Bool)
        → in_line b ≡ c
        → (rest : List ℕ)
        → (0 < length rest → lines rest ≡ take (front in_line rest) rest ∷ lines (drop (suc (front in_line rest)) rest))
        → lines (b ∷ rest) ≡ take (front in_line (b ∷ rest)) (b ∷ rest) ∷ lines (drop (suc (front in_line (b ∷ rest))) (b ∷ rest))
    go false e rest more = rw e
    go true e [] more = rw e
    go true e (d ∷ rest) more = rw (e, more (suc-le-suc zero-le))

module _ (sheet : List ℕ) (place : ℕ) (h : place < length sheet) where
  -- the line from a place on, and the lines behind it
  pub lines_at : lines (drop place sheet) ≡ line_at sheet place ∷ lines (drop (line_end sheet place + 1) sheet)
  unfolding line_end run
  lines_at =
      let size : ℕ = front in_line (drop place sheet) in
      let line : place + size - place ≡ size = omega arith in
      let behind : place + suc size ≡ place + size + 1 = omega arith in
      lines_first (drop place sheet) (omega (arith, length-drop place sheet))
      ∙ ap₂ (λ n rest. take n (drop place sheet) ∷ lines rest) (sym line) (drop-drop (suc size) place sheet ∙ ap (λ n. drop n sheet) behind)

-- ---- a line, and what stands behind it

front_clean : (line : List ℕ) → all in_line line ≡ true → (rest : List ℕ) → front in_line (line ++ rest) ≡ length line + front in_line rest
unfolding front when◌then◌else◌
front_clean [] e rest = sym (zero-add (front in_line rest))
front_clean (b ∷ line) e rest = rw (all_first in_line b line e, front_clean line (all_others in_line b line e) rest, suc-add)

module _ (line : List ℕ) (clean : all in_line line ≡ true) (rest : List ℕ) where
  -- it goes on in what stands behind it, up to the next newline
  pub line_goes_on : 0 < length line → lines (line ++ rest) ≡ (line ++ take (front in_line rest) rest) ∷ lines (drop (suc (front in_line rest)) rest)
  line_goes_on some =
      let size : ℕ = front in_line rest in
      let behind : suc (length line + size) ≡ length line + suc size = omega arith in
      lines_first (line ++ rest) (omega (arith, length-append line rest))
      ∙ ap (λ n. take n (line ++ rest) ∷ lines (drop (suc n) (line ++ rest))) (front_clean line clean rest)
      ∙ ap₂ (λ first others. first ∷ lines others) (take-append-add line rest size) (ap (λ n. drop n (line ++ rest)) behind ∙ drop-append-add line rest (suc size))

-- a line, a newline and a rest
pub line_then : (line : List ℕ) → all in_line line ≡ true → (rest : List ℕ) → lines (line ++ newline ∷ rest) ≡ line ∷ lines rest
unfolding lines in_line before_first when◌then◌else◌
line_then [] e rest = refl
line_then (b ∷ line) e rest = rw (all_first in_line b line e, line_then line (all_others in_line b line e) rest)

-- a last line without newline counts, unless it is empty
pub line_last : (line : List ℕ) → all in_line line ≡ true → 0 < length line → lines line ≡ line ∷ []
unfolding lines front
line_last line e some = ap lines (sym (append-nil line)) ∙ line_goes_on line e [] some ∙ ap (λ l. l ∷ []) (append-nil line)

-- a newline cuts the sheet: what stands behind it begins a line
pub newline_cuts : (sheet rest : List ℕ) → lines (sheet ++ newline ∷ rest) ≡ lines (sheet ++ newline ∷ []) ++ lines rest
unfolding lines in_line before_first when◌then◌else◌
newline_cuts [] rest = refl
newline_cuts (b ∷ sheet) rest = go (in_line b) refl (newline_cuts sheet rest)
  where
    some : 0 < length (sheet ++ newline ∷ [])
    some = omega (arith, length-append sheet (newline ∷ []))

    go :
        (c : Bool)
        → in_line b ≡ c
        → lines (sheet ++ newline ∷ rest) ≡ lines (sheet ++ newline ∷ []) ++ lines rest
        → lines (b ∷ sheet ++ newline ∷ rest) ≡ lines (b ∷ sheet ++ newline ∷ []) ++ lines rest
    go false e more = rw (e, more)
    go true e more = rw (e, more, lines_first (sheet ++ newline ∷ []) some)

-- ---- a line in a sheet: no newline stands in it, and one behind it, unless the sheet ends

front_all : (sheet : List ℕ) → all in_line (take (front in_line sheet) sheet) ≡ true
unfolding all front when◌then◌else◌
front_all [] = refl
front_all (b ∷ rest) = go (in_line b) refl (front_all rest)
  where
    go : (c : Bool) → in_line b ≡ c → all in_line (take (front in_line rest) rest) ≡ true → all in_line (take (front in_line (b ∷ rest)) (b ∷ rest)) ≡ true
    go true e more = rw e (and_both e more)
    go false e more = rw e

front_stops : (sheet : List ℕ) → front in_line sheet < length sheet → in_line (get_or sheet (front in_line sheet) 0) ≡ false
unfolding front when◌then◌else◌
front_stops [] h = absurd (not-suc-le-zero h)
front_stops (b ∷ rest) h = go (in_line b) refl (front_stops rest) h
  where
    go :
        (c : Bool)
        → in_line b ≡ c
        → (front in_line rest < length rest → in_line (get_or rest (front in_line rest) 0) ≡ false)
        → front in_line (b ∷ rest) < length (b ∷ rest)
        → in_line (get_or (b ∷ rest) (front in_line (b ∷ rest)) 0) ≡ false
    go true e more h = rw e (more (le_of_suc-le-suc (rw e at h)))
    go false e more h = rw e e

module _ (sheet : List ℕ) (place : ℕ) where
  pub end_line : all in_line (line_at sheet place) ≡ true
  unfolding line_end run
  end_line = let size : place + front in_line (drop place sheet) - place ≡ front in_line (drop place sheet) = omega arith in rw size (front_all (drop place sheet))

  pub end_newline : line_end sheet place < length sheet → get_or sheet (line_end sheet place) 0 ≡ newline
  unfolding line_end run in_line
  end_newline h =
      let stops : not (eqb (get_or sheet (place + front in_line (drop place sheet)) 0) newline) ≡ false =
      ap in_line (sym (get_or-drop place sheet (front in_line (drop place sheet)) 0)) ∙ front_stops (drop place sheet) (omega (arith, length-drop place sheet)) in
      eqb-true _ newline (sym (not-not _) ∙ ap not stops)

pub whole_nothing : Whole []
unfolding lines
whole_nothing rest = refl

pub whole_closed : (sheet : List ℕ) → Whole (sheet ++ newline ∷ [])
whole_closed sheet rest = ap lines (append_assoc sheet (newline ∷ []) rest) ∙ newline_cuts sheet rest
