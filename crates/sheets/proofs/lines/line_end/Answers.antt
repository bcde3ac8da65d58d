-- `sheets::lines::line_end` meets its contract: before the first newline stand the bytes of the line. Assumes nothing.
use Rattle.std.proofs.Common.{◌≡◌, ◌==◌, ℕ, suc, ◌+◌, ◌-◌, ◌≤◌, ◌<◌, List, [], ◌∷◌, length, take, drop, Bool, true, false, not, Some, None, cond, position, refl, sym, ap, ◌∙◌, arith, length-drop, take_all, ltb-false}
use Rattle.std.specs.List.{position_or_len}
use Rattle.rules.specs.Common.{when◌then◌else◌, front, run}
use Rattle.rules.proofs.Laws.Texts.{run_within}
use Rattle.printing.specs.Lines.{newline, in_line, line_end}
use Rattle.printing.proofs.Lines.{end_beyond}
use Rattle.sheets.proofs.lines.line_end.Goals as goal

-- the bytes of a line, counted
counted : (bytes : List ℕ) → position_or_len (λ b. b == newline) bytes ≡ front in_line bytes
unfolding front in_line when◌then◌else◌
counted [] = refl
counted (b ∷ bytes) = go (b == newline) (counted bytes)
  where
    go : (c : Bool) → position_or_len (λ b. b == newline) bytes ≡ front in_line bytes → cond (not c) (1 + position_or_len (λ b. b == newline) bytes) 0 ≡ (when not c then suc (front in_line bytes) else 0)
    go true e = refl
    go false e = omega arith

found : (b : Bool) {n k : ℕ} → Some n ≡ cond b (Some k) None → k ≡ n
found true e = cc
found false e = cc

none : (b : Bool) (k : ℕ) → None ≡ cond b (Some k) None → b ≡ false
none true k e = cc
none false k e = refl

module _ (sheet : List ℕ) (from : ℕ) where
  rest : take (length sheet - from) (drop from sheet) ≡ drop from sheet
  rest = take_all _ (drop from sheet) (omega (arith, length-drop from sheet))

  ended : {size : ℕ} → Some size ≡ position (λ b. b == newline) (take (length sheet - from) (drop from sheet)) → from + size ≡ line_end sheet from
  unfolding line_end run
  ended e = let there = rw rest at e in ap (λ n. from + n) (sym (found _ there) ∙ counted (drop from sheet))

  unended : from < length sheet → None ≡ position (λ b. b == newline) (take (length sheet - from) (drop from sheet)) → length sheet ≡ line_end sheet from
  unfolding line_end run
  unended h e =
      let there = rw rest at e in
      let long : length (drop from sheet) ≤ front in_line (drop from sheet) = rw (← counted (drop from sheet)) (ltb-false _ _ (none _ _ there)) in
      let within : from + front in_line (drop from sheet) ≤ length sheet = run_within in_line sheet from (omega arith) in
      omega (arith, length-drop from sheet)

pub returns-then-sheet-from : goal.returns-then-sheet-from
returns-then-sheet-from c = sym (end_beyond _ _ c.if-sheet-from.true)

pub returns-in-Some : goal.returns-in-Some
returns-in-Some c = ended _ _ c.in-Some.ensures

pub returns-in-None : goal.returns-in-None
returns-in-None c = unended _ _ c.if-sheet-from.false c.in-None.ensures
