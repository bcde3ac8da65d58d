-- Parts of a line as the code has them, by where each starts and ends: which of them are zeros, and what they come to, one laid behind another.
-- Assumes nothing.
use Rattle.std.specs.Prelude.{◌≡◌, refl, Bool, true, ◌&&◌, List, [], ◌∷◌, ◌++◌, ℕ, ◌+◌, ◌*◌, ◌-◌, ◌≤◌, ◌<◌, eqb, length, take, drop, set, replicate}
use borrow.Rule.Slice.PartMut.{put_mid}
use Rattle.std.proofs.Math.Seq.{drop-drop}
use Rattle.std.proofs.Common.{sym, ap, ◌∙◌, arith, append_assoc, length-append, length-drop, take_all, length-take-le}
use Rattle.std.proofs.lemmas.List.{length-replicate}
use Rattle.std.specs.List.{list_all}
use Rattle.std.proofs.lemmas.List.Recursion.{same_from_clauses}
use Rattle.rules.specs.Common.{between, all}
use Rattle.rules.specs.SettingsAndUnitTable.{zeros_at_in}
use Rattle.rules.proofs.Laws.Tests.{between_to}
use Rattle.stored.specs.Lines.{line_size_in, line_accepted_in}
use Rattle.stored.specs.Laws.{line_long}
use Rattle.writing.specs.Laid.{laid, laid_then, laid_byte}
use Rattle.moves.specs.NamesLongerThanSixteenBytes.{line_stands}
use Rattle.moves.specs.Laws.Digits.{zero_digit, told}
use Rattle.moves.proofs.Laws.Digits.{stands_by_zeros, moved_digits}
use Rattle.moves.specs.Laws.Moves.{line_moves, moved_line}
use Rattle.moves.proofs.Laws.Moves.{moves_stand, moves_fit, stands_accepted, stands_small}

-- ---- zeros

-- what the library says of a test of each element
pub all_of : (test : ℕ → Bool) (l : List ℕ) → list_all test l ≡ all test l
unfolding all
all_of test l = same_from_clauses (list_all test) (all test) (λ b others. test b && others) refl (λ _ _. refl) (λ _ _. refl) l

pub zeros_decide :
    (room : ℕ) (line : List ℕ) (name_end room_end end : ℕ)
    → line_accepted_in room line ≡ true
    → between 1 room (told line) ≡ true
    → name_end ≡ 2 * (1 + told line)
    → room_end ≡ 2 * (1 + room)
    → end ≡ length line - 1
    → line_stands room line ≡ (all (eqb zero_digit) (take (room_end - name_end) (drop name_end line)) && all (eqb zero_digit) (take (end - (end - 8)) (drop (end - 8) line)))
zeros_decide room line name_end room_end end good inside named roomed ended =
    let small : told line ≤ room = between_to 1 room (told line) inside in
    let after : room_end - name_end ≡ 2 * (room - told line) = omega arith in
    let last : end - 8 ≡ 2 * zeros_at_in room = omega (arith, line_long room line good) in
    let four : end - (end - 8) ≡ 8 = omega (arith, line_long room line good) in
    rw (after, named, four, last) (stands_by_zeros room line good inside)

-- ---- bytes laid over a target

-- a byte more
pub laid_turn : (before target bytes more : List ℕ) (at i b : ℕ) → target ≡ laid before at bytes → length bytes ≡ i → more ≡ bytes ++ b ∷ [] → at + i < length before → set target (at + i) b ≡ laid before at more
laid_turn before target bytes more at i b so_far long one h = rw (so_far, one) (laid_byte before at (at + i) bytes b (ap (λ n. at + n) (sym long)) h)

-- a part of a target, written anew
pub part_laid : (a k : ℕ) (target part bytes : List ℕ) → part ≡ bytes → k ≡ length bytes → put_mid a k target part ≡ laid target a bytes
unfolding laid
part_laid a k target part bytes same long =
    rw (same, long)
    (ap (λ l. take a target ++ (bytes ++ l)) (drop-drop (length bytes) a target) ∙ sym (append_assoc (take a target) bytes (drop (a + length bytes) target)))

-- the parts of a moved line
pub laid_line :
    (from to : ℕ) (line target : List ℕ) (at name_end room_end new_end : ℕ)
    → line_moves from to line ≡ true
    → name_end ≡ 2 * (1 + told line)
    → room_end ≡ 2 * (1 + from)
    → new_end ≡ 2 * (1 + to)
    → at + line_size_in to ≤ length target
    → laid (laid (laid target at (take name_end line)) (at + name_end) (replicate (at + new_end - (at + name_end)) zero_digit)) (at + new_end) (take (length line - room_end) (drop room_end line)) ≡ laid target at (moved_line from to line)
unfolding moved_line
laid_line from to line target at name_end room_end new_end right named roomed newed enough =
    let good : line_accepted_in from line ≡ true = stands_accepted from line (moves_stand from to line right) in
    let small : told line ≤ from = stands_small from line (moves_stand from to line right) in
    let fits : told line ≤ to = moves_fit from to line right in
    let head : List ℕ = take name_end line in
    let zeros : List ℕ = replicate (at + new_end - (at + name_end)) zero_digit in
    let fields : List ℕ = take (length line - room_end) (drop room_end line) in
    let head_long : length head ≡ name_end = length-take-le name_end line (omega (arith, line_long from line good)) in
    let both_long : length (head ++ zeros) ≡ new_end = simp (length-append, length-replicate) (omega arith) in
    let count : at + new_end - (at + name_end) ≡ 2 * (to - told line) = omega arith in
    let whole : fields ≡ drop room_end line = take_all (length line - room_end) (drop room_end line) (simp length-drop (omega arith)) in
    ap (λ l. laid l (at + new_end) fields) (laid_then target at (at + name_end) head zeros (omega arith) (omega arith))
    ∙ laid_then target at (at + new_end) (head ++ zeros) fields (omega arith) (omega arith)
    ∙ ap (laid target at) (rw (whole, count, named, roomed) (sym (moved_digits from line good to small)))
