-- `mover::checked::line_stands` meets its contract: the first test that fails decides. Assumes nothing.
use mathlib.Core.Bool.{true, ◌&&◌}
use mathlib.Core.Path.{◌≡◌, refl, sym, ap, ◌∙◌}
use Prim.Native.Nat.{◌+◌, ◌*◌, ◌-◌}
use native.Mathlib.Omega.{arith}
use lib.Dec.{eqb}
use lib.ListN.{length, take, drop}
use borrow.Author.Tests.{not-true, not-false}
use Rattle.rules.specs.Common.{all}
use Rattle.rules.proofs.Laws.Tests.{between_in, between_below, between_above}
use Rattle.stored.specs.Lines.{line_size_in, line_accepted_in}
use Rattle.stored.specs.Laws.{line_long}
use Rattle.moves.specs.NamesLongerThanSixteenBytes.{line_stands}
use Rattle.moves.specs.Laws.Digits.{zero_digit, told}
use Rattle.moves.proofs.Laws.Digits.{stands_nowhere}
use Rattle.mover.specs.Parts.{zeros_decide}
use Rattle.std.proofs.Common.{not}
use Rattle.mover.proofs.checked.line_stands.Goals as goal
use Rattle.mover.proofs.checked.line_stands.Goals.{After-digits_up_to-room_end, Else-not-line_accepted}

-- behind the first test the line is accepted, and so as long as a line of the form
accepted : (c : Else-not-line_accepted) → line_accepted_in c.args.room.bytes c.args.line.now ≡ true
accepted c = sym c.line_accepted.ensures ∙ not-false _ (ap not c.if-not-line_accepted.false)

whole : (c : Else-not-line_accepted) → length c.args.line.now ≡ line_size_in c.args.room.bytes
whole c = line_long _ _ (accepted c)

-- behind the tests of the name's length the zeros decide
decided :
    (c : After-digits_up_to-room_end)
    → let line = c.args.line.now in
    let end = length line - 1 in
    let name_end = c.digits_up_to-name_end.result in
    line_stands c.args.room.bytes line
    ≡ (all (eqb zero_digit) (take (c.digits_up_to-room_end.result - name_end) (drop name_end line)) && all (eqb zero_digit) (take (end - (end - 8)) (drop (end - 8) line)))
decided c =
    let inside = between_in 1 c.args.room.bytes (told c.args.line.now) (rw c.name_size-size.ensures at c.if-size-lt1.false) (rw c.name_size-size.ensures at c.if-size-room.false) in
    zeros_decide
    c.args.room.bytes
    c.args.line.now
    c.digits_up_to-name_end.result
    c.digits_up_to-room_end.result
    (length c.args.line.now - 1)
    (accepted (goal.at.slice_bounds-zeros-end c).Else-not-line_accepted)
    inside
    (c.digits_up_to-name_end.ensures ∙ ap (λ n. 2 * (1 + n)) c.name_size-size.ensures)
    c.digits_up_to-room_end.ensures
    refl

pub returns-then-not-line_accepted : goal.returns-then-not-line_accepted
unfolding line_stands
returns-then-not-line_accepted c = rw (← c.line_accepted.ensures, not-true c.line_accepted.result (ap not c.if-not-line_accepted.true))

pub returns-then-size-lt1 : goal.returns-then-size-lt1
returns-then-size-lt1 c = sym (stands_nowhere _ _ (accepted (goal.at.returns-then-size-lt1 c).Else-not-line_accepted) (between_below 1 _ _ (rw c.name_size-size.ensures at c.if-size-lt1.true)))

pub returns-then-size-room : goal.returns-then-size-room
returns-then-size-room c = sym (stands_nowhere _ _ (accepted (goal.at.returns-then-size-room c).Else-not-line_accepted) (between_above 1 _ _ (rw c.name_size-size.ensures at c.if-size-room.true)))

pub returns-then-not-zeros : goal.returns-then-not-zeros
returns-then-not-zeros c = sym (decided (goal.at.returns-then-not-zeros c).After-digits_up_to-room_end ∙ rw (← c.zeros.ensures, not-true c.zeros.result (ap not c.if-not-zeros.true)))

pub returns : goal.returns
returns c =
    sym
    (decided (goal.at.returns c).After-digits_up_to-room_end
    ∙ rw (← c.zeros.ensures, not-false c.zeros.result (ap not c.if-not-zeros.false)) (sym c.zeros-2.ensures))

pub name_size-size-requires : goal.name_size-size-requires
name_size-size-requires c = omega (arith, whole c)

pub slice_bounds-zeros-end : goal.slice_bounds-zeros-end
slice_bounds-zeros-end c = omega (arith, whole (goal.at.slice_bounds-zeros-end c).Else-not-line_accepted)

pub overflow_sub-end : goal.overflow_sub-end
overflow_sub-end c = omega (arith, whole (goal.at.overflow_sub-end c).Else-not-line_accepted)

pub overflow_sub-last : goal.overflow_sub-last
overflow_sub-last c = omega (arith, whole (goal.at.overflow_sub-last c).Else-not-line_accepted)
