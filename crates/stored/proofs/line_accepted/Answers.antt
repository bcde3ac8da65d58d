-- `stored::line_accepted` meets its contract: its length, its newline, and its digits. Assumes nothing.
use mathlib.Core.Bool.{true, false}
use mathlib.Core.Path.{◌≡◌, sym, ◌∙◌}
use Prim.Native.Nat.{◌-◌}
use native.Mathlib.Omega.{arith}
use lib.Dec.{eqb}
use lib.ListN.{length, get_or, length-take}
use borrow.Author.Tests.{eq-eqb, ne_eqb}
use Rattle.rules.proofs.Laws.Tests.{and_false}
use Rattle.stored.specs.Lines.{digits_size_in, line_size_in, line_accepted_in}
use Rattle.stored.proofs.line_accepted.Goals as goal

pub returns-then-line-size : goal.returns-then-line-size
unfolding line_accepted_in
returns-then-line-size c =
    let args = c.args in
    let wrong : eqb (length args.line.now) (line_size_in args.room) ≡ false = ne_eqb _ _ (λ e. c.if-line-size.true (e ∙ sym c.line_size-size.ensures)) in
    rw wrong

pub returns-then-line-digits-ne-NEWLINE : goal.returns-then-line-digits-ne-NEWLINE
unfolding line_accepted_in
returns-then-line-digits-ne-NEWLINE c =
    let args = c.args in
    let digits : c.line_size-size.result - 1 ≡ digits_size_in args.room = omega (arith, c.line_size-size.ensures) in
    let wrong : eqb (get_or args.line.now (digits_size_in args.room) 0) 10 ≡ false = rw (← digits) (ne_eqb _ _ c.if-line-digits-ne-NEWLINE.true) in
    rw (wrong, and_false)

pub slice_bounds-spells-end : goal.slice_bounds-spells-end
slice_bounds-spells-end c = simp length-take (omega arith)

pub returns : goal.returns
unfolding line_accepted_in
returns c =
    let args = c.args in
    let size = c.line_size-size in
    let digits : size.result - 1 ≡ digits_size_in args.room = omega (arith, size.ensures) in
    let long : eqb (length args.line.now) (line_size_in args.room) ≡ true = eq-eqb _ _ (c.if-line-size.false ∙ size.ensures) in
    let ended : eqb (get_or args.line.now (digits_size_in args.room) 0) 10 ≡ true = rw (← digits) (eq-eqb _ _ c.if-line-digits-ne-NEWLINE.false) in
    rw (long, ended, ← digits) c.spells.ensures
