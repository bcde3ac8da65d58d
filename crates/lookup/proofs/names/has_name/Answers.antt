-- `lookup::names::has_name` meets its contract: another word, another size, or the bytes behind the first word decide. Assumes nothing.
use mathlib.Core.Path.{◌≡◌, sym, ap₂, ◌∙◌}
use mathlib.Core.Bool.{◌&&◌}
use Prim.Native.Nat.{◌+◌, ◌-◌, ◌≤◌}
use native.Mathlib.Omega.{arith}
use lib.Dec.{eqb}
use lib.ListN.{length, get_or, drop, length-drop}
use lib.Seq.{take_all}
use borrow.Author.Tests.{eq-eqb, ne_eqb}
use Rattle.rules.specs.Common.{same}
use Rattle.rules.specs.SettingsAndUnitTable.{name_room, name_size, name}
use Rattle.rows.specs.Laws.Rooms.{word_of, size_most, told_by_word, no_longer, behind_word}
use Rattle.lookup.specs.Laws.Names.{same_is}
use Rattle.lookup.proofs.names.has_name.Goals as goal
use Rattle.lookup.proofs.names.has_name.Goals.{After-word_at}

-- the three that decide
told :
    (c : After-word_at)
    → let args = c.args in
    same (name args.row.now) args.wanted.now
    ≡ (eqb c.word_at.result args.first
    && (eqb (get_or args.row.now 0 0) (length args.wanted.now) && same (drop 8 (name args.row.now)) (drop 8 args.wanted.now)))
unfolding word_of name_size
told c =
    rw (c.word_at.ensures, c.requires.first_value)
    (told_by_word c.args.row.now c.args.wanted.now c.requires.row_len.0 c.requires.row_len.1 (λ k. (c.shared_slice_known-1.given k).fits) (λ k. (c.shared_slice_known-2-1.given k).fits))

-- the row has room for the name
fits : (c : After-word_at) → get_or c.args.row.now 0 0 ≤ name_room
unfolding name_size
fits c = size_most c.args.row.now c.requires.row_len.0 c.requires.row_len.1

pub returns-then-word_at-first : goal.returns-then-word_at-first
returns-then-word_at-first c = rw (told (goal.at.returns-then-word_at-first c).After-word_at, ne_eqb _ _ c.if-word_at-first.true)

pub returns-then-size-wanted : goal.returns-then-size-wanted
returns-then-size-wanted c = rw (told (goal.at.returns-then-size-wanted c).After-word_at, eq-eqb _ _ c.if-word_at-first.false, ne_eqb _ _ c.if-size-wanted.true)

pub returns-then-size-le-WORD : goal.returns-then-size-le-WORD
unfolding name_size
returns-then-size-le-WORD c =
    rw (
      told (goal.at.returns-then-size-le-WORD c).After-word_at,
      eq-eqb _ _ c.if-word_at-first.false,
      eq-eqb _ _ c.if-size-wanted.false,
      no_longer c.args.row.now c.args.wanted.now c.requires.row_len.0 c.requires.row_len.1 (λ k. (c.shared_slice_known-1.given k).fits) (λ k. (c.shared_slice_known-2-1.given k).fits) c.if-size-le-WORD.true (omega (arith, c.if-size-le-WORD.true, c.if-size-wanted.false)),
    )

-- the parts that are held against each other
pub returns : goal.returns
unfolding name_size
returns c =
    let row = c.args.row.now in
    let wanted = c.args.wanted.now in
    let counted : 1 + get_or row 0 0 - 9 ≡ get_or row 0 0 - 8 = omega arith in
    rw (told (goal.at.returns c).After-word_at, eq-eqb _ _ c.if-word_at-first.false, eq-eqb _ _ c.if-size-wanted.false)
    (c.eq.ensures
    ∙ same_is _ _
    ∙ ap₂ same
    (rw counted (sym (behind_word row (omega (arith, c.if-size-le-WORD.false)))))
    (take_all (length wanted - 8) (drop 8 wanted) (simp length-drop (omega arith))))

pub slice_bounds-eq-end : goal.slice_bounds-eq-end
slice_bounds-eq-end c = omega (arith, fits (goal.at.slice_bounds-eq-end c).After-word_at, c.requires.row_len.0)
