-- `card::row::padded` meets its contract: the size, what stands behind the name in the word that it ends in, and the words after it. Assumes nothing.
use mathlib.Core.Path.{◌≡◌}
use mathlib.Core.Bool.{◌&&◌}
use Prim.Native.Nat.{◌+◌, ◌*◌, ◌-◌, ◌/◌, ◌%◌, ◌^◌, ◌<◌}
use native.Mathlib.Omega.{arith}
use lib.Dec.{eqb}
use lib.ListN.{get_or, take, drop}
use borrow.Author.Tests.{eq-eqb, ne_eqb}
use Rattle.rules.specs.Common.{all}
use Rattle.rules.specs.SettingsAndUnitTable.{kind_at, name_size}
use Rattle.rules.proofs.Laws.Tests.{between_in, between_below, between_above}
use Rattle.rows.specs.Named.{padded}
use Rattle.rows.specs.Laws.Rooms.{word_of, zeros_behind, zeros_none}
use Rattle.card.proofs.row.padded.Goals as goal
use Rattle.card.proofs.row.padded.Goals.{After-word_at}

pub returns-then-size-lt1 : goal.returns-then-size-lt1
unfolding padded name_size
returns-then-size-lt1 c = rw (between_below 1 32 _ c.if-size-lt1.true)

pub returns-then-size-gt-NAME_ROOM : goal.returns-then-size-gt-NAME_ROOM
unfolding padded name_size
returns-then-size-gt-NAME_ROOM c = rw (between_above 1 32 _ c.if-size-gt-NAME_ROOM.true)

pub returns-then-size-eq-NAME_ROOM : goal.returns-then-size-eq-NAME_ROOM
unfolding padded name_size
returns-then-size-eq-NAME_ROOM c = rw (between_in 1 32 _ c.if-size-lt1.false c.if-size-gt-NAME_ROOM.false, zeros_none c.args.row.now c.if-size-eq-NAME_ROOM.true)

-- the zeros behind the name: those of the word that it ends in, and those after that word
behind :
    (c : After-word_at)
    → let row = c.args.row.now in
    let size = get_or row 0 0 in
    let last = 1 + (size - size % 8) in
    padded row ≡ (eqb (c.word_at.result / 2 ^ (8 * (size % 8))) 0 && all (eqb 0) (take (kind_at - (last + 8)) (drop (last + 8) row)))
unfolding padded name_size word_of
behind c =
    let row = c.args.row.now in
    let size = get_or row 0 0 in
    let short : size < 32 = omega (arith, c.if-size-eq-NAME_ROOM.false, c.if-size-gt-NAME_ROOM.false) in
    rw (
      between_in 1 32 size c.if-size-lt1.false c.if-size-gt-NAME_ROOM.false,
      zeros_behind row (λ k. (c.shared_slice_known-1.given k).fits) (1 + (size - size % 8)) (size % 8) (omega arith) (omega arith) (omega arith),
      c.word_at.ensures,
    )

pub returns-then-word_at-over-ne0 : goal.returns-then-word_at-over-ne0
unfolding padded name_size word_of
returns-then-word_at-over-ne0 c = rw (behind (goal.at.returns-then-word_at-over-ne0 c).After-word_at, ne_eqb _ _ c.if-word_at-over-ne0.true)

pub returns : goal.returns
unfolding padded name_size word_of
returns c = rw (behind (goal.at.returns c).After-word_at, eq-eqb _ _ c.if-word_at-over-ne0.false) c.zero_words.ensures

pub zero_words-requires : goal.zero_words-requires
zero_words-requires c = (c.requires, omega arith)
