-- A row replaced: the table's other rows stay, the new one may come in or not, and the index is changed with it. Assumes nothing.
use Rattle.std.specs.Prelude.{◌≡◌, Bool, List, [], ◌∷◌, ◌++◌, ◌≢◌, eqb, ltb, length, set}
use Rattle.std.proofs.Math.Path.{refl, ap}
use Rattle.std.proofs.Common.{sym, ◌∙◌, ⊎_elim, add-one, arith, length-set, length-drop, length-append, get_or-set_same, get_or-set_other, ext_get_or, eqb-true, eq-eqb, ltb-true, ltb-false}
use Rattle.std.proofs.Math.Bool.{true, false, false≢true}
use Prim.Native.Nat.{ℕ, suc, ◌+◌, ◌*◌, ◌-◌, ◌/◌, ◌%◌, ◌≤◌, ◌<◌}
use Rattle.std.proofs.Math.ListN.{get_or, take, drop, length-take, get_or-append}
use Rattle.std.proofs.Math.Seq.{get_or-take, get_or-drop, get_or-append-add, take_all, drop-drop}
use Rattle.std.specs.List.{remove}
use Rattle.std.proofs.lemmas.List.Edits.{length-remove}
use borrow.Rule.Slice.PartMut.{put_mid}
use Rattle.std.proofs.lemmas.Bool.{eqb-false}
use Rattle.rules.specs.declared.Settings.{Settings}
use Rattle.rules.specs.declared.Refusal.TheVariants.{TableSize, BadRow}
use Rattle.rules.specs.Common.{when◌then◌else◌}
use Rattle.rules.specs.NumbersHandedBack.{Outcome, got, refused, ◌>>◌, unless}
use Rattle.rules.specs.SettingsAndUnitTable.{row_size, rows, rows_in, row, row_in, name, row_accepted, whole_rows_in, rows_check, table_check}
use Rattle.rows.specs.Laws.Rows.{length_row}
use Rattle.card.specs.declared.row.RowRule.{RowRule}
use Rattle.rows.specs.Named.{padded}
use Rattle.card.specs.Fields.{alone, ruled, tested, tabled}
use Rattle.card.specs.Laws.Table.{ruled_alone, right_padded}
use Rattle.card.specs.Laws.Accepted.{UnitsGood, units_good, units_accepted, own_name, rows_right}
use Rattle.rules.proofs.Laws.Choices.{and_left}
use Rattle.index.specs.TheSortedIndex.{with_row, passes, may_replace, index_of}
use Rattle.index.proofs.Laws.Counts.{skip, skipped, skip_rises, skip_most}
use Rattle.index.proofs.Laws.Order.{never_before}
use Rattle.index.specs.Laws.Right.{entry, entry_name, Right, Rising, Own}
use Rattle.index.proofs.Laws.Right.{right_rising, stands_at, different, rising_right, right_only}
use Rattle.rules.specs.Laws.Lists.{Bytes}
use Rattle.sorted.specs.Climbing.{unnamed_below}
use Rattle.sorted.specs.Sifting.{Sifting, Sifted}

-- another row than this one has the new row's name; none has
abbrev pub Elsewhere : List ℕ → ℕ → List ℕ → Type 0
Elsewhere table i new = (j : ℕ) × (j < rows table) × (j ≢ i) × (name (row table j) ≡ name new)

abbrev pub NotElsewhere : List ℕ → ℕ → List ℕ → Type 0
NotElsewhere table i new = (j : ℕ) → j < rows table → j ≢ i → name (row table j) ≡ name new → ⊥

-- a row stands at an entry
abbrev pub Stands : List ℕ → ℕ → Type 0
Stands index i = (k : ℕ) × (k < length index) × (get_or index k 0 ≡ i)

-- the entry at a place is the last now, and the others are in their order
pub record Moved (index : List ℕ) (at : ℕ) (moved : List ℕ) : Type 0 where
  pub long : length moved ≡ length index
  pub others : (k : ℕ) → k + 1 < length index → entry moved k ≡ entry index (skip at k)
  pub last : entry moved (length index - 1) ≡ entry index at

-- ---- the table with the new row

module _ (table : List ℕ) (i : ℕ) (new : List ℕ) (below : i < rows table) (sized : length new ≡ row_size) where
  front_long : length (take (row_size * i) table) ≡ row_size * i
  unfolding rows_in
  front_long = simp length-take (omega arith)

  pub with_long : length (with_row table i new) ≡ length table
  unfolding with_row rows_in
  with_long = simp (length-append, length-take, length-drop) (omega arith)

  pub with_rows : rows (with_row table i new) ≡ rows table
  unfolding rows_in
  with_rows = ap (λ n. n / row_size) with_long

  -- its bytes: the new row's, and outside of it the table's
  inside : (k : ℕ) → k < row_size → get_or (with_row table i new) (row_size * i + k) 0 ≡ get_or new k 0
  unfolding with_row
  inside k less =
      ap (λ n. get_or (take (row_size * i) table ++ (new ++ drop (row_size * suc i) table)) (n + k) 0) (sym front_long)
      ∙ get_or-append-add (take (row_size * i) table) (new ++ drop (row_size * suc i) table) k 0
      ∙ get_or-append new (drop (row_size * suc i) table) 0 k (omega arith)

  ahead : (p : ℕ) → p < row_size * i → get_or (with_row table i new) p 0 ≡ get_or table p 0
  unfolding with_row
  ahead p less =
      get_or-append (take (row_size * i) table) (new ++ drop (row_size * suc i) table) 0 p (omega (arith, front_long))
      ∙ get_or-take (row_size * i) table p 0 less

  behind : (q : ℕ) → get_or (with_row table i new) (row_size * i + (row_size + q)) 0 ≡ get_or table (row_size * suc i + q) 0
  unfolding with_row
  behind q =
      ap (λ n. get_or (take (row_size * i) table ++ (new ++ drop (row_size * suc i) table)) (n + (row_size + q)) 0) (sym front_long)
      ∙ get_or-append-add (take (row_size * i) table) (new ++ drop (row_size * suc i) table) (row_size + q) 0
      ∙ ap (λ n. get_or (new ++ drop (row_size * suc i) table) (n + q) 0) (sym sized)
      ∙ get_or-append-add new (drop (row_size * suc i) table) q 0
      ∙ get_or-drop (row_size * suc i) table q 0

  row_at : (l : List ℕ) (j k : ℕ) → k < row_size → get_or (row l j) k 0 ≡ get_or l (row_size * j + k) 0
  unfolding row_in
  row_at l j k less = get_or-take row_size (drop (row_size * j) l) k 0 less ∙ get_or-drop (row_size * j) l k 0

  pub new_row : row (with_row table i new) i ≡ new
  new_row =
      ext_get_or 0 (row (with_row table i new) i) new (length_row (with_row table i new) i (rw with_rows below) ∙ sym sized)
      (λ k less.
      let few : k < row_size = omega (arith, length_row (with_row table i new) i (rw with_rows below)) in
      row_at (with_row table i new) i k few ∙ inside k few)

  pub old_row : (j : ℕ) → j < rows table → j ≢ i → row (with_row table i new) j ≡ row table j
  old_row j within other =
      ext_get_or 0 (row (with_row table i new) j) (row table j) (length_row (with_row table i new) j (rw with_rows within) ∙ sym (length_row table j within))
      (λ k less.
      let few : k < row_size = omega (arith, length_row (with_row table i new) j (rw with_rows within)) in
      row_at (with_row table i new) j k few ∙ byte k few (ltb j i) refl ∙ sym (row_at table j k few))
    where
      byte : (k : ℕ) → k < row_size → (t : Bool) → ltb j i ≡ t → get_or (with_row table i new) (row_size * j + k) 0 ≡ get_or table (row_size * j + k) 0
      byte k few true e = ahead (row_size * j + k) (omega (arith, ltb-true j i e))
      byte k few false e =
          let q : ℕ = row_size * (j - i - 1) + k in
          let there : row_size * i + (row_size + q) ≡ row_size * j + k = omega (arith, ltb-false j i e, other) in
          let here : row_size * suc i + q ≡ row_size * j + k = omega (arith, ltb-false j i e, other) in
          ap (λ n. get_or (with_row table i new) n 0) (sym there) ∙ behind q ∙ ap (λ n. get_or table n 0) here

  pub with_bytes : Bytes table → Bytes new → Bytes (with_row table i new)
  with_bytes bytes others p = go (ltb p (row_size * i)) refl (ltb p (row_size * i + row_size)) refl
    where
      go : (a : Bool) → ltb p (row_size * i) ≡ a → (b : Bool) → ltb p (row_size * i + row_size) ≡ b → get_or (with_row table i new) p 0 < 256
      go true e b f = rw (ahead p (ltb-true p (row_size * i) e)) (bytes p)
      go false e true f =
          let k : ℕ = p - row_size * i in
          let there : row_size * i + k ≡ p = omega (arith, ltb-false p (row_size * i) e) in
          rw (← there, inside k (omega (arith, ltb-true p (row_size * i + row_size) f))) (others k)
      go false e false f =
          let q : ℕ = p - (row_size * i + row_size) in
          let there : row_size * i + (row_size + q) ≡ p = omega (arith, ltb-false p (row_size * i + row_size) f) in
          rw (← there, behind q) (bytes (row_size * suc i + q))

-- ---- whether the new row may come in

pub passes_got : {m : Outcome (Unit {0})} → passes m ≡ true → m ≡ got tt
unfolding passes
passes_got {m = got tt} e = refl
passes_got {m = refused cause} e = absurd (false≢true e)

-- a row as a table of one row: what is found of it is whether it passes by itself
module _ (rule : RowRule) (new : List ℕ) (sized : length new ≡ row_size) {m : Outcome (Unit {0})} (found : m ≡ tabled TableSize 1 (tested rule false new) BadRow new) where
  one_row : m ≡ (when alone rule new then got tt else refused (BadRow 0))
  unfolding whole_rows_in rows_in rows_check unless ◌>>◌ row_in
  one_row =
      let all : take row_size (drop (row_size * 0) new) ≡ new = take_all row_size new (omega arith) in
      found ∙ rw (sized, all)

  pub one_decides : passes m ≡ alone rule new
  unfolding passes when◌then◌else◌
  one_decides = ap passes one_row ∙ go (alone rule new)
    where
      go : (t : Bool) → passes (when t then got tt else refused (BadRow 0)) ≡ t
      go true = refl
      go false = refl

-- in an accepted table each name finds its own row
pub units_own : (s : Settings) (table : List ℕ) → UnitsGood s table → Own table
units_own s table good i below = own_name s table i below (rows_right s table good i below)

module _
    (s : Settings) (rule : RowRule) (table : List ℕ) (i : ℕ) (new : List ℕ)
    (ruling : (t : List ℕ) → Bytes t → (j : ℕ) → ruled rule t j ≡ row_accepted s t j)
    (bytes : Bytes table) (others : Bytes new)
    (good : table_check s table ≡ got tt) (below : i < rows table) where
  units : UnitsGood s table
  unfolding table_check
  units = units_good TableSize BadRow s table good

  -- the rows that are there have passed
  pub padded_rows : (j : ℕ) → j < rows table → padded (row table j) ≡ true
  padded_rows j within = right_padded s table j (rows_right s table units j within)

  module _ (sized : length new ≡ row_size) where
    new_table : List ℕ
    new_table = with_row table i new

    decides : passes (table_check s new_table) ≡ may_replace s table i new
    unfolding may_replace new_table
    decides = rw (eq-eqb (length new) row_size sized)

    -- each row of an accepted table passes by itself
    by_itself : (t : List ℕ) → Bytes t → UnitsGood s t → (j : ℕ) → j < rows t → alone rule (row t j) ≡ true
    by_itself t its_bytes right j within = and_left _ _ (sym (ruled_alone rule t j) ∙ ruling t its_bytes j ∙ right.each j within)

    would_pass : passes (table_check s new_table) ≡ true → UnitsGood s new_table
    unfolding table_check
    would_pass e = units_good TableSize BadRow s new_table (passes_got e)

    -- refused for itself, and for its name
    refused_if : ((UnitsGood s new_table) → ⊥) → false ≡ may_replace s table i new
    refused_if never = go (passes (table_check s new_table)) refl
      where
        go : (t : Bool) → passes (table_check s new_table) ≡ t → false ≡ may_replace s table i new
        go true e = absurd (never (would_pass e))
        go false e = sym e ∙ decides

    pub fails_alone : alone rule new ≡ false → false ≡ may_replace s table i new
    unfolding new_table
    fails_alone fails =
        refused_if
        (λ right.
        false≢true
        (sym fails
        ∙ ap (alone rule) (sym (new_row table i new below sized))
        ∙ by_itself (with_row table i new) (with_bytes table i new below sized bytes others) right i (rw (with_rows table i new below sized) below)))

    pub fails_elsewhere : Elsewhere table i new → false ≡ may_replace s table i new
    unfolding new_table
    fails_elsewhere (j, within, other, e) =
        refused_if
        (λ right.
        other
        (different (with_row table i new) (units_own s (with_row table i new) right) j i (rw (with_rows table i new below sized) within) (rw (with_rows table i new below sized) below)
        (ap name (old_row table i new below sized j within other) ∙ e ∙ ap name (sym (new_row table i new below sized)))))

    -- else it may come in
    pub comes_in : alone rule new ≡ true → NotElsewhere table i new → true ≡ may_replace s table i new
    unfolding new_table table_check passes
    comes_in passes_alone nowhere = ap passes (sym (units_accepted TableSize BadRow s (with_row table i new) right)) ∙ decides
      where
        own : Own table
        own = units_own s table units

        apart :
            (k j : ℕ) → k < j → j < rows table → (a : Bool) → eqb k i ≡ a → (b : Bool) → eqb j i ≡ b
            → name (row (with_row table i new) k) ≡ name (row (with_row table i new) j) → ⊥
        apart k j less within true p true q e = omega (arith, eqb-true k i p, eqb-true j i q)
        apart k j less within true p false q e =
            nowhere j within (eqb-false j i q)
            (sym (ap name (old_row table i new below sized j within (eqb-false j i q)))
            ∙ sym e
            ∙ ap (λ n. name (row (with_row table i new) n)) (eqb-true k i p)
            ∙ ap name (new_row table i new below sized))
        apart k j less within false p true q e =
            nowhere k (omega arith) (eqb-false k i p)
            (sym (ap name (old_row table i new below sized k (omega arith) (eqb-false k i p)))
            ∙ e
            ∙ ap (λ n. name (row (with_row table i new) n)) (eqb-true j i q)
            ∙ ap name (new_row table i new below sized))
        apart k j less within false p false q e =
            let same_row : k ≡ j =
            different table own k j (omega arith) within
            (sym (ap name (old_row table i new below sized k (omega arith) (eqb-false k i p))) ∙ e ∙ ap name (old_row table i new below sized j within (eqb-false j i q)))
            in
            omega arith

        good_row : (j : ℕ) → j < rows table → (t : Bool) → eqb j i ≡ t → alone rule (row (with_row table i new) j) ≡ true
        good_row j within true e =
            ap (λ n. alone rule (row (with_row table i new) n)) (eqb-true j i e) ∙ ap (alone rule) (new_row table i new below sized) ∙ passes_alone
        good_row j within false e = ap (alone rule) (old_row table i new below sized j within (eqb-false j i e)) ∙ by_itself table bytes units j within

        right : UnitsGood s (with_row table i new)
        right = record {
          whole = ap (λ n. n % row_size) (with_long table i new below sized) ∙ units.whole;
          most = rw (with_rows table i new below sized) units.most;
          each = λ j within.
              let inside : j < rows table = rw (with_rows table i new below sized) at within in
              sym (ruling (with_row table i new) (with_bytes table i new below sized bytes others) j)
              ∙ rw (
                ruled_alone rule (with_row table i new) j,
                good_row j inside (eqb j i) refl,
                unnamed_below (with_row table i new) (name (row (with_row table i new) j)) j (λ k less. apart k j less inside (eqb k i) refl (eqb j i) refl),
              );
        }

-- ---- the index with the new row's entry

module _
    (table index : List ℕ) (i : ℕ) (new : List ℕ) (below : i < rows table) (sized : length new ≡ row_size)
    (right : Right table index) where
  rising : Rising table index
  rising = right_rising table index right

  pub stands : Stands index i
  stands = let (k, within, is) = stands_at table index right.long rising i below in (k, omega (arith, right.long), is)

  module _ {at : ℕ} (here : at < length index) (its_entry : entry index at ≡ i) {moved : List ℕ} (m : Moved index at moved) where
    -- entries at two places are two rows
    two_rows : (j k : ℕ) → j < length index → k < length index → j ≢ k → entry index j ≢ entry index k
    two_rows j k p q other e = go (ltb j k) refl
      where
        never : (a b : ℕ) → a < b → b < length index → entry index a ≡ entry index b → ⊥
        never a b less within is = never_before _ (rw is at (rising.rises a b less within))

        go : (t : Bool) → ltb j k ≡ t → ⊥
        go true less = never j k (ltb-true j k less) q e
        go false less = never k j (omega (arith, ltb-false j k less, other)) p (sym e)

    -- an entry but the last is another row
    other_entry : (k : ℕ) → k + 1 < length index → (entry moved k ≢ i) × (entry moved k < length index)
    other_entry k less =
        let place : skip at k < length index = omega (arith, skip_most at k) in (
          (λ e. two_rows (skip at k) at place here (skips k) (sym (m.others k less) ∙ e ∙ sym its_entry)),
          rw (m.others k less) (rising.within (skip at k) place),
        )
      where
        skips : (k : ℕ) → skip at k ≢ at
        skips k e = ⊎_elim (λ p. omega arith) (λ p. omega arith) (skipped at k)

    -- whose name is what it was
    other_name : (k : ℕ) → k + 1 < length index → entry_name (with_row table i new) moved k ≡ entry_name table index (skip at k)
    other_name k less =
        let (other, within) = other_entry k less in
        ap name (old_row table i new below sized (entry moved k) (omega (arith, right.long)) other) ∙ ap (λ n. name (row table n)) (m.others k less)

    pub moved_sifting : Sifting (with_row table i new) moved (length index - 1)
    moved_sifting = record {
      short = omega (arith, m.long, right.long, with_rows table i new below sized);
      here = omega (arith, m.long);
      within = λ k within. bounded k (omega (arith, m.long)) (ltb (k + 1) (length index)) refl;
      alone = λ k within other e. (other_entry k (omega (arith, m.long, other))).0 (e ∙ m.last ∙ its_entry);
      others = λ j k less within p q.
          let few : k + 1 < length index = omega (arith, m.long, q) in
          rw (other_name j (omega arith), other_name k few) (rising.rises (skip at j) (skip at k) (skip_rises at j k less) (omega (arith, skip_most at k)));
      later = λ k less within. absurd (omega (arith, m.long));
    }
      where
        bounded : (k : ℕ) → k < length index → (t : Bool) → ltb (k + 1) (length index) ≡ t → entry moved k < length moved
        bounded k within true e = omega (arith, m.long, (other_entry k (ltb-true (k + 1) (length index) e)).1)
        bounded k within false e =
            let last : k ≡ length index - 1 = omega (arith, ltb-false (k + 1) (length index) e) in
            rw (last, m.last, its_entry) (omega (arith, m.long, right.long))

    -- so the entry that has sunk leaves the index of the new table
    pub sunk : Own (with_row table i new) → {index_then : List ℕ} → Sifted (with_row table i new) moved index_then → index_then ≡ index_of (with_row table i new)
    sunk own {index_then} s =
        right_only (with_row table i new) own index_then
        (rising_right (with_row table i new) index_then (s.long ∙ m.long ∙ right.long ∙ sym (with_rows table i new below sized)) s.rising)

-- ---- an entry on its way to the end

pub record Moving (index : List ℕ) (at : ℕ) (now : List ℕ) (k : ℕ) : Type 0 where
  pub long : length now ≡ length index
  pub from : at ≤ k
  pub within : k < length index
  pub passed : (j : ℕ) → j < k → entry now j ≡ entry index (skip at j)
  pub ahead : (j : ℕ) → k ≤ j → entry now j ≡ entry index j

pub move_starts : (index : List ℕ) (at : ℕ) → at < length index → Moving index at index at
move_starts index at within = record {
  long = refl;
  from = omega arith;
  within = within;
  passed = λ j less. ⊎_elim (λ p. ap (entry index) (sym p.1)) (λ p. absurd (omega arith)) (skipped at j);
  ahead = λ j more. refl;
}

module _ {index : List ℕ} {at : ℕ} {now : List ℕ} {k : ℕ} (m : Moving index at now k) where
  pub move_next : k + 1 < length index → Moving index at (set now k (entry now (k + 1))) (k + 1)
  move_next less = record {
    long = length-set now k (entry now (k + 1)) ∙ m.long;
    from = omega (arith, m.from);
    within = less;
    passed = λ j under. moved j under (eqb j k) refl;
    ahead = λ j more. get_or-set_other now k j (entry now (k + 1)) 0 (λ e. omega arith) ∙ m.ahead j (omega arith);
  }
    where
      moved : (j : ℕ) → j < k + 1 → (t : Bool) → eqb j k ≡ t → entry (set now k (entry now (k + 1))) j ≡ entry index (skip at j)
      moved j under true e =
          let is : j ≡ k = eqb-true j k e in
          let next : skip at k ≡ k + 1 = ⊎_elim (λ p. absurd (omega (arith, m.from))) (λ p. p.1 ∙ sym (add-one k)) (skipped at k) in
          rw (is, next) (get_or-set_same now k (entry now (k + 1)) 0 (omega (arith, m.long, m.within)) ∙ m.ahead (k + 1) (omega arith))
      moved j under false e =
          get_or-set_other now k j (entry now (k + 1)) 0 (eqb-false j k e) ∙ m.passed j (omega (arith, eqb-false j k e))

  pub move_ends : length index - 1 ≤ k → Moved index at (set now (length index - 1) (entry index at))
  move_ends all = record {
    long = length-set now (length index - 1) (entry index at) ∙ m.long;
    others = λ j less. get_or-set_other now (length index - 1) j (entry index at) 0 (λ e. omega arith) ∙ m.passed j (omega arith);
    last = get_or-set_same now (length index - 1) (entry index at) 0 (omega (arith, m.long, m.within));
  }

-- ---- an entry taken out and put behind all others

pub taken_last : (index : List ℕ) (at : ℕ) → at < length index → {moved : List ℕ} → moved ≡ remove index at ++ (entry index at ∷ []) → Moved index at moved
taken_last index at here e = rw e record {
  long = length-append (remove index at) (entry index at ∷ []) ∙ left;
  others = λ k less. get_or-append (remove index at) (entry index at ∷ []) 0 k (omega (arith, left)) ∙ other k less;
  last = ap (entry (remove index at ++ (entry index at ∷ []))) (omega (arith, left)) ∙ get_or-append-add (remove index at) (entry index at ∷ []) 0 0;
}
  where
    left : length (remove index at) + 1 ≡ length index
    left = length-remove index at here

    front : length (take at index) ≡ at
    front = simp length-take (omega arith)

    other : (k : ℕ) → k + 1 < length index → entry (take at index ++ drop (suc at) index) k ≡ entry index (skip at k)
    other k less =
        ⊎_elim
        (λ p. get_or-append (take at index) (drop (suc at) index) 0 k (omega (arith, front)) ∙ get_or-take at index k 0 p.0 ∙ ap (entry index) (sym p.1))
        (λ p.
        let place : length (take at index) + (k - at) ≡ k = omega (arith, front) in
        let there : suc at + (k - at) ≡ skip at k = omega (arith, p.1) in
        ap (entry (take at index ++ drop (suc at) index)) (sym place)
        ∙ get_or-append-add (take at index) (drop (suc at) index) (k - at) 0
        ∙ get_or-drop (suc at) index (k - at) 0
        ∙ ap (entry index) there)
        (skipped at k)

-- a row put in one piece
pub put_whole :
    (table : List ℕ) (i : ℕ) {k : ℕ} {put new : List ℕ} → put ≡ new → k ≡ row_size → put_mid (row_size * i) k table put ≡ with_row table i new
unfolding with_row
put_whole table i {k} {put} {new} e sized =
    let place : row_size * i + k ≡ row_size * suc i = omega arith in
    ap (λ p. take (row_size * i) table ++ (p ++ drop k (drop (row_size * i) table))) e
    ∙ ap (λ d. take (row_size * i) table ++ (new ++ d)) (drop-drop k (row_size * i) table ∙ ap (λ n. drop n table) place)
