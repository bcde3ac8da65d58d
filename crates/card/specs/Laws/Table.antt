-- Laws of the table check: row by row, and the tests that a right row and an accepted one passed. Assumes nothing.
use Rattle.std.specs.Prelude.{◌≡◌, refl, Bool, not, ◌&&◌, ◌||◌, List, [], ◌∷◌, cond, eqb, length, take, drop}
use Rattle.std.proofs.Math.Path.{sym, ap}
use Rattle.std.specs.List.{list_any, range_with_len, prefix_len}
use Rattle.std.proofs.Common.{ap₂, ◌∙◌, drop-drop, zero-add, add-zero, add-suc, suc-add, sub-eq-zero_of_le, arith}
use Rattle.std.proofs.Math.Bool.{true, false, and_comm, or_comm}
use Prim.Native.Nat.{ℕ, zero, suc, ◌+◌, ◌*◌, ◌-◌, ◌/◌, ◌%◌, ◌≤◌, ◌<◌, zero-le}
use Rattle.std.proofs.Math.Nat.{sub-zero}
use Rattle.std.proofs.Math.Numerals.{add-one}
use Rattle.std.proofs.Math.Dec.{ltb}
use borrow.Author.Count.{below_more}
use borrow.Author.Tests.{lt-ltb, le-ltb, le-leb, lt-leb, eq-eqb, eqb-true, eqb-false, ltb-true, ltb-false, ne_eqb, not-true}
use Rattle.rules.specs.declared.Settings.{Settings}
use Rattle.rules.specs.declared.Refusal.{Refusal}
use Rattle.rules.specs.Common.{when◌then◌else◌, all, between, same}
use Rattle.rules.specs.NumbersHandedBack.{got, refused, ◌>>◌, unless}
use Rattle.rules.specs.SettingsAndUnitTable.{last_kind, second_kind, zeros_at, row_size, rows, rows_in, row, row_in, name, kind, name_size, may_name, named, named_in, product, in_range, led_by_e, e_may_lead, can_be_typed, row_formed, row_formed_in, row_right, row_right_in, row_accepted, row_accepted_in, numeral_accepted, numeral_accepted_in, whole_rows, whole_rows_in, rows_check}
use Rattle.rules.proofs.Laws.Choices.{and_left, and_right}
use Rattle.rules.specs.Laws.Lists.{Bytes}
use Rattle.rules.proofs.Laws.RowsCheck.{rows_alike}
use Rattle.rules.proofs.Laws.Tests.{and_assoc, or_assoc, and_true, and_false, or_true, or_false, same_test, between_from, between_to, between_in}
use Rattle.words.specs.LowFirst.{bytes_part}
use Rattle.settings.specs.Sets.{bytes_of, passes}
use Rattle.settings.specs.declared.sets.AsciiSet.{AsciiSet}
use Rattle.card.specs.declared.row.Further.TheVariants.{Nothing, NotLedByE, AsciiSeconds}
use Rattle.card.specs.declared.row.RowRule.{RowRule}
use Rattle.rows.specs.Named.{padded}
use Rattle.rows.proofs.Chains.{cut}
use Rattle.card.specs.Fields.{Letterless, Simple, unnameable, no_letters, asked_further, name_right, fields_right, alone, ruled, tested, tabled}
use Rattle.card.specs.Laws.Names.{names_alike, letters_outside}
use Rattle.card.specs.Laws.Unnameable.{outside_names, outside_letters}

-- ---- names before a row: one of the first n rows

module _ (table wanted : List ℕ) where
  pub named_earlier : (n i : ℕ) → i < n → same (name (row table i)) wanted ≡ true → named table wanted n ≡ true
  unfolding named_in
  named_earlier zero i h = absurd (omega arith)
  named_earlier (suc n) i h =
      below_more (λ i. same (name (row table i)) wanted ≡ true → named table wanted (suc n) ≡ true) n
      (λ i below e. rw (named_earlier n i below e, or_true))
      (λ e. rw e)
      i
      (omega arith)

  pub named_not_yet : (n : ℕ) → same (name (row table n)) wanted ≡ false → named table wanted n ≡ false → named table wanted (n + 1) ≡ false
  unfolding named_in
  named_not_yet n other others = rw (add-one n, other) others

  -- any of them, in order
  pub any_earlier : (n : ℕ) → list_any (λ i. same (name (row table i)) wanted) (range_with_len 0 n) ≡ named table wanted n
  unfolding named_in
  any_earlier n = go 0 n ∙ ap (named table wanted) (zero-add n)
    where
      go : (a n : ℕ) → (named table wanted a || list_any (λ i. same (name (row table i)) wanted) (range_with_len a n)) ≡ named table wanted (a + n)
      go a zero = or_false (named table wanted a) ∙ ap (named table wanted) (sym (add-zero a))
      go a (suc n) =
          sym (or_assoc (named table wanted a) (same (name (row table a)) wanted) (list_any (λ i. same (name (row table i)) wanted) (range_with_len (a + 1) n)))
          ∙ ap (λ t. t || list_any (λ i. same (name (row table i)) wanted) (range_with_len (a + 1) n)) (or_comm (named table wanted a) (same (name (row table a)) wanted) ∙ rw (add-one a))
          ∙ go (a + 1) n
          ∙ ap (named table wanted) (omega arith)

-- ---- row by row

-- the first of the n rows from i on that fails the test; the row behind them, if none does
unfoldable pub first_bad : (ℕ → Bool) → ℕ → ℕ → ℕ
first_bad test i zero = i
first_bad test i (suc n) = let more = first_bad test (suc i) n in when test i then more else i

-- what is asked of each row is asked of the parts that the table is cut into
pub bad_part : (asked : List ℕ → Bool) (table : List ℕ) → prefix_len asked (cut (rows table) row_size table) ≡ first_bad (λ i. asked (row table i)) 0 (rows table)
unfolding first_bad when◌then◌else◌ row_in
bad_part asked table = sym (go (rows table) 0 ∙ zero-add (prefix_len asked (cut (rows table) row_size table)))
  where
    go : (n i : ℕ) → first_bad (λ i. asked (row table i)) i n ≡ i + prefix_len asked (cut n row_size (drop (row_size * i) table))
    go zero i = sym (add-zero i)
    go (suc n) i =
        let next : row_size * i + row_size ≡ row_size * suc i = omega arith in
        rw (drop-drop row_size (row_size * i) table, next) (one (asked (take row_size (drop (row_size * i) table))) _ (go n (suc i)))
      where
        one :
            (b : Bool) {more : ℕ} (others : ℕ) → more ≡ suc i + others
            → (when b then more else i) ≡ i + cond b (1 + others) 0
        one true others e = omega (arith, e)
        one false others e = sym (add-zero i)

-- the first of n rows that fails the test
pub record First (test : ℕ → Bool) (n first : ℕ) : Type 0 where
  pub most : first ≤ n
  pub each : (j : ℕ) → j < first → test j ≡ true
  pub here : first < n → test first ≡ false

module _ (test : ℕ → Bool) where
  -- what the rows from i on give, of n in all
  unfoldable pub bad_from : ℕ → ℕ → ℕ
  bad_from n i = first_bad test i (n - i)

  pub bad_start : (n : ℕ) → bad_from n 0 ≡ first_bad test 0 n
  unfolding bad_from
  bad_start n = rw sub-zero

  pub bad_end : (n i : ℕ) → n ≤ i → bad_from n i ≡ i
  unfolding bad_from first_bad
  bad_end n i h = rw (sub-eq-zero_of_le h)

  module _ (n i : ℕ) (h : i < n) where
    counted : n - i ≡ suc (n - (i + 1))
    counted = omega arith

    pub bad_here : test i ≡ false → bad_from n i ≡ i
    unfolding bad_from first_bad when◌then◌else◌
    bad_here e = rw (counted, e)

    pub bad_next : test i ≡ true → bad_from n i ≡ bad_from n (i + 1)
    unfolding bad_from first_bad when◌then◌else◌
    bad_next e = rw (counted, e, add-one i)

  -- rows that pass leave it to those behind them
  pub bad_after : (n i : ℕ) → i ≤ n → ((j : ℕ) → j < i → test j ≡ true) → bad_from n i ≡ first_bad test 0 n
  bad_after n zero h each = bad_start n
  bad_after n (suc i) h each =
      rw (← (add-one i)) (sym (bad_next n i (omega arith) (each i (omega arith))) ∙ bad_after n i (omega arith) (λ j below. each j (omega arith)))

  -- which row that is
  pub first_found : (n : ℕ) → First test n (first_bad test 0 n)
  unfolding first_bad when◌then◌else◌
  first_found n =
      let (low, most, each, here) = go n 0 in
      record { most = omega (arith, most); each = λ j below. each j zero-le below; here = λ below. here (omega arith) }
    where
      go :
          (n i : ℕ)
          → (i ≤ first_bad test i n) × (first_bad test i n ≤ i + n) × ((j : ℕ) → i ≤ j → j < first_bad test i n → test j ≡ true) × (first_bad test i n < i + n → test (first_bad test i n) ≡ false)
      go zero i = (omega arith, omega arith, λ j from below. absurd (omega arith), λ below. absurd (omega arith))
      go (suc n) i = one (test i) refl (go n (suc i))
        where
          one :
              (b : Bool) {more : ℕ} → test i ≡ b
              → (suc i ≤ more) × (more ≤ suc i + n) × ((j : ℕ) → suc i ≤ j → j < more → test j ≡ true) × (more < suc i + n → test more ≡ false)
              → let first = when b then more else i in
              (i ≤ first) × (first ≤ i + suc n) × ((j : ℕ) → i ≤ j → j < first → test j ≡ true) × (first < i + suc n → test first ≡ false)
          one true e (low, most, each, here) = (
            omega arith,
            omega arith,
            λ j from below. apart j (eqb i j) refl from (λ further. each j further below),
            λ below. here (omega arith),
          )
            where
              apart : (j : ℕ) (same : Bool) → eqb i j ≡ same → i ≤ j → (suc i ≤ j → test j ≡ true) → test j ≡ true
              apart j true is from further = rw (← (eqb-true i j is)) e
              apart j false is from further = further (omega (arith, eqb-false i j is))
          one false e more = (omega arith, omega arith, λ j from below. absurd (omega arith), λ below. e)

  pub first_is : (n first : ℕ) → First test n first → first ≡ first_bad test 0 n
  first_is n first f = go (ltb first n) refl ∙ bad_after n first f.most f.each
    where
      go : (b : Bool) → ltb first n ≡ b → first ≡ bad_from n first
      go true e = sym (bad_here n first (ltb-true first n e) (f.here (ltb-true first n e)))
      go false e = sym (bad_end n first (ltb-false first n e))

  -- the check refuses the first bad row
  module _ (bad : ℕ → Refusal) where
    checked : (n i : ℕ) → rows_check test bad i n ≡ (when ltb (first_bad test i n) (i + n) then refused (bad (first_bad test i n)) else got tt)
    unfolding rows_check first_bad when◌then◌else◌
    checked zero i = rw (add-zero i, le-ltb i i (omega arith))
    checked (suc n) i = go (test i) (checked n (suc i))
      where
        go :
            (b : Bool)
            → rows_check test bad (suc i) n ≡ (when ltb (first_bad test (suc i) n) (suc i + n) then refused (bad (first_bad test (suc i) n)) else got tt)
            → (when b then rows_check test bad (suc i) n else refused (bad i))
            ≡ (when ltb (when b then first_bad test (suc i) n else i) (i + suc n) then refused (bad (when b then first_bad test (suc i) n else i)) else got tt)
        go true e = rw (add-suc i n, ← (suc-add i n)) e
        go false e = rw (lt-ltb i (i + suc n) (omega arith))

    pub check_bad : (n : ℕ) → first_bad test 0 n < n → rows_check test bad 0 n ≡ refused (bad (first_bad test 0 n))
    unfolding when◌then◌else◌
    check_bad n h = checked n 0 ∙ rw (lt-ltb (first_bad test 0 n) (0 + n) (omega arith))

    pub check_good : (n : ℕ) → n ≤ first_bad test 0 n → rows_check test bad 0 n ≡ got tt
    unfolding when◌then◌else◌
    check_good n h = checked n 0 ∙ rw (le-ltb (first_bad test 0 n) (0 + n) (omega arith))

-- two tests of each row, the second of the rows that pass the first
pub bad_both :
    (test also both : ℕ → Bool) → ((i : ℕ) → both i ≡ (test i && also i))
    → (n : ℕ) → first_bad also 0 (first_bad test 0 n) ≡ first_bad both 0 n
bad_both test also both asked n =
    let most : ℕ = first_bad test 0 n in
    let first : ℕ = first_bad also 0 most in
    let one : First test n most = first_found test n in
    let other : First also most first = first_found also most in
    first_is both n first (record {
      most = omega (arith, one.most, other.most);
      each = λ j below. rw (asked j, one.each j (omega (arith, other.most)), other.each j below);
      here = λ below. fails (ltb first most) refl one other below;
    })
  where
    fails : {most first : ℕ} (b : Bool) → ltb first most ≡ b → First test n most → First also most first → first < n → both first ≡ false
    fails {most} {first} true e one other below = rw (asked first, other.here (ltb-true first most e), and_false)
    fails {most} {first} false e one other below =
        let last : first ≡ most = omega (arith, other.most, ltb-false first most e) in
        rw (asked first, last, one.here (omega arith))

-- ---- a table's check, by its size and its first bad row

module _ (size : Refusal) (most : ℕ) (test : ℕ → Bool) (bad : ℕ → Refusal) (table : List ℕ) where
  pub half_a_row : (length table % row_size ≡ 0 → ⊥) → refused size ≡ tabled size most test bad table
  unfolding whole_rows_in unless ◌>>◌
  half_a_row h = rw (ne_eqb _ _ h)

  pub too_many : most < length table / row_size → refused size ≡ tabled size most test bad table
  unfolding whole_rows_in unless ◌>>◌ rows_in
  too_many h = rw (lt-leb _ _ h, and_false)

  module _
      (whole : length table % row_size ≡ 0) (few : length table / row_size ≤ most)
      {first : ℕ} (found : first ≡ first_bad test 0 (rows table)) where
    sized : tabled size most test bad table ≡ rows_check test bad 0 (rows table)
    unfolding whole_rows_in unless ◌>>◌ rows_in
    sized = rw (eq-eqb _ _ whole, le-leb _ _ few)

    pub row_refused : first < length table / row_size → refused (bad first) ≡ tabled size most test bad table
    unfolding rows_in
    row_refused h = ap (λ i. refused (bad i)) found ∙ sym (sized ∙ check_bad test bad (rows table) (rw (← found) h))

    pub all_accepted : length table / row_size ≤ first → got tt ≡ tabled size most test bad table
    unfolding rows_in
    all_accepted h = sym (sized ∙ check_good test bad (rows table) (rw (← found) h))

-- tests that agree come to the same
pub tabled_alike :
    (size : Refusal) (most : ℕ) (test other : ℕ → Bool) (bad : ℕ → Refusal) (table : List ℕ)
    → ((i : ℕ) → test i ≡ other i)
    → tabled size most test bad table ≡ tabled size most other bad table
tabled_alike size most test other bad table alike =
    ap (λ rows. unless size (whole_rows most table) >> rows) (rows_alike test other bad (rows table) (λ i below. alike i))

-- no rows are good
pub no_rows : (size : Refusal) (most : ℕ) (test : ℕ → Bool) (bad : ℕ → Refusal) (table : List ℕ) → length table ≡ 0 → got tt ≡ tabled size most test bad table
unfolding whole_rows_in rows_in rows_check unless ◌>>◌
no_rows size most test bad table h = rw (h, le-leb 0 most zero-le)

-- ---- the form of a row

module _ (of_kind of_name : ℕ → Bool) (table : List ℕ) (i : ℕ) where
  pub formed_parts :
      row_formed of_kind of_name table i
      ≡ (padded (row table i)
      && (of_kind (kind (row table i))
      && (all (eqb 0) (drop zeros_at (row table i))
      && (all of_name (name (row table i)) && (not (named table (name (row table i)) i) && in_range (product (row table i)))))))
  unfolding row_formed_in padded
  formed_parts = simp and_assoc

  module _ (good : row_formed of_kind of_name table i ≡ true) where
    pub formed_padded : padded (row table i) ≡ true
    formed_padded = and_left _ _ (sym formed_parts ∙ good)

    formed_rest : (all of_name (name (row table i)) && (not (named table (name (row table i)) i) && in_range (product (row table i)))) ≡ true
    formed_rest =
        and_right (all (eqb 0) (drop zeros_at (row table i))) _
        (and_right (of_kind (kind (row table i))) _ (and_right (padded (row table i)) _ (sym formed_parts ∙ good)))

    pub formed_name : all of_name (name (row table i)) ≡ true
    formed_name = and_left _ _ formed_rest

    pub formed_unnamed : named table (name (row table i)) i ≡ false
    formed_unnamed =
        not-true (named table (name (row table i)) i)
        (and_left _ (in_range (product (row table i))) (and_right (all of_name (name (row table i))) _ formed_rest))

    pub formed_in_range : in_range (product (row table i)) ≡ true
    formed_in_range =
        and_right (not (named table (name (row table i)) i)) _ (and_right (all of_name (name (row table i))) _ formed_rest)

-- tests of a kind that agree, and tests of a name that agree at each byte, say the same of a row
formed_alike :
    {of_kind kind_too : ℕ → Bool} (of_name name_too : ℕ → Bool)
    → ((k : ℕ) → of_kind k ≡ kind_too k)
    → ((b : ℕ) → b < 256 → of_name b ≡ name_too b)
    → (table : List ℕ) → Bytes table
    → (i : ℕ) → row_formed of_kind of_name table i ≡ row_formed kind_too name_too table i
unfolding row_in
formed_alike {of_kind} {kind_too} of_name name_too kinds names table bytes i =
    formed_parts of_kind of_name table i
    ∙ rw (kinds _, names_alike of_name name_too names (row table i) (bytes_part table row_size (row_size * i) bytes)) (sym (formed_parts kind_too name_too table i))

-- two tests of each element, or one of both
all_also : (test also : ℕ → Bool) (l : List ℕ) → (all test l && all also l) ≡ all (λ b. test b && also b) l
unfolding all
all_also test also [] = refl
all_also test also (b ∷ l) = rw (← (all_also test also l)) (go (test b) (all test l) (also b) (all also l))
  where
    go : (a more b others : Bool) → ((a && more) && (b && others)) ≡ ((a && b) && (more && others))
    go false more b others = refl
    go true more true others = refl
    go true more false others = and_false more

-- more tests of a kind and of a name, after the form or within it
formed_also :
    (of_kind kind_also of_name name_also : ℕ → Bool) (table : List ℕ) (i : ℕ)
    → (row_formed of_kind of_name table i && (kind_also (kind (row table i)) && all name_also (name (row table i))))
    ≡ row_formed (λ k. of_kind k && kind_also k) (λ b. of_name b && name_also b) table i
formed_also of_kind kind_also of_name name_also table i =
    let r : List ℕ = row table i in
    rw (formed_parts of_kind of_name table i, formed_parts (λ k. of_kind k && kind_also k) (λ b. of_name b && name_also b) table i, ← (all_also of_name name_also (name r)))
    (go (padded r) (of_kind (kind r)) (kind_also (kind r)) (all (eqb 0) (drop zeros_at r)) (all of_name (name r)) (all name_also (name r)) (not (named table (name r) i) && in_range (product r)))
  where
    go : (p k also z n too u : Bool) → ((p && (k && (z && (n && u)))) && (also && too)) ≡ (p && ((k && also) && (z && ((n && too) && u))))
    go false k also z n too u = refl
    go true false also z n too u = refl
    go true true false z n too u = and_false (z && (n && u))
    go true true true false n too u = refl
    go true true true true false too u = refl
    go true true true true true too u = and_comm u too

-- ---- a row of units

pub row_both : (s : Settings) (table : List ℕ) (i : ℕ) → row_accepted s table i ≡ true → (row_right s table i ≡ true) × (can_be_typed s (name (row table i)) ≡ true)
unfolding row_accepted_in
row_both s table i good = (and_left _ _ good, and_right (row_right s table i) _ good)

module _ (s : Settings) (table : List ℕ) (i : ℕ) (good : row_right s table i ≡ true) where
  pub right_padded : padded (row table i) ≡ true
  unfolding row_right_in
  right_padded = formed_padded _ _ table i good

  pub right_name : all (may_name s) (name (row table i)) ≡ true
  unfolding row_right_in
  right_name = formed_name _ _ table i good

  pub right_unnamed : named table (name (row table i)) i ≡ false
  unfolding row_right_in
  right_unnamed = formed_unnamed _ _ table i good

  pub right_in_range : in_range (product (row table i)) ≡ true
  unfolding row_right_in
  right_in_range = formed_in_range _ _ table i good

-- ---- rules

-- what a row has by itself, and that no earlier one has its name
pub ruled_alone : (rule : RowRule) (table : List ℕ) (i : ℕ) → ruled rule table i ≡ (alone rule (row table i) && not (named table (name (row table i)) i))
unfolding ruled alone name_right fields_right
ruled_alone rule table i =
    let r : List ℕ = row table i in
    rw (formed_parts (between 0 last_kind) (passes (bytes_of rule.set) false) table i)
    (go (padded r) (between 0 last_kind (kind r)) (all (eqb 0) (drop zeros_at r)) (all (passes (bytes_of rule.set) false) (name r)) (not (named table (name r) i)) (in_range (product r)) (asked_further rule.further r))
  where
    go : (p k z n u m f : Bool) → ((p && (k && (z && (n && (u && m))))) && f) ≡ (((p && n) && ((k && (z && m)) && f)) && u)
    go false k z n u m f = refl
    go true false z false u m f = refl
    go true false z true u m f = refl
    go true true false false u m f = refl
    go true true false true u m f = refl
    go true true true false u m f = refl
    go true true true true false m f = sym (and_false (m && f))
    go true true true true true m f = sym (and_true (m && f))

-- a row as nearly all are has a right form
pub simple_formed : (set : AsciiSet) → Letterless (bytes_of set) → (r : List ℕ) → Bytes r → Simple r → (name_right set r && fields_right r) ≡ true
unfolding name_right name
simple_formed set none r bytes simple = rw (simple.0, letters_outside (bytes_of set) none (name r) (bytes_part r (name_size r) 1 bytes) simple.1, simple.2)

-- a row as nearly all are has all that is asked by itself, but what is asked further
pub simple_alone :
    (rule : RowRule)
    → Letterless (bytes_of rule.set)
    → (r : List ℕ) → Bytes r
    → Simple r
    → asked_further rule.further r ≡ true
    → alone rule r ≡ true
unfolding alone name_right name
simple_alone rule none r bytes simple further =
    rw (
      simple.0,
      letters_outside (bytes_of rule.set) none (name r) (bytes_part r (name_size r) 1 bytes) simple.1,
      simple.2,
      further,
    )

pub alone_padded : (rule : RowRule) (r : List ℕ) → alone rule r ≡ true → padded r ≡ true
unfolding alone name_right
alone_padded rule r good = and_left _ _ (and_left _ _ good)

pub ruled_padded : (rule : RowRule) (table : List ℕ) (i : ℕ) → ruled rule table i ≡ true → padded (row table i) ≡ true
unfolding ruled
ruled_padded rule table i good = formed_padded _ _ table i (and_left _ _ good)

-- a row that fails by itself fails either way
pub fails_tested : (rule : RowRule) (against : Bool) (table : List ℕ) (i : ℕ) → alone rule (row table i) ≡ false → tested rule against table i ≡ false
fails_tested rule true table i fails = rw (ruled_alone rule table i, fails)
fails_tested rule false table i fails = fails

pub tested_padded : (rule : RowRule) (against : Bool) (table : List ℕ) (i : ℕ) → tested rule against table i ≡ true → padded (row table i) ≡ true
tested_padded rule true table i good = ruled_padded rule table i good
tested_padded rule false table i good = alone_padded rule (row table i) good

-- names outside the set of bytes that no name holds: a row of units
pub unit_ruled :
    (rule : RowRule) (s : Settings)
    → bytes_of rule.set ≡ unnameable s
    → rule.further ≡ (when e_may_lead s then Nothing else NotLedByE)
    → (table : List ℕ) → Bytes table
    → (i : ℕ) → ruled rule table i ≡ row_accepted s table i
unfolding ruled row_accepted_in row_right_in can_be_typed asked_further when◌then◌else◌
unit_ruled rule s set further table bytes i =
    rw (set, further) (ap₂ ◌&&◌ (formed_alike _ _ (λ k. refl) (outside_names s) table bytes i) (go (e_may_lead s)))
  where
    go : (leads : Bool) → asked_further (when leads then Nothing else NotLedByE) (row table i) ≡ (not (led_by_e (name (row table i))) || leads)
    go true = sym (or_true (not (led_by_e (name (row table i)))))
    go false = sym (or_false (not (led_by_e (name (row table i)))))

-- letters, and seconds alone: a numeral
pub numeral_ruled :
    (rule : RowRule)
    → bytes_of rule.set ≡ no_letters
    → rule.further ≡ AsciiSeconds
    → (table : List ℕ) → Bytes table
    → (i : ℕ) → ruled rule table i ≡ numeral_accepted table i
unfolding ruled numeral_accepted_in asked_further
numeral_ruled rule set further table bytes i =
    rw (set, further) (formed_also _ _ _ _ table i ∙ formed_alike _ _ seconds outside_letters table bytes i)
  where
    seconds : (k : ℕ) → (between 0 last_kind k && eqb k second_kind) ≡ between second_kind second_kind k
    seconds k =
        same_test (between 0 last_kind k && eqb k second_kind) (between second_kind second_kind k)
        (λ both. let is = eqb-true k second_kind (and_right (between 0 last_kind k) _ both) in between_in second_kind second_kind k (omega arith) (omega arith))
        (λ one.
        let least = between_from second_kind second_kind k one in
        let most = between_to second_kind second_kind k one in
        rw (between_in 0 last_kind k zero-le (omega arith), eq-eqb k second_kind (omega arith)))
