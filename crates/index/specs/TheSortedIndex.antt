-- "A sorted index beside the unit table" (request seven): the order of names, the index, the two searches with the names that they compare, and
-- what the entries that take an index hand back and leave behind, for all arguments. Assumes nothing.
use Rattle.std.specs.Prelude.{Bool, true, false, ◌&&◌, List, [], ◌∷◌, ◌++◌, ℕ, zero, suc, ◌+◌, ◌*◌, ◌/◌, ltb, eqb, length, get_or, take, drop, Option, Some, None}
use Rattle.rules.specs.declared.Settings.{Settings}
use Rattle.rules.specs.declared.Length.{Length}
use Rattle.rules.specs.declared.Answer.{Answer}
use Rattle.rules.specs.declared.Refusal.{Refusal}
use Rattle.rules.specs.declared.Refusal.TheVariants.{BadRow, WrongIndex, WrongLineIndex, Beyond}
use Rattle.rules.specs.Common.{when◌then◌else◌, same}
use Rattle.rules.specs.ThePartOfTheCrateWeTake.{zero_length}
use Rattle.rules.specs.NumbersHandedBack.{Outcome, got, refused, ◌>>◌, unless, number, position, done, answered}
use Rattle.rules.specs.SettingsAndUnitTable.{settings_check, row_size, rows, row, name, rows_check, table_check, Card, card_check, Holder, Line, Hall, Neither, line_first}
use Rattle.rules.specs.SettingsAsWords.{card_of}
use Rattle.rules.specs.WriterAndShiftTotal.{record_after}
use Rattle.rules.specs.WhatEveryEntryOwes.{read_part, read_total, add_total}
use Rattle.std.specs.declared.cmp.Ordering.{Ordering}
use Rattle.std.specs.declared.cmp.Ordering.TheVariants.{Less, Equal, Greater}
use Rattle.index.specs.declared.Searched.{Searched}
use Rattle.index.specs.declared.LookedUp.{LookedUp}

-- ---- the order of names: byte by byte as numbers from 0 to 255, a prefix first

unfoldable pub order : List ℕ → List ℕ → Ordering
order [] [] = Equal
order [] (b ∷ bs) = Less
order (a ∷ more) [] = Greater
order (a ∷ more) (b ∷ bs) = when ltb a b then Less else when ltb b a then Greater else order more bs

unfoldable pub is_before : Ordering → Bool
is_before Less = true
is_before Equal = false
is_before Greater = false

unfoldable pub before : List ℕ → List ℕ → Bool
before a b = is_before (order a b)

-- ---- the index: entry k is the row that has exactly k names before its own

-- how many of the numbers below n pass the test
unfoldable pub count : (ℕ → Bool) → ℕ → ℕ
count test zero = 0
count test (suc n) = let others = count test n in when test n then suc others else others

-- how many rows have a name before this one
unfoldable pub names_before : List ℕ → List ℕ → ℕ
names_before table wanted = count (λ i. before (name (row table i)) wanted) (rows table)

-- and before that of row i
unfoldable pub rank : List ℕ → ℕ → ℕ
rank table i = names_before table (name (row table i))

unfoldable pub entry_right : List ℕ → List ℕ → ℕ → Bool
entry_right table index k = let i = get_or index k 0 in ltb i (rows table) && eqb (rank table i) k

-- wrong in its length, and then at the number of rows; else at the first entry that is not the true order's
unfoldable pub index_check : (ℕ → Refusal) → List ℕ → List ℕ → Outcome (Unit {0})
index_check wrong table index = do
  unless (wrong (rows table)) (eqb (length index) (rows table))
  rows_check (entry_right table index) wrong 0 (rows table)

-- the first of the n rows from i on that has exactly k names before its own; the row behind them, if none has
unfoldable pub ranked_from : List ℕ → ℕ → ℕ → ℕ → ℕ
ranked_from table k i zero = i
ranked_from table k i (suc n) = let more = ranked_from table k (suc i) n in when eqb (rank table i) k then i else more

-- the n entries from k on
unfoldable pub entries_from : List ℕ → ℕ → ℕ → List ℕ
entries_from table k zero = []
entries_from table k (suc n) = ranked_from table k 0 (rows table) ∷ entries_from table (suc k) n

unfoldable pub index_of : List ℕ → List ℕ
index_of table = entries_from table 0 (rows table)

-- ---- the two searches: what each finds, and how many names it compares

abbrev pub no_more : Searched
no_more = record { found = None; compared = 0 }

abbrev pub here : ℕ → Searched
here i = record { found = Some i; compared = 0 }

-- a name compared, and what comes after it
abbrev pub and_then : Searched → Searched
and_then s = record { found = s.found; compared = suc s.compared }

-- the old search: of the n rows from i on each is looked at, up to the first that has the name
unfoldable pub row_search_from : List ℕ → List ℕ → ℕ → ℕ → Searched
row_search_from table wanted i zero = no_more
row_search_from table wanted i (suc n) =
    let more = row_search_from table wanted (suc i) n in and_then (when same (name (row table i)) wanted then here i else more)

unfoldable pub row_search : List ℕ → List ℕ → Searched
row_search table wanted = row_search_from table wanted 0 (rows table)

unfoldable pub by_order : {A : Type 0} → Ordering → A → A → A → A
by_order Less a b c = a
by_order Equal a b c = b
by_order Greater a b c = c

-- through the index: what is left are the entries from low up to high, at most n of them. The middle one is probed, by one comparison of three ways,
-- after which it is out
unfoldable pub index_search_from : List ℕ → List ℕ → List ℕ → ℕ → ℕ → ℕ → Searched
index_search_from table index wanted zero low high = no_more
index_search_from table index wanted (suc n) low high =
    let middle = (low + high) / 2 in
    let i = get_or index middle 0 in
    let below = index_search_from table index wanted n low middle in
    let above = index_search_from table index wanted n (suc middle) high in
    when ltb low high then and_then (by_order (order wanted (name (row table i))) below (here i) above) else no_more

unfoldable pub index_search : List ℕ → List ℕ → List ℕ → Searched
index_search table index wanted = index_search_from table index wanted (rows table) 0 (rows table)

-- the hall's table is searched where the line's has no such row
unfoldable pub behind : Option ℕ → ℕ → ℕ
behind (Some i) compared = 0
behind None compared = compared

-- over two tables the counts add up
unfoldable pub compared_in_both : Searched → Searched → ℕ
compared_in_both in_line in_hall = in_line.compared + behind in_line.found in_hall.compared

-- ---- settings and tables with their indexes: 23 after all of 7, the hall's index first

pub record Indexed : Type 0 where
  pub card : Card
  pub hall_index : List ℕ
  pub line_index : List ℕ

unfoldable pub indexed_check : Indexed → Outcome (Unit {0})
indexed_check c = do
  card_check c.card
  index_check WrongIndex c.card.hall c.hall_index
  index_check WrongLineIndex c.card.line c.line_index

-- as they are lent
abbrev pub indexed_of : List ℕ → List ℕ → List ℕ → List ℕ → List ℕ → List ℕ → Indexed
indexed_of words hall hall_index line line_index numerals =
    record { card = card_of words hall line numerals; hall_index = hall_index; line_index = line_index }

-- ---- the readers and the shift total: 7 and 23, then as without indexes

unfoldable pub indexed_part_answer : Indexed → List ℕ → ℕ → Answer
indexed_part_answer c text place = answered (λ r. done r.next r.length) (indexed_check c >> read_part c.card text place)

unfoldable pub indexed_total_answer : Indexed → List ℕ → Answer
indexed_total_answer c text = answered (done (length text)) (indexed_check c >> read_total c.card text)

unfoldable pub indexed_shift_answer : Length → Indexed → List ℕ → Answer
indexed_shift_answer so_far c text = answered (done (length text)) (indexed_check c >> add_total so_far c.card text)

unfoldable pub indexed_shifted_record : Length → Indexed → List ℕ → Length
indexed_shifted_record so_far c text = record_after so_far (indexed_check c >> add_total so_far c.card text)

-- ---- one table by itself and its index: made, checked, and changed with a row. Each ends at the number of rows

unfoldable pub rows_answer : List ℕ → Outcome (Unit {0}) → Answer
rows_answer table m = answered (λ passed. done (rows table) zero_length) m

-- what something lent holds afterwards: what is new, or on a refusal what it held
unfoldable pub lent_after : {A : Type 0} → Outcome (Unit {0}) → A → A → A
lent_after (got passed) new old = new
lent_after (refused cause) new old = old

unfoldable pub table_right : Settings → List ℕ → Outcome (Unit {0})
table_right s table = do
  settings_check s
  table_check s table

unfoldable pub making : Settings → List ℕ → List ℕ → Outcome (Unit {0})
making s table index = do
  table_right s table
  unless (WrongIndex (rows table)) (eqb (length index) (rows table))

unfoldable pub make_answer : Settings → List ℕ → List ℕ → Answer
make_answer s table index = rows_answer table (making s table index)

unfoldable pub made_index : Settings → List ℕ → List ℕ → List ℕ
made_index s table index = lent_after (making s table index) (index_of table) index

unfoldable pub checking : Settings → List ℕ → List ℕ → Outcome (Unit {0})
checking s table index = do
  table_right s table
  index_check WrongIndex table index

unfoldable pub check_answer : Settings → List ℕ → List ℕ → Answer
check_answer s table index = rows_answer table (checking s table index)

-- the table with another row at i
unfoldable pub with_row : List ℕ → ℕ → List ℕ → List ℕ
with_row table i new = take (row_size * i) table ++ (new ++ drop (row_size * suc i) table)

unfoldable pub passes : Outcome (Unit {0}) → Bool
passes (got passed) = true
passes (refused cause) = false

-- the new row has the size of a row, and the table with it would pass
unfoldable pub may_replace : Settings → List ℕ → ℕ → List ℕ → Bool
may_replace s table i new = eqb (length new) row_size && passes (table_check s (with_row table i new))

unfoldable pub replacing : Settings → List ℕ → List ℕ → ℕ → List ℕ → Outcome (Unit {0})
replacing s table index i new = do
  checking s table index
  unless (Beyond i) (ltb i (rows table))
  unless (BadRow i) (may_replace s table i new)

unfoldable pub replace_answer : Settings → List ℕ → List ℕ → ℕ → List ℕ → Answer
replace_answer s table index i new = rows_answer table (replacing s table index i new)

-- both are changed, or neither
unfoldable pub replaced_table : Settings → List ℕ → List ℕ → ℕ → List ℕ → List ℕ
replaced_table s table index i new = lent_after (replacing s table index i new) (with_row table i new) table

unfoldable pub replaced_index : Settings → List ℕ → List ℕ → ℕ → List ℕ → List ℕ
replaced_index s table index i new = lent_after (replacing s table index i new) (index_of (with_row table i new)) index

-- ---- the lookups themselves, of a name in both tables: 7 and, through indexes, 23; then 0, whether it is found or not

unfoldable pub found_in : Holder → ℕ → LookedUp
found_in (Line i) compared = record { number = 0; position = 0; table = 2; row = i; compared = compared }
found_in (Hall i) compared = record { number = 0; position = 0; table = 1; row = i; compared = compared }
found_in Neither compared = record { number = 0; position = 0; table = 0; row = 0; compared = compared }

unfoldable pub looked_up : Outcome (Unit {0}) → Searched → Searched → LookedUp
looked_up (got passed) in_line in_hall = found_in (line_first in_line.found in_hall.found) (compared_in_both in_line in_hall)
looked_up (refused cause) in_line in_hall = record { number = number cause; position = position cause; table = 0; row = 0; compared = 0 }

-- numerals are no part of it
abbrev pub units_of : List ℕ → List ℕ → List ℕ → Card
units_of words hall line = card_of words hall line []

unfoldable pub lookup_answer : Card → List ℕ → LookedUp
lookup_answer card wanted = looked_up (card_check card) (row_search card.line wanted) (row_search card.hall wanted)

unfoldable pub indexed_lookup_answer : Indexed → List ℕ → LookedUp
indexed_lookup_answer c wanted =
    looked_up (indexed_check c) (index_search c.card.line c.line_index wanted) (index_search c.card.hall c.hall_index wanted)
