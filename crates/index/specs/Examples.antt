-- Request seven's rules, computed, each from both sides: the order of names, card A's index, both searches with their counts, and each entry at its
-- limits. Assumes nothing.
use Rattle.std.specs.Prelude.{Bool, true, false, not, ◌&&◌, List, [], ◌∷◌, ◌++◌, ℕ, ◌^◌, T, eqb, take, replicate, Option, Some, None}
use Prim.Native.String.{String}
use Rattle.rules.specs.declared.Answer.{Answer}
use Rattle.rules.specs.declared.Length.{Length}
use Rattle.rules.specs.Common.{ascii, all, same}
use Rattle.rules.specs.ThePartOfTheCrateWeTake.{zero_length}
use Rattle.rules.specs.NumbersHandedBack.{done}
use Rattle.rules.specs.SettingsAndUnitTable.{lookup}
use Rattle.rules.specs.CardAAndItsReadings.{space, conjunction, settings, settings_A, row_of, table_A, same_length, same_answer, plus}
use Rattle.rules.specs.TheLinesOwnUnitNames.{jaw, line_7, five}
use Rattle.index.specs.declared.Searched.{Searched}
use Rattle.index.specs.declared.LookedUp.{LookedUp}
use Rattle.index.specs.TheSortedIndex.{Indexed, before, index_of, row_search, index_search, indexed_part_answer, indexed_total_answer, indexed_shift_answer, indexed_shifted_record, make_answer, made_index, check_answer, with_row, replace_answer, replaced_table, replaced_index, lookup_answer, indexed_lookup_answer}
use Rattle.index.specs.Computing.{computing_index}

-- ---- the order: byte by byte, a prefix first

unfoldable pub rises : List ℕ → List ℕ → Bool
rises a b = before a b && not (before b a)

pub in_order :
    T (rises (ascii "m") (ascii "ms") && rises (ascii "min") (ascii "ms") && rises [] (ascii "a"))
    × T (rises (ascii "Z") (ascii "a") && rises (ascii "z") (206 ∷ 188 ∷ []) && rises (127 ∷ []) (128 ∷ []) && rises (0 ∷ []) (255 ∷ []))
    × T (not (before (ascii "ms") (ascii "ms")) && not (before [] []))
unfolding computing_index rises
in_order = (tt, tt, tt)

-- ---- card A's index, and the wrong ones: refused at the first entry that differs

-- block, min, ms, ns, s, turn
unfoldable pub index_A : List ℕ
index_A = 5 ∷ 3 ∷ 1 ∷ 0 ∷ 2 ∷ 4 ∷ []

unfoldable pub refuses : ℕ → ℕ → Answer
refuses n p = record { number = n; position = p; length = zero_length }

unfoldable pub checked : List ℕ → List ℕ → ℕ → ℕ → Bool
checked table index n p = same_answer (check_answer settings_A table index) (refuses n p)

pub card_A_index : T (same (index_of table_A) index_A && same (index_of []) [] && same (index_of line_7) (0 ∷ 1 ∷ []))
unfolding computing_index space conjunction settings settings_A row_of table_A jaw line_7 index_A
card_A_index = tt

pub checked_so :
    T (checked table_A index_A 0 6 && checked [] [] 0 0 && checked line_7 (0 ∷ 1 ∷ []) 0 2)
    × T (checked table_A [] 23 6 && checked table_A (take 5 index_A) 23 6 && checked table_A (index_A ++ 0 ∷ []) 23 6 && checked [] (0 ∷ []) 23 0)
    × T (checked table_A (3 ∷ 5 ∷ 1 ∷ 0 ∷ 2 ∷ 4 ∷ []) 23 0 && checked table_A (5 ∷ 3 ∷ 0 ∷ 1 ∷ 2 ∷ 4 ∷ []) 23 2 && checked table_A (5 ∷ 3 ∷ 1 ∷ 0 ∷ 4 ∷ 2 ∷ []) 23 4)
    × T (checked table_A (5 ∷ 3 ∷ 1 ∷ 0 ∷ 2 ∷ 6 ∷ []) 23 5 && checked table_A (5 ∷ 3 ∷ 1 ∷ 0 ∷ 2 ∷ 255 ∷ []) 23 5 && checked table_A (5 ∷ 5 ∷ 1 ∷ 0 ∷ 2 ∷ 4 ∷ []) 23 1)
    -- all of 7 before it
    × T (checked (table_A ++ row_of "s" 3 1 0) [] 7 6 && checked (0 ∷ []) [] 7 64 && checked (row_of "1" 3 1 0) (7 ∷ []) 7 0)
unfolding computing_index space conjunction settings settings_A row_of table_A jaw line_7 index_A same_length same_answer refuses checked
checked_so = (tt, tt, tt, tt, tt)

-- ---- both searches find the same, and count what they compare

unfoldable pub same_found : Option ℕ → Option ℕ → Bool
same_found (Some i) (Some j) = eqb i j
same_found (Some i) None = false
same_found None (Some j) = false
same_found None None = true

unfoldable pub comes_to : Searched → Option ℕ → ℕ → Bool
comes_to s found compared = same_found s.found found && eqb s.compared compared

-- the name, its row, and the names that the old search compares and that are probed
pub record Sought : Type 0 where
  pub wanted : List ℕ
  pub at : Option ℕ
  pub one_by_one : ℕ
  pub probed : ℕ

unfoldable pub sought : List ℕ → List ℕ → Sought → Bool
sought table index c =
    comes_to (row_search table c.wanted) c.at c.one_by_one
    && comes_to (index_search table index c.wanted) c.at c.probed
    && same_found (lookup table c.wanted) c.at

unfoldable pub seek : String → Option ℕ → ℕ → ℕ → Sought
seek w at rows probes = record { wanted = ascii w; at = at; one_by_one = rows; probed = probes }

pub both_ways :
    T
    (all (sought table_A index_A)
    (seek "ns" (Some 0) 1 1
    ∷ seek "ms" (Some 1) 2 3
    ∷ seek "s" (Some 2) 3 3
    ∷ seek "min" (Some 3) 4 2
    ∷ seek "turn" (Some 4) 5 2
    ∷ seek "block" (Some 5) 6 3
    ∷ seek "blocks" None 6 3
    ∷ seek "a" None 6 3
    ∷ seek "z" None 6 2
    ∷ seek "" None 6 3
    ∷ []))
    × T (all (sought [] []) (seek "s" None 0 0 ∷ seek "" None 0 0 ∷ []))
    × T (all (sought (row_of "s" 3 1 0) (0 ∷ [])) (seek "s" (Some 0) 1 1 ∷ seek "t" None 1 1 ∷ []))
unfolding computing_index row_of table_A index_A same_found comes_to sought seek
both_ways = (tt, tt, tt)

-- ---- a card with indexes: 7, then 23 of the hall's, then of the line's with 128, then as without

unfoldable pub under : List ℕ → List ℕ → List ℕ → List ℕ → Indexed
under hall hall_index line line_index =
    record { card = record { settings = settings_A; hall = hall; line = line; numerals = five }; hall_index = hall_index; line_index = line_index }

unfoldable pub right : Indexed
right = under table_A index_A line_7 (0 ∷ 1 ∷ [])

unfoldable pub part_from : Indexed → String → ℕ → Answer → Bool
part_from c text place a = same_answer (indexed_part_answer c (ascii text) place) a

unfoldable pub long : List ℕ
long = replicate 4097 49

unfoldable pub malformed : Length
malformed = plus 0 (10 ^ 9)

pub refused_in_order :
    T (part_from right "3jaw" 0 (done 4 (plus 0 120000000)) && part_from right "1s and five turn" 7 (done 16 (plus 0 75000000)) && part_from right "1s" 3 (refuses 10 3))
    × T (part_from (under table_A [] line_7 (1 ∷ 0 ∷ [])) "1s" 3 (refuses 23 6) && part_from (under table_A index_A line_7 (1 ∷ 0 ∷ [])) "1s" 3 (refuses 23 128))
    × T (part_from (under table_A index_A line_7 []) "1s" 0 (refuses 23 130) && part_from (under table_A index_A [] (0 ∷ [])) "1s" 0 (refuses 23 128))
    × T (part_from (under table_A [] (line_7 ++ jaw) []) "1s" 0 (refuses 7 130) && part_from (under [] [] [] []) "1" 0 (done 1 (plus 1 0)))
    × T (same_answer (indexed_total_answer right (ascii "1s 2jaw")) (done 7 (plus 1 80000000)) && same_answer (indexed_total_answer (under table_A [] [] []) long) (refuses 23 6))
    × T (same_answer (indexed_total_answer right long) (refuses 8 4096) && same_answer (indexed_shift_answer malformed right long) (refuses 11 0))
    × T (same_answer (indexed_shift_answer malformed (under table_A index_A [] (0 ∷ [])) long) (refuses 23 128) && same_length (indexed_shifted_record malformed (under table_A [] [] []) long) malformed)
    × T (same_answer (indexed_shift_answer (plus 1 0) right (ascii "1s")) (done 2 (plus 2 0)) && same_length (indexed_shifted_record (plus 1 0) right (ascii "1s")) (plus 2 0))
unfolding computing_index space conjunction settings settings_A row_of table_A jaw line_7 five index_A same_length same_answer plus refuses under right part_from long malformed
refused_in_order = (tt, tt, tt, tt, tt, tt, tt, tt)

-- ---- made: whole, or not at all

unfoldable pub makes : List ℕ → List ℕ → Answer → List ℕ → Bool
makes table index a then =
    same_answer (make_answer settings_A table index) a && same (made_index settings_A table index) then

pub made_so :
    T (makes table_A (replicate 6 9) (done 6 zero_length) index_A && makes [] [] (done 0 zero_length) [])
    × T (makes table_A (replicate 5 9) (refuses 23 6) (replicate 5 9) && makes table_A [] (refuses 23 6) [] && makes table_A (replicate 7 9) (refuses 23 6) (replicate 7 9))
    × T (makes (jaw ++ jaw) [] (refuses 7 1) [] && makes (jaw ++ jaw) (8 ∷ 9 ∷ []) (refuses 7 1) (8 ∷ 9 ∷ []))
unfolding computing_index space conjunction settings settings_A row_of table_A jaw index_A same_length same_answer refuses makes
made_so = (tt, tt, tt)

-- ---- a row replaced: 7, 23, 10, and 7 at that row; table and index both, or neither

unfoldable pub replaces : List ℕ → List ℕ → ℕ → List ℕ → Answer → List ℕ → List ℕ → Bool
replaces table index i new a table_then index_then =
    same_answer (replace_answer settings_A table index i new) a
    && same (replaced_table settings_A table index i new) table_then
    && same (replaced_index settings_A table index i new) index_then

unfoldable pub left_alone : List ℕ → List ℕ → ℕ → List ℕ → ℕ → ℕ → Bool
left_alone table index i new n p = replaces table index i new (refuses n p) table index

-- `s` becomes `apart`, the first; `block` becomes `zone`, the last; and `ms` keeps its name
pub replaced_so :
    T (replaces table_A index_A 2 (row_of "apart" 3 1 0) (done 6 zero_length) (with_row table_A 2 (row_of "apart" 3 1 0)) (2 ∷ 5 ∷ 3 ∷ 1 ∷ 0 ∷ 4 ∷ []))
    × T (replaces table_A index_A 5 (row_of "zone" 3 1 0) (done 6 zero_length) (take 240 table_A ++ row_of "zone" 3 1 0) (3 ∷ 1 ∷ 0 ∷ 2 ∷ 4 ∷ 5 ∷ []))
    × T (replaces table_A index_A 1 (row_of "ms" 2 2 0) (done 6 zero_length) (row_of "ns" 0 1 0 ++ row_of "ms" 2 2 0 ++ row_of "s" 3 1 0 ++ row_of "min" 4 1 0 ++ row_of "turn" 2 123 65535 ++ row_of "block" 3 10000000000 0) index_A)
    × T (left_alone table_A index_A 6 jaw 10 6 && left_alone [] [] 0 jaw 10 0 && left_alone table_A index_A 1000 [] 10 1000)
    × T (left_alone table_A index_A 0 (row_of "s" 3 1 0) 7 0 && left_alone table_A index_A 4 (row_of "s" 3 1 0) 7 4 && left_alone table_A index_A 3 (row_of "1" 3 1 0) 7 3)
    × T (left_alone table_A index_A 0 (take 47 jaw) 7 0 && left_alone table_A index_A 5 (jaw ++ 0 ∷ []) 7 5 && left_alone table_A index_A 1 (jaw ++ row_of "y" 3 1 0) 7 1)
    × T (left_alone table_A [] 6 jaw 23 6 && left_alone (jaw ++ jaw) [] 2 jaw 7 1)
unfolding computing_index space conjunction settings settings_A row_of table_A jaw index_A same_length same_answer refuses replaces left_alone
replaced_so = (tt, tt, tt, tt, tt, tt, tt)

-- ---- the lookups themselves

unfoldable pub looks : LookedUp → ℕ → ℕ → ℕ → ℕ → ℕ → Bool
looks l n p table row compared =
    eqb l.number n && eqb l.position p && eqb l.table table && eqb l.row row && eqb l.compared compared

unfoldable pub look : String → ℕ → ℕ → ℕ → ℕ → Bool
look w table row one_by_one probed =
    looks (lookup_answer right.card (ascii w)) 0 0 table row one_by_one && looks (indexed_lookup_answer right (ascii w)) 0 0 table row probed

pub looked_up_so :
    T (look "jaw" 2 0 1 2 && look "turn" 2 1 2 1 && look "s" 1 2 5 5 && look "block" 1 5 8 5)
    × T (look "pouch" 0 0 8 5 && look "" 0 0 8 5)
    × T (looks (indexed_lookup_answer (under table_A [] line_7 []) (ascii "jaw")) 23 6 0 0 0 && looks (indexed_lookup_answer (under table_A index_A line_7 []) (ascii "jaw")) 23 130 0 0 0)
    × T (looks (lookup_answer (under (jaw ++ jaw) [] [] []).card (ascii "jaw")) 7 1 0 0 0 && looks (indexed_lookup_answer (under table_A [] (jaw ++ jaw) []) (ascii "jaw")) 7 129 0 0 0)
unfolding computing_index space conjunction settings settings_A row_of table_A jaw line_7 five index_A under right looks look
looked_up_so = (tt, tt, tt, tt)
