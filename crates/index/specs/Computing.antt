-- For tests that antt computes: whoever says `unfolding computing_index` unfolds the definitions of this crate and of document 01. Assumes nothing.
use Rattle.rules.specs.Computing.{computing}
use Rattle.index.specs.TheSortedIndex.{order, is_before, before, count, names_before, rank, entry_right, index_check, ranked_from, entries_from, index_of, row_search_from, row_search, by_order, index_search_from, index_search, behind, compared_in_both, indexed_check, indexed_part_answer, indexed_total_answer, indexed_shift_answer, indexed_shifted_record, rows_answer, lent_after, table_right, making, make_answer, made_index, checking, check_answer, with_row, passes, may_replace, replacing, replace_answer, replaced_table, replaced_index, found_in, looked_up, lookup_answer, indexed_lookup_answer}

unfoldable pub computing_index : Unit {0}
unfolding computing order is_before before count names_before rank entry_right index_check ranked_from entries_from index_of row_search_from row_search by_order index_search_from index_search behind compared_in_both indexed_check indexed_part_answer indexed_total_answer indexed_shift_answer indexed_shifted_record rows_answer lent_after table_right making make_answer made_index checking check_answer with_row passes may_replace replacing replace_answer replaced_table replaced_index found_in looked_up lookup_answer indexed_lookup_answer
computing_index = tt
