-- What demand 3 of the exported calls supposes and says of case A.
use mathlib.Core.Path.{refl, sym, ap}
use mathlib.Core.List.{[], ◌∷◌, flat_map}
use native.Mathlib.Omega.{arith}
use Rattle.abbreviations.specs.Abbreviations.{attributes, attributes_in, declaration, ending, find, head, pair, parsed, table, with_attributes}
use Rattle.answers.specs.Answers.{count_answer, handed, refused_answer}
use Rattle.attributes.specs.Attributes.{facts, first, values}
use Rattle.attributes.specs.Meaning.{compile_unit_of, die_offset_in, die_offset_of, numbered_type_unit, numbered_unit, parent_in, parent_of, type_hash_in, type_hash_of, type_unit_of, unit_number, unit_number_in}
use Rattle.entries.specs.Facts.{fact_of, entry_compile_unit, entry_die_offset, entry_parent, entry_type_hash, entry_type_unit}
use Rattle.entry_answers.specs.Entry.{entry_step_answer, facts_at, no_facts}
use Rattle.exported.proofs.EntryLaws.{exported-entries}
use Rattle.exported.proofs.LookupLaws.{exported-buckets, exported-hashes}
use Rattle.exported.proofs.QueryLaws.{exported_query_finds, exported_finds, refused_unchanged}
use Rattle.demand3.specs.Demand3.{and_then, of_none}
use Rattle.demand3.specs.Expected.{expected, hash_matches, matching_names, name_is_match, records_of_index, records_of_name, string_matches}
use Rattle.exported.specs.Demand3.{call_then, no_calls}
use Rattle.exported.specs.Query.{QueryHanded, query_answer}
use Rattle.forms.specs.Forms.{as_flag, as_offset, as_unsigned, form_value}
use Rattle.handles.specs.Handles.{cursor_from, handle_of, index_from, iter_from, no_handle, order_of, with_format}
use Rattle.hashes.specs.Demand3.{bucket_names}
use Rattle.hashes.specs.Lookups.{bucket_step, find_by_bucket, find_by_hash, first_or, hash_step, next_in_bucket, next_storing}
use Rattle.hashes.specs.Table.{bucket_of, examined, examined_from, from_start, names_from, names_of_hash, nth_of, run, run_from, stored_hash, stored_start, storing}
use Rattle.headers.specs.Header.{augmentation, counts, header, header_body, header_cut}
use Rattle.headers.specs.Headers.{after_header, header_at, header_step, headers_from}
use Rattle.index.specs.Layout.{fitted, hash_bytes, parts, place, places_from, sizes}
use Rattle.index.specs.Open.{cut_parts, passed_over}
use Rattle.index_query.specs.Candidates.{candidates}
use Rattle.index_query.specs.Matching.{matching, name_matches, same_bytes, text_is}
use Rattle.index_query.specs.Records.{all_series, index_records}
use Rattle.index_query.specs.Series.{record_of_entry, series_records}
use Rattle.leb128.specs.Leb128.{base128, complete, leb128, number_bytes, number_of_bytes}
use Rattle.p_cases.proofs.Queries.{all_open_a, complete-a, query_of_a_lem}
use Rattle.p_cases.specs.CaseA.{case_a, second_start, strings_a}
use Rattle.p_cases.specs.Exported.{BucketCallsOfA, BucketGiven, BucketListed, BucketRun, CallsComplete, CallsExpected, CallsFound, HeaderCallsOfA, end_of_a, headers_of_a, EntriesGiven, EntriesListed, EntryCallsOfA, HashCallsOfA, HashGiven, HashListed, QueryFound, QueryGiven, QueryRefused, RefusedLeaves, bucket_calls_of_a, entry_calls_of_a, handle_a, hash_calls_of_a, nine_at}
use Rattle.p_cases.specs.Queries.{de, function_at, old, open_a}
use Rattle.query.specs.Query.{section_query, overlaid}
use Rattle.query_plan.specs.Plans.{Queried, queried}
use Rattle.reader.specs.Errors.{longest}
use Rattle.reader.specs.Listing.{counted, followed_by, items_of, listing, shown_by}
use Rattle.reader.specs.Lists.{filterb, memberb, numbers_from, take_while}
use Rattle.reader.specs.Numbers.{digits, initial_length, number_at, read_byte, read_number, spelled}
use Rattle.reader.specs.Parts.{cut, skipped}
use Rattle.records.specs.Records.{entry_record, shown}
use Rattle.records.specs.Units.{compile_shown, default_shown, entry_unit, type_shown}
use Rattle.section_records.specs.Records.{header_records, headers_left, section_records}
use Rattle.tables.specs.Check.{any_above, is_missed, missed_names, start_above, table_check, verdict}
use Rattle.strings.specs.Strings.{before_zero, get_str, zero_from}
use Rattle.entries.specs.Entries.{entry, entry_at_handle}
use Rattle.entries.specs.Series.{entries_from, entries_of, entry_step, first_entry, moved, name_entries, series, series_entry, step_in}
use Rattle.exported.specs.Demand3.{header_for}
use Rattle.hashes.specs.Lookups.{first_in_bucket}
use Rattle.index.specs.Open.{index_of, name_index, opened}
use Rattle.index.specs.Words.{nth_word, word_bytes}
use Rattle.names.specs.Names.{name_string, name_string_in, name_string_offset, name_string_offset_in}
use Rattle.names.specs.Units.{compile_unit_in, default_compile_unit, default_compile_unit_in, foreign_type_unit_in, local_type_unit_in, nth_compile_unit, type_unit_in, unit_in}

pub bucket_given : BucketGiven
unfolding case_a handle_a order_of index_from with_format find_by_bucket first_in_bucket fitted parts place places_from sizes word_bytes hash_bytes longest read_number skipped spelled digits
bucket_given = refl

pub bucket_calls_of_a_lem : BucketCallsOfA
unfolding case_a handle_a order_of index_from with_format bucket_step next_in_bucket first_or nth_of stored_start stored_hash bucket_of names_from run_from examined_from from_start numbers_from take_while number_at spelled digits fitted parts place places_from sizes word_bytes hash_bytes longest
bucket_calls_of_a_lem = call_then refl (call_then refl (call_then refl (call_then refl no_calls)))

pub bucket_listed : BucketListed
bucket_listed = exported-buckets 0 case_a handle_a 1 1 bucket_calls_of_a bucket_given bucket_calls_of_a_lem

pub bucket_run : BucketRun
unfolding case_a handle_a order_of index_from with_format run examined nth_of stored_start stored_hash bucket_of names_from run_from examined_from from_start numbers_from take_while number_at spelled digits fitted parts place places_from sizes word_bytes hash_bytes longest bucket_names
bucket_run = refl

pub hash_given : HashGiven
unfolding case_a handle_a order_of index_from with_format find_by_hash find_by_bucket first_in_bucket bucket_of fitted parts place places_from sizes word_bytes hash_bytes longest read_number skipped spelled digits cursor_from
hash_given = refl

pub hash_calls_of_a_lem : HashCallsOfA
unfolding case_a handle_a order_of index_from with_format hash_step next_storing storing filterb first_or nth_of stored_start stored_hash bucket_of names_from run_from examined_from from_start numbers_from take_while number_at spelled digits fitted parts place places_from sizes word_bytes hash_bytes longest iter_from cursor_from
hash_calls_of_a_lem = call_then refl (call_then refl (call_then refl no_calls))

pub hash_listed : HashListed
hash_listed = exported-hashes 0 case_a handle_a 9 (nine_at 1) hash_calls_of_a hash_given hash_calls_of_a_lem

pub entries_given : EntriesGiven
unfolding case_a handle_a order_of index_from with_format name_entries first_entry nth_word fitted parts place places_from sizes word_bytes hash_bytes longest read_number skipped spelled digits
entries_given = refl

pub entry_calls_of_a_lem : EntryCallsOfA
unfolding case_a handle_a order_of index_from with_format entry_step step_in moved series_entry entry values first form_value as_flag as_unsigned as_offset read_byte find table listing declaration with_attributes head attributes attributes_in pair leb128 number_of_bytes number_bytes complete base128 fitted parts place places_from sizes word_bytes hash_bytes longest read_number skipped spelled digits entry_step_answer facts_at no_facts entry_compile_unit entry_type_unit entry_type_hash compile_unit_of compile_unit_in unit_in type_unit_of type_unit_in local_type_unit_in foreign_type_unit_in type_hash_of type_hash_in unit_number numbered_unit numbered_type_unit fact_of entry_die_offset entry_parent die_offset_of die_offset_in parent_of parent_in entry_at_handle
entry_calls_of_a_lem = call_then refl (call_then refl no_calls)

pub entries_listed : EntriesListed
entries_listed = exported-entries 0 case_a handle_a (record { 0 = 0 }) 91 entry_calls_of_a entries_given entry_calls_of_a_lem

pub query_given : QueryGiven
unfolding order_of query_answer
query_given = ap {A = Queried} {B = QueryHanded} (λ (q : Queried). record { answer = handed count_answer q.answer; records = q.records }) (sym query_of_a_lem)

pub query_found : QueryFound
unfolding order_of
query_found = exported_query_finds 0 case_a strings_a 7 de (old ∷ old ∷ []) (function_at 0 6 1 0 0x20 ∷ old ∷ []) 1 (open_a ∷ []) all_open_a complete-a query_given

pub header_calls_of_a_lem : HeaderCallsOfA
unfolding case_a handle_a order_of header_step after_header header header_cut header_body counts augmentation initial_length read_number skipped cut spelled digits longest handle_of no_handle
header_calls_of_a_lem = call_then refl (call_then refl no_calls)

pub calls_complete : CallsComplete
unfolding case_a handle_a order_of index_from with_format header_for name_index opened index_of cut_parts passed_over fitted parts place places_from sizes word_bytes hash_bytes longest parsed ending table listing counted declaration with_attributes head attributes attributes_in pair leb128 number_of_bytes number_bytes complete base128 read_number skipped spelled digits number_at nth_of stored_start stored_hash bucket_of names_from run run_from from_start numbers_from filterb take_while memberb start_above any_above is_missed missed_names verdict table_check
calls_complete = and_then (record { header = (refl, refl); opens = refl; table = (refl, omega arith) }) of_none

pub calls_found : CallsFound
calls_found = exported_finds 0 case_a strings_a 7 de (old ∷ old ∷ []) (function_at 0 6 1 0 0x20 ∷ old ∷ []) 1 headers_of_a end_of_a header_calls_of_a_lem calls_complete (refl, refl) query_given

pub calls_expected : CallsExpected
unfolding case_a handle_a order_of index_from with_format header_for strings_a fitted parts place places_from sizes word_bytes hash_bytes longest read_number skipped spelled digits number_at nth_of stored_hash numbers_from filterb text_is same_bytes name_string name_string_in name_string_offset name_string_offset_in nth_word get_str zero_from before_zero record_of_entry items_of series entries_of first_entry series_entry entries_from entry values first facts form_value as_flag as_unsigned as_offset read_byte find table listing declaration with_attributes head attributes attributes_in pair leb128 number_of_bytes number_bytes complete base128 entry_record shown entry_unit type_shown compile_shown default_shown default_compile_unit_in compile_unit_of compile_unit_in unit_in type_unit_of type_unit_in local_type_unit_in foreign_type_unit_in unit_number unit_number_in numbered_unit numbered_type_unit nth_compile_unit default_compile_unit die_offset_of die_offset_in expected records_of_index records_of_name matching_names name_is_match hash_matches string_matches flat_map
calls_expected = refl

pub query_refused : QueryRefused
unfolding case_a second_start order_of query_answer strings_a section_query opened queried overlaid section_records headers_left header_records headers_from header_at header header_cut header_body counts augmentation initial_length read_number skipped cut spelled digits name_index index_of cut_parts passed_over parts place places_from sizes word_bytes hash_bytes longest parsed ending table listing declaration with_attributes head attributes attributes_in pair leb128 number_of_bytes number_bytes complete base128 index_records candidates first_in_bucket find_by_hash find_by_bucket names_of_hash run run_from from_start storing stored_start stored_hash nth_of bucket_of names_from numbers_from filterb take_while memberb number_at matching name_matches name_string_in name_string_offset_in text_is same_bytes name_string name_string_offset nth_word get_str zero_from before_zero all_series series_records entries_of first_entry record_of_entry shown_by followed_by items_of counted series series_entry entries_from entry values first facts form_value as_flag as_unsigned as_offset read_byte find fitted entry_record shown entry_unit type_shown compile_shown default_shown default_compile_unit_in compile_unit_of compile_unit_in unit_in type_unit_of type_unit_in local_type_unit_in foreign_type_unit_in unit_number unit_number_in numbered_unit numbered_type_unit nth_compile_unit default_compile_unit die_offset_of die_offset_in
query_refused = refl

pub refused_leaves : RefusedLeaves
refused_leaves after given = refused_unchanged 0 7 (second_start 5) strings_a de (old ∷ old ∷ []) after (refused_answer 1 48) given refl
