-- Case A's query, and what demand 3 supposes and says of it and of the two indexes, by computation.
use mathlib.Core.Path.{◌≡◌, refl, sym}
use mathlib.Core.Logic.{inl, inr}
use mathlib.Core.List.{[], ◌∷◌, flat_map}
use Rattle.reader.specs.Errors.{longest}
use Rattle.reader.specs.Parts.{skipped, cut}
use Rattle.reader.specs.Numbers.{digits, spelled, number_at, read_number, read_byte, initial_length}
use Rattle.reader.specs.Lists.{numbers_from, filterb, take_while, memberb}
use Rattle.reader.specs.Listing.{listing, followed_by, shown_by, items_of, counted}
use Rattle.reader.specs.Steps.{no_steps, step_then, has_end, up_to_end}
use Rattle.leb128.specs.Leb128.{leb128, number_of_bytes, number_bytes, complete, base128}
use Rattle.strings.specs.Strings.{before_zero, zero_from, get_str}
use Rattle.abbreviations.specs.Abbreviations.{pair, attributes_in, attributes, head, with_attributes, declaration, table, ending, parsed, find}
use Rattle.headers.specs.Header.{header_cut, counts, augmentation, header_body, header}
use Rattle.headers.specs.Headers.{first_header, after_header, header_step, header_at, headers_from}
use Rattle.index.specs.Layout.{hash_bytes, sizes, places_from, place, parts, fitted}
use Rattle.index.specs.Open.{passed_over, cut_parts}
use Rattle.forms.specs.Forms.{as_flag, as_unsigned, as_offset, form_value}
use Rattle.attributes.specs.Attributes.{values, first, facts}
use Rattle.attributes.specs.Meaning.{unit_number_in, unit_number, numbered_unit, numbered_type_unit, compile_unit_of, type_unit_of, die_offset_in, die_offset_of}
use Rattle.hashes.specs.Table.{nth_of, stored_start, stored_hash, bucket_of, names_from, run_from, from_start, run, storing, names_of_hash}
use Rattle.hashes.specs.Lookups.{bucket_cursor, hash_cursor, find_by_bucket, find_by_hash}
use Rattle.tables.specs.declared.TableCheck.{TableCheck}
use Rattle.tables.specs.Check.{start_above, any_above, is_missed, missed_names, verdict, table_check}
use Rattle.records.specs.Units.{type_shown, compile_shown, default_shown, entry_unit}
use Rattle.records.specs.Records.{shown, entry_record}
use Rattle.index_query.specs.Candidates.{candidates}
use Rattle.index_query.specs.Matching.{same_bytes, text_is, name_matches, matching}
use Rattle.index_query.specs.Series.{record_of_entry, series_records}
use Rattle.index_query.specs.Records.{all_series, index_records}
use Rattle.section_records.specs.Records.{header_records, headers_left, section_records}
use Rattle.query_plan.specs.Plans.{queried}
use Rattle.query.specs.Query.{overlaid, section_query}
use Rattle.demand3.specs.Expected.{string_matches, hash_matches, name_is_match, matching_names, records_of_name, records_of_index, expected}
use Rattle.demand3.specs.Demand3.{of_none, and_then}
use Rattle.demand3.proofs.QueryLaws.{demand3}
use Rattle.reader.specs.declared.endianity.RunTimeEndian.{RunTimeEndian}
use Rattle.p_cases.proofs.CaseA.{steps_of_a_lem, bucket_steps_of_a_lem, hash_of_a_lem, hash_steps_of_a_lem, lent_a}
use Rattle.p_cases.specs.CaseA.{case_a, strings_a, header_a, index_a, steps_of_a, bucket_steps_of_a, hash_steps_of_a}
use Rattle.p_cases.specs.Queries.{LookupsInA, AllListedInA, query_of_a, found_in_a, AllOpenA, CompleteA, FoundA, two_indexes, second_header, second_index, query_of_two, found_in_two, AllOpenTwo, CompleteTwo, ExpectedTwo, open_a, old, de}
use Rattle.reader.specs.Answers.{outcome}
use Rattle.std.specs.Prelude.{Some, Ok, None}
use Rattle.entries.specs.Entries.{entry}
use Rattle.entries.specs.Series.{entries_from, entries_of, first_entry, name_entries, series, series_entry}
use Rattle.hashes.specs.Lookups.{first_in_bucket}
use Rattle.index.specs.Open.{index_of, name_index, opened}
use Rattle.index.specs.Words.{nth_word, word_bytes}
use Rattle.names.specs.Names.{name_string, name_string_in, name_string_offset, name_string_offset_in}
use Rattle.names.specs.Units.{compile_unit_in, default_compile_unit, default_compile_unit_in, foreign_type_unit_in, local_type_unit_in, nth_compile_unit, type_unit_in, unit_in}

first-bucket : outcome (Ok (Some (bucket_cursor 0 0))) ≡ find_by_bucket RunTimeEndian.Little case_a index_a 0
unfolding case_a index_a find_by_bucket first_in_bucket fitted parts place places_from sizes word_bytes hash_bytes longest read_number skipped spelled digits
first-bucket = refl

first-series : outcome (Ok (record { at = 91 })) ≡ name_entries RunTimeEndian.Little case_a index_a (record { 0 = 0 })
unfolding case_a index_a name_entries first_entry nth_word fitted parts place places_from sizes word_bytes hash_bytes longest read_number skipped spelled digits
first-series = refl

pub lookups_in_a : LookupsInA
lookups_in_a =
    let (buckets, hashes, entries) = demand3.lookups in (
      buckets RunTimeEndian.Little case_a index_a 0 (bucket_cursor 0 0) bucket_steps_of_a first-bucket bucket_steps_of_a_lem,
      hashes RunTimeEndian.Little case_a index_a 9 (hash_cursor 1 9 1) hash_steps_of_a hash_of_a_lem hash_steps_of_a_lem,
      entries RunTimeEndian.Little case_a index_a (record { 0 = 0 }) (record { at = 91 }) steps_of_a first-series steps_of_a_lem,
    )

says-complete : outcome (Ok TableCheck.Complete) ≡ table_check RunTimeEndian.Little case_a index_a
unfolding case_a index_a nth_of stored_start stored_hash bucket_of names_from run_from from_start run numbers_from filterb take_while memberb number_at spelled digits fitted parts place places_from sizes word_bytes hash_bytes longest start_above any_above is_missed missed_names verdict table_check
says-complete = refl

pub all_listed_in_a : AllListedInA
all_listed_in_a = (demand3.completeness RunTimeEndian.Little case_a index_a lent_a.0 lent_a.1).0 says-complete

pub query_of_a_lem : query_of_a ≡ found_in_a
unfolding case_a strings_a header_a index_a section_query opened queried overlaid section_records headers_left header_records headers_from header_at header header_cut header_body counts augmentation initial_length read_number skipped cut spelled digits name_index index_of cut_parts passed_over parts place places_from sizes word_bytes hash_bytes longest parsed ending table listing declaration with_attributes head attributes attributes_in pair leb128 number_of_bytes number_bytes complete base128 index_records candidates first_in_bucket find_by_hash find_by_bucket names_of_hash run run_from from_start storing stored_start stored_hash nth_of bucket_of names_from numbers_from filterb take_while memberb number_at matching name_matches name_string_in name_string_offset_in text_is same_bytes name_string name_string_offset nth_word get_str zero_from before_zero all_series series_records entries_of first_entry record_of_entry shown_by followed_by items_of counted series series_entry entries_from entry values first facts form_value as_flag as_unsigned as_offset read_byte find fitted entry_record shown entry_unit type_shown compile_shown default_shown default_compile_unit_in compile_unit_of compile_unit_in unit_in type_unit_of type_unit_in local_type_unit_in foreign_type_unit_in unit_number unit_number_in numbered_unit numbered_type_unit nth_compile_unit default_compile_unit die_offset_of die_offset_in
query_of_a_lem = refl

pub all_open_a : AllOpenA
unfolding case_a strings_a header_a index_a section_query opened queried overlaid section_records headers_left header_records headers_from header_at header header_cut header_body counts augmentation initial_length read_number skipped cut spelled digits name_index index_of cut_parts passed_over parts place places_from sizes word_bytes hash_bytes longest parsed ending table listing declaration with_attributes head attributes attributes_in pair leb128 number_of_bytes number_bytes complete base128 index_records candidates first_in_bucket find_by_hash find_by_bucket names_of_hash run run_from from_start storing stored_start stored_hash nth_of bucket_of names_from numbers_from filterb take_while memberb number_at matching name_matches name_string_in name_string_offset_in text_is same_bytes name_string name_string_offset nth_word get_str zero_from before_zero all_series series_records entries_of first_entry record_of_entry shown_by followed_by items_of counted series series_entry entries_from entry values first facts form_value as_flag as_unsigned as_offset read_byte find fitted entry_record shown entry_unit type_shown compile_shown default_shown default_compile_unit_in compile_unit_of compile_unit_in unit_in type_unit_of type_unit_in local_type_unit_in foreign_type_unit_in unit_number unit_number_in numbered_unit numbered_type_unit nth_compile_unit default_compile_unit die_offset_of die_offset_in header_step after_header first_header has_end up_to_end
all_open_a = ((record { answer = Ok (Some header_a); cursor = record { at = 109 } } ∷ record { answer = Ok None; cursor = record { at = 109 } } ∷ [], step_then refl (step_then refl no_steps), refl, refl), and_then refl of_none)

pub complete-a : CompleteA
unfolding case_a strings_a header_a index_a section_query opened queried overlaid section_records headers_left header_records headers_from header_at header header_cut header_body counts augmentation initial_length read_number skipped cut spelled digits name_index index_of cut_parts passed_over parts place places_from sizes word_bytes hash_bytes longest parsed ending table listing declaration with_attributes head attributes attributes_in pair leb128 number_of_bytes number_bytes complete base128 index_records candidates first_in_bucket find_by_hash find_by_bucket names_of_hash run run_from from_start storing stored_start stored_hash nth_of bucket_of names_from numbers_from filterb take_while memberb number_at matching name_matches name_string_in name_string_offset_in text_is same_bytes name_string name_string_offset nth_word get_str zero_from before_zero all_series series_records entries_of first_entry record_of_entry shown_by followed_by items_of counted series series_entry entries_from entry values first facts form_value as_flag as_unsigned as_offset read_byte find fitted entry_record shown entry_unit type_shown compile_shown default_shown default_compile_unit_in compile_unit_of compile_unit_in unit_in type_unit_of type_unit_in local_type_unit_in foreign_type_unit_in unit_number unit_number_in numbered_unit numbered_type_unit nth_compile_unit default_compile_unit die_offset_of die_offset_in start_above any_above is_missed missed_names verdict table_check
complete-a = and_then (inl refl) of_none

pub found-a : FoundA
found-a = demand3.query _ case_a strings_a 7 de (old ∷ old ∷ []) _ 1 (open_a ∷ []) all_open_a complete-a (sym query_of_a_lem)

pub query_of_two_lem : query_of_two ≡ found_in_two
unfolding case_a strings_a header_a index_a section_query opened queried overlaid section_records headers_left header_records headers_from header_at header header_cut header_body counts augmentation initial_length read_number skipped cut spelled digits name_index index_of cut_parts passed_over parts place places_from sizes word_bytes hash_bytes longest parsed ending table listing declaration with_attributes head attributes attributes_in pair leb128 number_of_bytes number_bytes complete base128 index_records candidates first_in_bucket find_by_hash find_by_bucket names_of_hash run run_from from_start storing stored_start stored_hash nth_of bucket_of names_from numbers_from filterb take_while memberb number_at matching name_matches name_string_in name_string_offset_in text_is same_bytes name_string name_string_offset nth_word get_str zero_from before_zero all_series series_records entries_of first_entry record_of_entry shown_by followed_by items_of counted series series_entry entries_from entry values first facts form_value as_flag as_unsigned as_offset read_byte find fitted entry_record shown entry_unit type_shown compile_shown default_shown default_compile_unit_in compile_unit_of compile_unit_in unit_in type_unit_of type_unit_in local_type_unit_in foreign_type_unit_in unit_number unit_number_in numbered_unit numbered_type_unit nth_compile_unit default_compile_unit die_offset_of die_offset_in two_indexes second_header second_index
query_of_two_lem = refl

pub all_open_two : AllOpenTwo
unfolding case_a strings_a header_a index_a section_query opened queried overlaid section_records headers_left header_records headers_from header_at header header_cut header_body counts augmentation initial_length read_number skipped cut spelled digits name_index index_of cut_parts passed_over parts place places_from sizes word_bytes hash_bytes longest parsed ending table listing declaration with_attributes head attributes attributes_in pair leb128 number_of_bytes number_bytes complete base128 index_records candidates first_in_bucket find_by_hash find_by_bucket names_of_hash run run_from from_start storing stored_start stored_hash nth_of bucket_of names_from numbers_from filterb take_while memberb number_at matching name_matches name_string_in name_string_offset_in text_is same_bytes name_string name_string_offset nth_word get_str zero_from before_zero all_series series_records entries_of first_entry record_of_entry shown_by followed_by items_of counted series series_entry entries_from entry values first facts form_value as_flag as_unsigned as_offset read_byte find fitted entry_record shown entry_unit type_shown compile_shown default_shown default_compile_unit_in compile_unit_of compile_unit_in unit_in type_unit_of type_unit_in local_type_unit_in foreign_type_unit_in unit_number unit_number_in numbered_unit numbered_type_unit nth_compile_unit default_compile_unit die_offset_of die_offset_in two_indexes second_header second_index header_step after_header first_header has_end up_to_end
all_open_two = (
  (
    record { answer = Ok (Some header_a); cursor = record { at = 109 } } ∷ record { answer = Ok (Some second_header); cursor = record { at = 178 } } ∷ record { answer = Ok None; cursor = record { at = 178 } } ∷ [],
    step_then refl (step_then refl (step_then refl no_steps)),
    refl,
    refl,
  ),
  and_then refl (and_then refl of_none),
)

pub complete_two : CompleteTwo
unfolding case_a strings_a header_a index_a section_query opened queried overlaid section_records headers_left header_records headers_from header_at header header_cut header_body counts augmentation initial_length read_number skipped cut spelled digits name_index index_of cut_parts passed_over parts place places_from sizes word_bytes hash_bytes longest parsed ending table listing declaration with_attributes head attributes attributes_in pair leb128 number_of_bytes number_bytes complete base128 index_records candidates first_in_bucket find_by_hash find_by_bucket names_of_hash run run_from from_start storing stored_start stored_hash nth_of bucket_of names_from numbers_from filterb take_while memberb number_at matching name_matches name_string_in name_string_offset_in text_is same_bytes name_string name_string_offset nth_word get_str zero_from before_zero all_series series_records entries_of first_entry record_of_entry shown_by followed_by items_of counted series series_entry entries_from entry values first facts form_value as_flag as_unsigned as_offset read_byte find fitted entry_record shown entry_unit type_shown compile_shown default_shown default_compile_unit_in compile_unit_of compile_unit_in unit_in type_unit_of type_unit_in local_type_unit_in foreign_type_unit_in unit_number unit_number_in numbered_unit numbered_type_unit nth_compile_unit default_compile_unit die_offset_of die_offset_in two_indexes second_header second_index start_above any_above is_missed missed_names verdict table_check
complete_two = and_then (inl refl) (and_then (inr refl) of_none)

pub expected_two : ExpectedTwo
unfolding case_a strings_a header_a index_a section_query opened queried overlaid section_records headers_left header_records headers_from header_at header header_cut header_body counts augmentation initial_length read_number skipped cut spelled digits name_index index_of cut_parts passed_over parts place places_from sizes word_bytes hash_bytes longest parsed ending table listing declaration with_attributes head attributes attributes_in pair leb128 number_of_bytes number_bytes complete base128 index_records candidates first_in_bucket find_by_hash find_by_bucket names_of_hash run run_from from_start storing stored_start stored_hash nth_of bucket_of names_from numbers_from filterb take_while memberb number_at matching name_matches name_string_in name_string_offset_in text_is same_bytes name_string name_string_offset nth_word get_str zero_from before_zero all_series series_records entries_of first_entry record_of_entry shown_by followed_by items_of counted series series_entry entries_from entry values first facts form_value as_flag as_unsigned as_offset read_byte find fitted entry_record shown entry_unit type_shown compile_shown default_shown default_compile_unit_in compile_unit_of compile_unit_in unit_in type_unit_of type_unit_in local_type_unit_in foreign_type_unit_in unit_number unit_number_in numbered_unit numbered_type_unit nth_compile_unit default_compile_unit die_offset_of die_offset_in two_indexes second_header second_index expected records_of_index records_of_name matching_names name_is_match hash_matches string_matches flat_map
expected_two = refl
