-- The cases marked P hold by computation.
use mathlib.Core.Path.{refl}
use Rattle.reader.specs.Errors.{longest}
use Rattle.reader.specs.Parts.{skipped, cut}
use Rattle.reader.specs.Numbers.{digits, spelled, number_at, read_number, read_byte, initial_length}
use Rattle.reader.specs.Lists.{numbers_from, filterb, take_while, memberb}
use Rattle.reader.specs.Listing.{listing, followed_by, shown_by, items_of, counted}
use Rattle.leb128.specs.Leb128.{leb128, number_of_bytes, number_bytes, complete, base128}
use Rattle.strings.specs.Strings.{before_zero, zero_from, get_str}
use Rattle.abbreviations.specs.Abbreviations.{pair, attributes_in, attributes, head, with_attributes, declaration, table, ending, parsed, find}
use Rattle.headers.specs.Header.{header_cut, counts, augmentation, header_body, header}
use Rattle.headers.specs.Headers.{header_at, headers_from}
use Rattle.index.specs.Layout.{hash_bytes, sizes, places_from, place, parts, fitted}
use Rattle.index.specs.Open.{passed_over, cut_parts}
use Rattle.forms.specs.Forms.{as_flag, as_unsigned, as_offset, form_value}
use Rattle.attributes.specs.Attributes.{values, first, facts}
use Rattle.attributes.specs.Meaning.{unit_number_in, unit_number, numbered_unit, numbered_type_unit, compile_unit_of, type_unit_of, die_offset_in, die_offset_of}
use Rattle.hashes.specs.Table.{nth_of, stored_start, stored_hash, bucket_of, names_from, run_from, from_start, run, storing, names_of_hash}
use Rattle.hashes.specs.Lookups.{find_by_bucket, find_by_hash}
use Rattle.tables.specs.Check.{start_above, any_above, is_missed, missed_names, verdict, table_check}
use Rattle.records.specs.Units.{type_shown, compile_shown, default_shown, entry_unit}
use Rattle.records.specs.Records.{shown, entry_record}
use Rattle.index_query.specs.Candidates.{candidates}
use Rattle.index_query.specs.Matching.{same_bytes, text_is, name_matches, matching}
use Rattle.index_query.specs.Series.{record_of_entry, series_records}
use Rattle.index_query.specs.Records.{all_series, index_records}
use Rattle.section_records.specs.Records.{header_records, headers_left, section_records}
use Rattle.query_plan.specs.Plans.{queried}
use Rattle.query.specs.Query.{overlaid, section_query}
use Rattle.p_cases.specs.CaseA.{case_a, strings_a, index_a, second_start}
use Rattle.p_cases.specs.Cases.{PCases}
use Rattle.entries.specs.Entries.{entry, entry_at_handle, name_entry}
use Rattle.entries.specs.Series.{entries_from, entries_of, first_entry, series, series_entry}
use Rattle.hashes.specs.Lookups.{first_in_bucket}
use Rattle.index.specs.Open.{index_of, name_index, opened}
use Rattle.index.specs.Words.{nth_word, word_bytes}
use Rattle.names.specs.Names.{name_string, name_string_in, name_string_offset, name_string_offset_in}
use Rattle.names.specs.Units.{compile_unit_in, default_compile_unit, default_compile_unit_in, foreign_type_unit_in, local_type_unit_in, nth_compile_unit, type_unit_in, unit_in}

pub p_cases : PCases
unfolding PCases case_a second_start index_a numbers_from filterb take_while memberb nth_of stored_start stored_hash bucket_of names_from run_from from_start run storing names_of_hash start_above any_above is_missed missed_names verdict table_check number_at name_entry entry entry_at_handle values first form_value as_flag as_unsigned as_offset read_byte find table listing declaration with_attributes head attributes attributes_in pair leb128 number_of_bytes number_bytes complete base128 fitted parts place places_from sizes word_bytes hash_bytes longest read_number skipped spelled digits strings_a section_query opened queried overlaid section_records headers_left header_records headers_from header_at header header_cut header_body counts augmentation initial_length cut name_index index_of cut_parts passed_over parsed ending index_records candidates first_in_bucket find_by_hash find_by_bucket matching name_matches name_string_in name_string_offset_in text_is same_bytes name_string name_string_offset nth_word get_str zero_from before_zero all_series series_records entries_of first_entry record_of_entry shown_by followed_by items_of counted series series_entry entries_from facts entry_record shown entry_unit type_shown compile_shown default_shown default_compile_unit_in compile_unit_of compile_unit_in unit_in type_unit_of type_unit_in local_type_unit_in foreign_type_unit_in unit_number unit_number_in numbered_unit numbered_type_unit nth_compile_unit default_compile_unit die_offset_of die_offset_in
p_cases = refl
