-- What a query, demand 3 and the facts say of an entry with both attributes of units, by computation. Of the choice of a unit the query computes no
-- more than `type_shown`: the compile unit is not resolved.
use mathlib.Core.Path.{refl, sym}
use mathlib.Core.Logic.{inr}
use mathlib.Core.List.{[], ◌∷◌, flat_map}
use Rattle.reader.specs.Errors.{longest}
use Rattle.reader.specs.Parts.{skipped, cut}
use Rattle.reader.specs.Numbers.{digits, spelled, read_number, read_byte, initial_length}
use Rattle.reader.specs.Lists.{numbers_from, filterb}
use Rattle.reader.specs.Listing.{listing, followed_by, shown_by, items_of, counted}
use Rattle.reader.specs.Steps.{no_steps, step_then, has_end, up_to_end}
use Rattle.leb128.specs.Leb128.{leb128, number_of_bytes, number_bytes, complete, base128}
use Rattle.strings.specs.Strings.{before_zero, zero_from, get_str}
use Rattle.abbreviations.specs.Abbreviations.{pair, attributes_in, attributes, head, with_attributes, declaration, table, ending, parsed, find}
use Rattle.headers.specs.Header.{header_cut, counts, augmentation, header_body, header}
use Rattle.headers.specs.Headers.{first_header, after_header, header_step, header_at, headers_from}
use Rattle.index.specs.Layout.{hash_bytes, sizes, places_from, place, parts, fitted}
use Rattle.index.specs.Open.{passed_over, cut_parts}
use Rattle.forms.specs.Forms.{as_unsigned, as_offset, form_value}
use Rattle.attributes.specs.Attributes.{values, first, facts}
use Rattle.attributes.specs.Meaning.{unit_number_in, unit_number, numbered_unit, numbered_type_unit, compile_unit_of, type_unit_of, die_offset_in, die_offset_of}
use Rattle.entries.specs.Facts.{fact_of, entry_compile_unit, entry_type_unit}
use Rattle.hashes.specs.Table.{names_from}
use Rattle.tables.specs.Check.{table_check}
use Rattle.records.specs.Units.{type_shown, entry_unit}
use Rattle.records.specs.Records.{shown, entry_record}
use Rattle.index_query.specs.Candidates.{candidates}
use Rattle.index_query.specs.Matching.{same_bytes, text_is, name_matches, matching}
use Rattle.index_query.specs.Series.{record_of_entry, series_records}
use Rattle.index_query.specs.Records.{all_series, index_records}
use Rattle.section_records.specs.Records.{header_records, headers_left, section_records}
use Rattle.query_plan.specs.Plans.{queried}
use Rattle.query.specs.Query.{overlaid, section_query}
use Rattle.demand3.specs.Expected.{string_matches, hash_matches, name_is_match, matching_names, records_of_name, records_of_index, expected}
use Rattle.demand3.specs.Demand3.{of_none, and_then}
use Rattle.demand3.proofs.QueryLaws.{demand3}
use Rattle.p_cases.specs.CaseA.{strings_a}
use Rattle.p_cases.specs.Queries.{old, de}
use Rattle.p_cases.specs.Split.{split_units, split_header, split_index, open_split, FoundInSplit, AllOpenSplit, CompleteSplit, ExpectedSplit, SplitListed, SplitFacts}
use Rattle.std.specs.Prelude.{Some, None, Ok}
use Rattle.entries.specs.Entries.{entry, entry_at_handle}
use Rattle.entries.specs.Series.{entries_from, entries_of, first_entry, series, series_entry}
use Rattle.hashes.specs.Lookups.{first_in_bucket}
use Rattle.index.specs.Open.{index_of, name_index, opened}
use Rattle.index.specs.Words.{nth_word, word_bytes}
use Rattle.names.specs.Names.{name_string, name_string_in, name_string_offset, name_string_offset_in}
use Rattle.names.specs.Units.{compile_unit_in, foreign_type_unit, foreign_type_unit_in, local_type_unit_in, nth_compile_unit, nth_type_unit, type_unit_in, unit_in}

pub found_in_split : FoundInSplit
unfolding split_units strings_a section_query opened queried overlaid section_records headers_left header_records headers_from header_at header header_cut header_body counts augmentation initial_length read_number skipped cut spelled digits name_index index_of cut_parts passed_over parts place places_from sizes word_bytes hash_bytes longest parsed ending table listing declaration with_attributes head attributes attributes_in pair leb128 number_of_bytes number_bytes complete base128 index_records candidates first_in_bucket names_from numbers_from filterb matching name_matches name_string_in name_string_offset_in text_is same_bytes name_string name_string_offset nth_word get_str zero_from before_zero all_series series_records entries_of first_entry record_of_entry shown_by followed_by items_of counted series series_entry entries_from entry values first facts form_value as_unsigned as_offset read_byte find fitted entry_record shown entry_unit type_shown type_unit_of type_unit_in local_type_unit_in foreign_type_unit_in unit_number unit_number_in numbered_type_unit die_offset_of die_offset_in nth_type_unit foreign_type_unit
found_in_split = refl

pub all_open_split : AllOpenSplit
unfolding split_units split_header split_index headers_from header_at header header_cut header_body counts augmentation initial_length read_number skipped cut spelled digits name_index opened index_of cut_parts passed_over parts place places_from sizes word_bytes hash_bytes longest parsed ending table listing declaration with_attributes head attributes attributes_in pair leb128 number_of_bytes number_bytes complete base128 header_step after_header first_header has_end up_to_end
all_open_split = ((record { answer = Ok (Some split_header); cursor = record { at = 72 } } ∷ record { answer = Ok None; cursor = record { at = 72 } } ∷ [], step_then refl (step_then refl no_steps), refl, refl), and_then refl of_none)

pub complete_split : CompleteSplit
unfolding split_units split_header split_index parts place places_from sizes word_bytes hash_bytes longest fitted table_check
complete_split = and_then (inr refl) of_none

pub expected_split : ExpectedSplit
unfolding split_units split_header split_index strings_a read_number skipped spelled digits parts place places_from sizes word_bytes hash_bytes longest table listing declaration with_attributes head attributes attributes_in pair leb128 number_of_bytes number_bytes complete base128 numbers_from filterb text_is same_bytes name_string name_string_in name_string_offset name_string_offset_in nth_word get_str zero_from before_zero record_of_entry items_of series entries_of first_entry series_entry entries_from entry values first facts form_value as_unsigned as_offset read_byte find fitted entry_record shown entry_unit type_shown type_unit_of type_unit_in local_type_unit_in foreign_type_unit_in unit_number unit_number_in numbered_type_unit die_offset_of die_offset_in nth_type_unit foreign_type_unit expected records_of_index records_of_name matching_names name_is_match hash_matches string_matches flat_map
expected_split = refl

pub split_listed : SplitListed
split_listed = demand3.query _ split_units strings_a 7 de (old ∷ []) _ 1 open_split all_open_split complete_split (sym found_in_split)

pub split_facts : SplitFacts
unfolding split_units split_index fact_of entry_compile_unit entry_type_unit entry_at_handle entry values first form_value as_unsigned as_offset read_byte find fitted table listing declaration with_attributes head attributes attributes_in pair leb128 number_of_bytes number_bytes complete base128 read_number skipped spelled digits parts place places_from sizes word_bytes hash_bytes longest compile_unit_of compile_unit_in unit_in type_unit_of type_unit_in local_type_unit_in foreign_type_unit_in unit_number unit_number_in numbered_unit numbered_type_unit nth_compile_unit nth_word nth_type_unit foreign_type_unit
split_facts = (refl, refl)
