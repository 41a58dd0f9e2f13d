-- What the definitions say of case A (SPECIFICATION 16), by computation.
use Prim.Native.Nat.{ℕ}
use mathlib.Core.Path.{◌≡◌, refl}
use mathlib.Core.Bool.{Bool, true, false, cond}
use mathlib.Core.List.{List, [], ◌∷◌}
use lib.Dec.{ltb}
use borrow.Author.Tests.{ltb-true}
use native.Mathlib.Omega.{arith}
use Rattle.reader.specs.Errors.{longest}
use Rattle.reader.specs.Parts.{skipped, cut}
use Rattle.reader.specs.Numbers.{digits, spelled, Bytes, no_bytes, byte_then, number_at, read_number, read_byte, initial_length}
use Rattle.leb128.specs.Leb128.{leb128, number_of_bytes, number_bytes, complete, base128}
use Rattle.strings.specs.Strings.{before_zero, zero_from, get_str, text_bytes}
use Rattle.reader.specs.Listing.{listing, counted, answers_of}
use Rattle.reader.specs.Steps.{no_steps, step_then}
use Rattle.abbreviations.specs.Abbreviations.{pair, attributes_in, attributes, head, with_attributes, declaration, table, ending, parsed, find, found}
use Rattle.headers.specs.Header.{header_cut, counts, augmentation, header_body, header}
use Rattle.index.specs.Layout.{hash_bytes, sizes, places_from, place, parts, fitted}
use Rattle.index.specs.Open.{passed_over, cut_parts}
use Rattle.names.specs.Names.{name_string_bytes}
use Rattle.names.specs.Declarations.{get_abbreviation}
use Rattle.forms.specs.Forms.{as_flag, as_unsigned, as_offset, form_value}
use Rattle.attributes.specs.Attributes.{values, first}
use Rattle.attributes.specs.Meaning.{die_offset_of, die_offset_in, parent_of, parent_in}
use Rattle.entries.specs.Facts.{fact_of, entry_die_offset, entry_parent}
use Rattle.reader.specs.Lists.{numbers_from, filterb, take_while, memberb}
use Rattle.hashes.specs.Table.{nth_of, stored_start, stored_hash, bucket_of, names_from, run_from, examined_from, from_start, run, examined, storing}
use Rattle.hashes.specs.Lookups.{find_by_bucket, find_by_hash, first_or, next_in_bucket, next_storing, bucket_step, hash_step}
use Rattle.headers.specs.Headers.{header_at, headers_from}
use Rattle.tables.specs.Check.{start_above, any_above, is_missed, missed_names, verdict, table_check}
use Rattle.listing.specs.Names.{name_line}
use Rattle.listing.specs.Indexes.{missed_in, opened_index}
use Rattle.listing.specs.Lines.{name_lines, header_lines, section_lines}
use Rattle.p_cases.specs.CaseA.{case_a, second_start, strings_a, header_a, index_a, parts_a, HeaderOfA, OpensA, PartsOfA, FitsA, UnitsOfA, StringsOfA, BytesOfA, AbbreviationsOfA, CursorsOfA, SeriesOfA, StepsOfA, FactsOfA, BucketsOfA, RunsOfA, BucketStepsOfA, HashOfA, HashStepsOfA, LentA, ListingOfA}
use Rattle.entries.specs.Entries.{entry, entry_at_handle}
use Rattle.entries.specs.Series.{entries_from, entries_of, entry_step, first_entry, moved, name_entries, series, series_entry, step_in}
use Rattle.hashes.specs.Lookups.{first_in_bucket}
use Rattle.hashes.specs.Table.{name_hash}
use Rattle.index.specs.Open.{index_of, name_index, opened}
use Rattle.index.specs.Words.{nth_word, word_bytes}
use Rattle.names.specs.Names.{name_string, name_string_in, name_string_offset, name_string_offset_in}
use Rattle.names.specs.Units.{compile_unit_in, nth_compile_unit, unit_in}

pub header_of_a : HeaderOfA
unfolding case_a header_a header header_cut header_body counts augmentation initial_length read_number skipped cut spelled digits
header_of_a = refl

pub opens_a : OpensA
unfolding case_a header_a index_a name_index opened index_of cut_parts passed_over parts place places_from sizes word_bytes hash_bytes skipped longest parsed ending table listing declaration with_attributes head attributes attributes_in pair leb128 number_of_bytes number_bytes complete base128
opens_a = refl

pub parts_of_a : PartsOfA
unfolding case_a index_a parts_a fitted parts place places_from sizes word_bytes hash_bytes longest
parts_of_a = refl

pub fits-a : FitsA
unfolding case_a index_a parts place places_from sizes word_bytes hash_bytes longest
fits-a = (omega arith, (omega arith, omega arith))

pub units_of_a : UnitsOfA
unfolding case_a index_a nth_compile_unit compile_unit_in unit_in nth_word fitted parts place places_from sizes word_bytes hash_bytes longest read_number skipped spelled digits
units_of_a = refl

pub strings_of_a : StringsOfA
unfolding case_a strings_a index_a name_string name_string_in name_string_offset name_string_offset_in nth_word fitted parts place places_from sizes word_bytes hash_bytes longest read_number skipped spelled digits get_str zero_from before_zero
strings_of_a = refl

pub bytes_of_a : BytesOfA
unfolding case_a strings_a index_a name_string_bytes text_bytes name_string name_string_in name_string_offset name_string_offset_in nth_word fitted parts place places_from sizes word_bytes hash_bytes longest read_number skipped spelled digits get_str zero_from before_zero
bytes_of_a = refl

pub abbreviations_of_a : AbbreviationsOfA
unfolding case_a index_a get_abbreviation found find table listing declaration with_attributes head attributes attributes_in pair leb128 number_of_bytes number_bytes complete base128 fitted parts place places_from sizes word_bytes hash_bytes longest
abbreviations_of_a = refl

pub cursors_of_a : CursorsOfA
unfolding case_a index_a name_entries first_entry nth_word fitted parts place places_from sizes word_bytes hash_bytes longest read_number skipped spelled digits
cursors_of_a = refl

pub series_of_a_lem : SeriesOfA
unfolding case_a index_a series entries_of first_entry series_entry entries_from answers_of nth_word entry values first form_value as_flag as_unsigned as_offset read_byte find table listing declaration with_attributes head attributes attributes_in pair leb128 number_of_bytes number_bytes complete base128 fitted parts place places_from sizes word_bytes hash_bytes longest read_number skipped spelled digits
series_of_a_lem = refl

pub steps_of_a_lem : StepsOfA
unfolding case_a index_a entry_step step_in moved series_entry entry values first form_value as_flag as_unsigned as_offset read_byte find table listing declaration with_attributes head attributes attributes_in pair leb128 number_of_bytes number_bytes complete base128 fitted parts place places_from sizes word_bytes hash_bytes longest read_number skipped spelled digits
steps_of_a_lem = step_then refl (step_then refl (step_then refl no_steps))

pub facts_of_a : FactsOfA
unfolding case_a index_a fact_of entry_die_offset entry_parent die_offset_of die_offset_in parent_of parent_in entry entry_at_handle values first form_value as_flag as_unsigned as_offset read_byte find table listing declaration with_attributes head attributes attributes_in pair leb128 number_of_bytes number_bytes complete base128 fitted parts place places_from sizes word_bytes hash_bytes longest read_number skipped spelled digits
facts_of_a = (refl, refl)

pub buckets_of_a : BucketsOfA
unfolding case_a index_a find_by_bucket first_in_bucket fitted parts place places_from sizes word_bytes hash_bytes longest read_number skipped spelled digits
buckets_of_a = refl

pub runs_of_a : RunsOfA
unfolding case_a index_a run examined nth_of stored_start stored_hash bucket_of names_from run_from examined_from from_start numbers_from take_while number_at spelled digits fitted parts place places_from sizes word_bytes hash_bytes longest
runs_of_a = refl

pub bucket_steps_of_a_lem : BucketStepsOfA
unfolding case_a index_a bucket_step next_in_bucket first_or nth_of stored_start stored_hash bucket_of names_from run_from examined_from from_start numbers_from take_while number_at spelled digits fitted parts place places_from sizes word_bytes hash_bytes longest
bucket_steps_of_a_lem = step_then refl (step_then refl (step_then refl (step_then refl no_steps)))

pub hash_of_a_lem : HashOfA
unfolding case_a index_a find_by_hash find_by_bucket first_in_bucket bucket_of fitted parts place places_from sizes word_bytes hash_bytes longest read_number skipped spelled digits
hash_of_a_lem = refl

pub hash_steps_of_a_lem : HashStepsOfA
unfolding case_a index_a hash_step next_storing storing filterb first_or nth_of stored_start stored_hash bucket_of names_from run_from examined_from from_start numbers_from take_while number_at spelled digits fitted parts place places_from sizes word_bytes hash_bytes longest
hash_steps_of_a_lem = step_then refl (step_then refl (step_then refl no_steps))

-- whether all numbers of a list are below 256: then it is a list of bytes
unfoldable all_below : List ℕ → Bool
all_below [] = true
all_below (b ∷ bs) = cond (ltb b 256) (all_below bs) false

bytes_below : (l : List ℕ) → all_below l ≡ true → Bytes l
unfolding all_below
bytes_below [] e = no_bytes
bytes_below (b ∷ bs) e = tested (ltb b 256) refl e (bytes_below bs)
  where
    tested : (t : Bool) → ltb b 256 ≡ t → cond t (all_below bs) false ≡ true → (all_below bs ≡ true → Bytes bs) → Bytes (b ∷ bs)
    tested true below e rest = byte_then (ltb-true b 256 below) (rest e)
    tested false below e rest = absurd (let z : ◌≡◌ {A = ℕ} 0 1 = cc in omega arith)

pub lent_a : LentA
unfolding case_a index_a all_below
lent_a = (bytes_below case_a refl, omega arith)

pub listing_of_a : ListingOfA
unfolding case_a second_start section_lines header_lines name_lines name_line name_string_offset_in entries_of first_entry name_hash counted opened_index missed_in headers_from header_at header header_cut header_body counts augmentation initial_length read_number skipped cut spelled digits name_index opened index_of cut_parts passed_over parts place places_from sizes word_bytes hash_bytes longest parsed ending table listing declaration with_attributes head attributes attributes_in pair leb128 number_of_bytes number_bytes complete base128 series series_entry entries_from nth_word entry values first form_value as_flag as_unsigned as_offset read_byte find fitted nth_of stored_start stored_hash bucket_of names_from run_from from_start run numbers_from filterb take_while memberb number_at start_above any_above is_missed missed_names verdict table_check name_string_offset
listing_of_a = (refl, refl)
