-- Case A of SPECIFICATION 16: its bytes, what the definitions say of its header, its parts, its units, its
-- names, its abbreviations, its entries and its hash table, that it fits, and that `name_entries`,
-- `find_by_bucket` and `find_by_hash` give cursors with linked steps, so that the theorems which suppose this
-- speak of a real index.
use Rattle.std.specs.Prelude.{ℕ, ◌^◌, ◌≤◌, ◌<◌, ◌≡◌, List, [], ◌∷◌, ◌++◌, length, take, drop, None, Ok}
use Rattle.std.specs.Prelude.{Option, Some}
use Rattle.reader.specs.Outcome.{Outcome, answered, refused}
use Rattle.reader.specs.Errors.{longest}
use Rattle.strings.specs.declared.Str.{Str}
use Rattle.reader.specs.declared.endianity.RunTimeEndian.{RunTimeEndian}
use Rattle.reader.specs.declared.common.Format.{Format}
use Rattle.headers.specs.declared.header.NameIndexHeader.{NameIndexHeader}
use Rattle.index.specs.declared.layout.NameIndex.{NameIndex}
use Rattle.index.specs.declared.layout.Parts.{Parts}
use Rattle.headers.specs.Header.{header}
use Rattle.index.specs.Layout.{Fits, fitted}
use Rattle.index.specs.Open.{name_index}
use Rattle.names.specs.Units.{nth_compile_unit}
use Rattle.names.specs.Names.{name_string, name_string_bytes}
use Rattle.names.specs.Declarations.{get_abbreviation}
use Rattle.reader.specs.Listing.{answers_of}
use Rattle.reader.specs.Steps.{Linked, Taken}
use Rattle.attributes.specs.declared.attribute.EntryParent.{EntryParent}
use Rattle.entries.specs.declared.series.NameEntryIter.{NameEntryIter}
use Rattle.entries.specs.declared.entry.NameEntry.{NameEntry}
use Rattle.entries.specs.Entries.{as_name_entry}
use Rattle.entries.specs.Series.{series, name_entries, entry_step}
use Rattle.entries.specs.Facts.{entry_die_offset, entry_parent}
use Rattle.reader.specs.Numbers.{Bytes}
use Rattle.hashes.specs.Table.{run, examined}
use Rattle.hashes.specs.Lookups.{bucket_cursor, hash_cursor, find_by_bucket, find_by_hash, bucket_step, hash_step}
use Rattle.reader.specs.Listing.{Listing, ended, item}
use Rattle.listing.specs.declared.lines.Line.{Line}
use Rattle.listing.specs.Lines.{section_lines}
use Rattle.reader.specs.Answers.{outcome}
use Rattle.hashes.specs.declared.bucket.NameBucketIter.{NameBucketIter}
use Rattle.reader.specs.declared.common.NameTableIndex.{NameTableIndex}
use Rattle.hashes.specs.declared.hash.NameHashIter.{NameHashIter}
use Rattle.hashes.specs.declared.bucket.BucketName.{BucketName}

-- the bytes of SPECIFICATION 16.1, a line for each of these: the length; the version and its padding; C; L;
-- F; B; N; A; the augmentation; the unit; the starts; the hashes; the strings; the entry offsets; the
-- abbreviations; the pool
unfoldable pub case_a : List ℕ
case_a =
    105 ∷ 0 ∷ 0 ∷ 0
    ∷ 5 ∷ 0 ∷ 0 ∷ 0
    ∷ 1 ∷ 0 ∷ 0 ∷ 0
    ∷ 0 ∷ 0 ∷ 0 ∷ 0
    ∷ 0 ∷ 0 ∷ 0 ∷ 0
    ∷ 2 ∷ 0 ∷ 0 ∷ 0
    ∷ 3 ∷ 0 ∷ 0 ∷ 0
    ∷ 7 ∷ 0 ∷ 0 ∷ 0
    ∷ 0 ∷ 0 ∷ 0 ∷ 0
    ∷ 0 ∷ 0 ∷ 0 ∷ 0
    ∷ 1 ∷ 0 ∷ 0 ∷ 0 ∷ 2 ∷ 0 ∷ 0 ∷ 0
    ∷ 4 ∷ 0 ∷ 0 ∷ 0 ∷ 7 ∷ 0 ∷ 0 ∷ 0 ∷ 9 ∷ 0 ∷ 0 ∷ 0
    ∷ 1 ∷ 0 ∷ 0 ∷ 0 ∷ 5 ∷ 0 ∷ 0 ∷ 0 ∷ 6 ∷ 0 ∷ 0 ∷ 0
    ∷ 0 ∷ 0 ∷ 0 ∷ 0 ∷ 6 ∷ 0 ∷ 0 ∷ 0 ∷ 12 ∷ 0 ∷ 0 ∷ 0
    ∷ 0x01 ∷ 0x2e ∷ 0x03 ∷ 0x13 ∷ 0 ∷ 0 ∷ 0
    ∷ 0x01 ∷ 0x10 ∷ 0 ∷ 0 ∷ 0 ∷ 0 ∷ 0x01 ∷ 0x20 ∷ 0 ∷ 0 ∷ 0 ∷ 0 ∷ 0x01 ∷ 0x30 ∷ 0 ∷ 0 ∷ 0 ∷ 0
    ∷ []

-- the same with another second start, the number of four bytes at 44
unfoldable pub second_start : ℕ → List ℕ
second_start start = take 44 case_a ++ (start ∷ drop 45 case_a)

-- its .debug_str
unfoldable pub strings_a : List ℕ
strings_a = 0x00 ∷ 0x61 ∷ 0x62 ∷ 0x63 ∷ 0x00 ∷ 0x64 ∷ 0x65 ∷ 0x00 ∷ []

-- its header
unfoldable pub header_a : NameIndexHeader
header_a = record {
  offset = record { 0 = 0 };
  length = 105;
  format = Format.Dwarf32;
  version = 5;
  compile_unit_count = 1;
  local_type_unit_count = 0;
  foreign_type_unit_count = 0;
  bucket_count = 2;
  name_count = 3;
  abbrev_table_size = 7;
  augmentation_string = None;
  content = record { at = 36; end = 109 };
}

-- its index
unfoldable pub index_a : NameIndex
index_a = record {
  format = Format.Dwarf32;
  compile_unit_count = 1;
  local_type_unit_count = 0;
  foreign_type_unit_count = 0;
  bucket_count = 2;
  name_count = 3;
  abbrev_table_size = 7;
  begin = 36;
  end = 109;
}

-- the places of its parts, as SPECIFICATION 16.1 gives them; the two lists of type units are empty
unfoldable pub parts_a : Parts
parts_a = record {
  index = index_a;
  compile_unit_list = 36;
  local_type_unit_list = 40;
  foreign_type_unit_list = 40;
  bucket_data = 40;
  hash_table_data = 48;
  name_table_data = 60;
  entry_offset_data = 72;
  abbreviation_table = 84;
  entry_pool = 91;
  end = 109;
}

abbrev pub HeaderOfA : Type 0
HeaderOfA = header RunTimeEndian.Little case_a 0 ≡ answered header_a

abbrev pub OpensA : Type 0
OpensA = name_index case_a header_a ≡ answered index_a

abbrev pub PartsOfA : Type 0
PartsOfA = fitted case_a index_a ≡ answered parts_a

-- what `NamesInOrder` and the laws of an index that fits suppose
abbrev pub FitsA : Type 0
FitsA = (length case_a ≤ longest) × Fits case_a index_a

-- unit 0 is at 0; 1 is refused at the list's end, and 2 at its start
abbrev pub UnitsOfA : Type 0
UnitsOfA =
    nth_compile_unit RunTimeEndian.Little case_a index_a 0 ∷ nth_compile_unit RunTimeEndian.Little case_a index_a 1 ∷ nth_compile_unit RunTimeEndian.Little case_a index_a 2 ∷ []
    ≡ answered (record { 0 = 0 }) ∷ refused 1 40 ∷ refused 1 36 ∷ []

-- the names are "abc", "de" and "e"; 3 is refused at the end of the strings, and 4 at their start
abbrev pub string_of_a : ℕ → Outcome Str
string_of_a k = name_string RunTimeEndian.Little case_a strings_a index_a (record { 0 = k })

abbrev pub StringsOfA : Type 0
StringsOfA =
    string_of_a 0 ∷ string_of_a 1 ∷ string_of_a 2 ∷ string_of_a 3 ∷ string_of_a 4 ∷ []
    ≡ answered (record { start = 1; len = 3 }) ∷ answered (record { start = 5; len = 2 }) ∷ answered (record { start = 6; len = 1 }) ∷ refused 1 72 ∷ refused 1 60 ∷ []

abbrev pub BytesOfA : Type 0
BytesOfA = name_string_bytes RunTimeEndian.Little case_a strings_a index_a (record { 0 = 1 }) ≡ 0x64 ∷ 0x65 ∷ []

-- code 1 is declared with tag 0x2e, its pairs at 86; code 2 is not declared
abbrev pub AbbreviationsOfA : Type 0
AbbreviationsOfA =
    get_abbreviation case_a index_a 1 ∷ get_abbreviation case_a index_a 2 ∷ []
    ≡ answered (Some (record { code = 1; tag = 0x2e; attributes = 86; next = 90 })) ∷ answered None ∷ []

-- the names' cursors are at 91, 97 and 103, which is what `EntryLookups` supposes; 3 is refused at the end of
-- the entry offsets, and 4 at their start
abbrev pub entries_of_a : ℕ → Outcome NameEntryIter
entries_of_a k = name_entries RunTimeEndian.Little case_a index_a (record { 0 = k })

abbrev pub cursor_of_a : ℕ → Outcome NameEntryIter
cursor_of_a place = outcome (Ok (record { at = place }))

abbrev pub CursorsOfA : Type 0
CursorsOfA =
    entries_of_a 0 ∷ entries_of_a 1 ∷ entries_of_a 2 ∷ entries_of_a 3 ∷ entries_of_a 4 ∷ []
    ≡ cursor_of_a 91 ∷ cursor_of_a 97 ∷ cursor_of_a 103 ∷ refused 1 84 ∷ refused 1 72 ∷ []

-- each name has one entry, at 0, 6 and 12, with code 1 and tag 0x2e; a code 0 ends its series
abbrev pub series_of_a : ℕ → List (Outcome (Option NameEntry))
series_of_a k = answers_of as_name_entry (series RunTimeEndian.Little case_a index_a (record { 0 = k }))

abbrev pub entry_at : ℕ → List (Outcome (Option NameEntry))
entry_at offset = answered (Some (record { offset = record { 0 = offset }; abbrev_code = 1; tag = 0x2e })) ∷ []

abbrev pub SeriesOfA : Type 0
SeriesOfA = series_of_a 0 ∷ series_of_a 1 ∷ series_of_a 2 ∷ [] ≡ entry_at 0 ∷ entry_at 6 ∷ entry_at 12 ∷ []

-- answers of the step that are linked from the cursor of name 0 on: its entry, the end at its code 0, and the
-- end again
abbrev pub steps_of_a : List (Taken NameEntry NameEntryIter)
steps_of_a =
    record { answer = Ok (Some (record { offset = record { 0 = 0 }; abbrev_code = 1; tag = 0x2e })); cursor = record { at = 96 } }
    ∷ record { answer = Ok None; cursor = record { at = 109 } }
    ∷ record { answer = Ok None; cursor = record { at = 109 } }
    ∷ []

abbrev pub StepsOfA : Type 0
StepsOfA = Linked (entry_step RunTimeEndian.Little case_a index_a) (record { at = 91 }) steps_of_a

-- the DIE of entry 6 is at 0x20, and its parent is not known
abbrev pub FactsOfA : Type 0
FactsOfA =
    (entry_die_offset RunTimeEndian.Little case_a index_a (record { 0 = 6 }) ≡ answered (Some (record { 0 = 0x20 })))
    × (entry_parent RunTimeEndian.Little case_a index_a (record { 0 = 6 }) ≡ answered EntryParent.NotKnown)

-- its buckets: 0 has the run 0, 1 has the run 1, 2, and there is no other; the name after the run of 0 is
-- examined, too
abbrev pub bucket_of_a : ℕ → Outcome (Option NameBucketIter)
bucket_of_a bucket = find_by_bucket RunTimeEndian.Little case_a index_a bucket

abbrev pub before_name : ℕ → ℕ → Outcome (Option NameBucketIter)
before_name bucket name = outcome (Ok (Some (bucket_cursor bucket name)))

abbrev pub BucketsOfA : Type 0
BucketsOfA = bucket_of_a 0 ∷ bucket_of_a 1 ∷ bucket_of_a 2 ∷ bucket_of_a 3 ∷ [] ≡ before_name 0 0 ∷ before_name 1 1 ∷ refused 1 48 ∷ refused 1 40 ∷ []

abbrev pub RunsOfA : Type 0
RunsOfA =
    run RunTimeEndian.Little case_a index_a 0 ∷ examined RunTimeEndian.Little case_a index_a 0 ∷ run RunTimeEndian.Little case_a index_a 1 ∷ examined RunTimeEndian.Little case_a index_a 1 ∷ []
    ≡ (0 ∷ []) ∷ (0 ∷ 1 ∷ []) ∷ (1 ∷ 2 ∷ []) ∷ (1 ∷ 2 ∷ []) ∷ []

-- answers of the steps that are linked from the cursor of bucket 0 on: name 0 with its hash, the end at name
-- 1, which is of another bucket, the end at name 2, where a step after an end goes on, and then the end at
-- the number of names, again and again
abbrev pub bucket_steps_of_a : List (Taken BucketName NameBucketIter)
bucket_steps_of_a =
    record { answer = Ok (Some (record { name = record { 0 = 0 }; hash = 4 })); cursor = bucket_cursor 0 1 }
    ∷ record { answer = Ok None; cursor = bucket_cursor 0 2 }
    ∷ record { answer = Ok None; cursor = bucket_cursor 0 3 }
    ∷ record { answer = Ok None; cursor = bucket_cursor 0 3 }
    ∷ []

abbrev pub BucketStepsOfA : Type 0
BucketStepsOfA = Linked (bucket_step RunTimeEndian.Little case_a index_a) (bucket_cursor 0 0) bucket_steps_of_a

-- hash 9 has the cursor of its bucket, and its steps pass over name 1, which stores 7
abbrev pub HashOfA : Type 0
HashOfA = outcome (Ok (hash_cursor 1 9 1)) ≡ find_by_hash RunTimeEndian.Little case_a index_a 9

abbrev pub hash_steps_of_a : List (Taken NameTableIndex NameHashIter)
hash_steps_of_a =
    record { answer = Ok (Some (record { 0 = 2 })); cursor = hash_cursor 1 9 3 }
    ∷ record { answer = Ok None; cursor = hash_cursor 1 9 3 }
    ∷ record { answer = Ok None; cursor = hash_cursor 1 9 3 }
    ∷ []

abbrev pub HashStepsOfA : Type 0
HashStepsOfA = Linked (hash_step RunTimeEndian.Little case_a index_a) (hash_cursor 1 9 1) hash_steps_of_a

-- what `CompleteExactly` supposes of any section and index that is lent
abbrev pub LentA : Type 0
LentA = Bytes case_a × (index_a.bucket_count < 2 ^ 32)

-- the five lines of its listing, as SPECIFICATION 16.3 has them, with a number of missed names
abbrev pub name_line_of : ℕ → ℕ → ℕ → Line
name_line_of number hash string = Line.Name (record { name = record { 0 = number }; hash = Some hash; string = record { 0 = string }; entries = 1 })

abbrev pub lines_missing : ℕ → Listing Line
lines_missing missed =
    item (Line.Index (record { place = record { 0 = 0 }; name_count = 3; bucket_count = 2; missed = Some missed }))
    (item (name_line_of 0 4 1) (item (name_line_of 1 7 5) (item (name_line_of 2 9 6) (item (Line.Indexes 1) ended))))

-- its listing; and with second start 4 the same lines, where only the count of missed names differs: the lost
-- name and its hash are not printed (SPECIFICATION 13.1)
abbrev pub ListingOfA : Type 0
ListingOfA = (section_lines RunTimeEndian.Little case_a ≡ lines_missing 0) × (section_lines RunTimeEndian.Little (second_start 4) ≡ lines_missing 2)
