-- Case A's query, and demand 3 on case A (SPECIFICATION 14.4 to 14.6): what its first two parts say of it,
-- and for the third, on case A and on a section of two indexes of which one has no hash table, that what it
-- supposes holds there, and what it says.
use Rattle.std.specs.Prelude.{ℕ, ◌^◌, ◌<◌, ◌≡◌, List, [], ◌∷◌, ◌++◌, None}
use Rattle.reader.specs.Outcome.{answered}
use Rattle.reader.specs.declared.endianity.RunTimeEndian.{RunTimeEndian}
use Rattle.reader.specs.declared.common.Format.{Format}
use Rattle.headers.specs.declared.header.NameIndexHeader.{NameIndexHeader}
use Rattle.index.specs.declared.layout.NameIndex.{NameIndex}
use Rattle.records.specs.declared.record.Record.{Record}
use Rattle.query_plan.specs.Plans.{Queried}
use Rattle.query.specs.Query.{section_query}
use Rattle.demand3.specs.Expected.{OpenIndex, expected}
use Rattle.demand3.specs.Demand3.{Each, AllOpen, CompleteOrNoTable, Finds}
use Rattle.reader.specs.Steps.{ListsInOrder, answers}
use Rattle.index.specs.Layout.{parts}
use Rattle.hashes.specs.Table.{run, names_of_hash}
use Rattle.hashes.specs.Demand3.{bucket_answers, hash_answers, bucket_names, hash_names}
use Rattle.tables.specs.Demand3.{ListsAll}
use Rattle.p_cases.specs.CaseA.{case_a, strings_a, header_a, index_a, series_of_a, steps_of_a, bucket_steps_of_a, hash_steps_of_a}

-- The first part: the steps of bucket 0, of hash 9 and of name 0 list the bucket's run, the names of the hash
-- and the series.
abbrev pub LookupsInA : Type 0
LookupsInA =
    ListsInOrder (bucket_answers bucket_steps_of_a) (bucket_names RunTimeEndian.Little case_a (parts index_a) (run RunTimeEndian.Little case_a index_a 0))
    × ListsInOrder (hash_answers hash_steps_of_a) (hash_names (names_of_hash RunTimeEndian.Little case_a index_a 9))
    × ListsInOrder (answers steps_of_a) (series_of_a 0)

-- The second: the check says complete, and so each hash lists all names that store it.
abbrev pub AllListedInA : Type 0
AllListedInA = (hash : ℕ) → hash < 2 ^ 32 → ListsAll RunTimeEndian.Little case_a index_a hash

-- a function's record, its fields as in SPECIFICATION 12.5: index offset, entry offset, name number, tag
-- 0x2e, unit kind 1 and its value, DIE offset
abbrev pub function_at : ℕ → ℕ → ℕ → ℕ → ℕ → Record
function_at index entry name unit die = record {
  unit_value = unit;
  die_offset = record { 0 = die };
  index_offset = index;
  entry_offset = entry;
  name = record { 0 = name };
  tag = 0x2e;
  unit_kind = 1;
  has_die_offset = 1;
}

-- a record as it was lent
abbrev pub old : Record
old = record {
  unit_value = 9;
  die_offset = record { 0 = 9 };
  index_offset = 9;
  entry_offset = 9;
  name = record { 0 = 9 };
  tag = 9;
  unit_kind = 9;
  has_die_offset = 9;
}

-- the name "de", whose stored hash is 7
abbrev pub de : List ℕ
de = 0x64 ∷ 0x65 ∷ []

-- one record is written, and the second lent one stays
abbrev pub query_of_a : Queried
query_of_a = section_query RunTimeEndian.Little case_a strings_a 7 de (old ∷ old ∷ [])

abbrev pub found_in_a : Queried
found_in_a = record { answer = answered 1; records = function_at 0 6 1 0 0x20 ∷ old ∷ [] }

-- case A's index, opened
abbrev pub open_a : OpenIndex
open_a = record { header = header_a; index = index_a }

abbrev pub AllOpenA : Type 0
AllOpenA = AllOpen RunTimeEndian.Little case_a (open_a ∷ [])

abbrev pub CompleteA : Type 0
CompleteA = Each (CompleteOrNoTable RunTimeEndian.Little case_a) (open_a ∷ [])

-- what demand 3 then says of case A's query
abbrev pub FoundA : Type 0
FoundA = Finds (expected RunTimeEndian.Little case_a strings_a 7 de (open_a ∷ [])) 1 (old ∷ old ∷ []) (function_at 0 6 1 0 0x20 ∷ old ∷ [])

-- Case A and after it, from place 109 on, an index without a hash table: its length; the version and its
-- padding; C; L; F; B; N; A; the augmentation; the unit; the strings; the entry offsets; the abbreviations;
-- the pool. Both of its names are "de" and share a series.
unfoldable pub two_indexes : List ℕ
two_indexes =
    case_a ++
    65 ∷ 0 ∷ 0 ∷ 0
    ∷ 5 ∷ 0 ∷ 0 ∷ 0
    ∷ 1 ∷ 0 ∷ 0 ∷ 0
    ∷ 0 ∷ 0 ∷ 0 ∷ 0
    ∷ 0 ∷ 0 ∷ 0 ∷ 0
    ∷ 0 ∷ 0 ∷ 0 ∷ 0
    ∷ 2 ∷ 0 ∷ 0 ∷ 0
    ∷ 7 ∷ 0 ∷ 0 ∷ 0
    ∷ 0 ∷ 0 ∷ 0 ∷ 0
    ∷ 0x40 ∷ 0 ∷ 0 ∷ 0
    ∷ 5 ∷ 0 ∷ 0 ∷ 0 ∷ 5 ∷ 0 ∷ 0 ∷ 0
    ∷ 0 ∷ 0 ∷ 0 ∷ 0 ∷ 0 ∷ 0 ∷ 0 ∷ 0
    ∷ 1 ∷ 0x2e ∷ 3 ∷ 0x13 ∷ 0 ∷ 0 ∷ 0
    ∷ 1 ∷ 0x70 ∷ 0 ∷ 0 ∷ 0 ∷ 0
    ∷ []

unfoldable pub second_header : NameIndexHeader
second_header = record {
  offset = record { 0 = 109 };
  length = 65;
  format = Format.Dwarf32;
  version = 5;
  compile_unit_count = 1;
  local_type_unit_count = 0;
  foreign_type_unit_count = 0;
  bucket_count = 0;
  name_count = 2;
  abbrev_table_size = 7;
  augmentation_string = None;
  content = record { at = 145; end = 178 };
}

unfoldable pub second_index : NameIndex
second_index = record {
  format = Format.Dwarf32;
  compile_unit_count = 1;
  local_type_unit_count = 0;
  foreign_type_unit_count = 0;
  bucket_count = 0;
  name_count = 2;
  abbrev_table_size = 7;
  begin = 145;
  end = 178;
}

abbrev pub opened_two : List OpenIndex
opened_two = open_a ∷ record { header = second_header; index = second_index } ∷ []

-- three entries are found, one for each name, and two records hold the first of them
abbrev pub query_of_two : Queried
query_of_two = section_query RunTimeEndian.Little two_indexes strings_a 7 de (old ∷ old ∷ [])

abbrev pub found_in_two : Queried
found_in_two = record { answer = answered 3; records = function_at 0 6 1 0 0x20 ∷ function_at 109 0 0 0x40 0x70 ∷ [] }

abbrev pub AllOpenTwo : Type 0
AllOpenTwo = AllOpen RunTimeEndian.Little two_indexes opened_two

abbrev pub CompleteTwo : Type 0
CompleteTwo = Each (CompleteOrNoTable RunTimeEndian.Little two_indexes) opened_two

abbrev pub ExpectedTwo : Type 0
ExpectedTwo =
    expected RunTimeEndian.Little two_indexes strings_a 7 de opened_two
    ≡ answered (function_at 0 6 1 0 0x20) ∷ answered (function_at 109 0 0 0x40 0x70) ∷ answered (function_at 109 0 1 0x40 0x70) ∷ []
