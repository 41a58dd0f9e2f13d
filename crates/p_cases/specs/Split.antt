-- SPECIFICATION 12.6 on a section: a query meets an entry with both attributes of units, demand 3 speaks of
-- the record with the type unit, and the two facts of the entry answer each by itself.
use Rattle.std.specs.Prelude.{ℕ, ◌≡◌, List, [], ◌∷◌, ◌++◌, map, length, take, drop, Some, None}
use Rattle.reader.specs.Outcome.{answered, refused}
use Rattle.reader.specs.declared.endianity.RunTimeEndian.{RunTimeEndian}
use Rattle.reader.specs.declared.common.Format.{Format}
use Rattle.headers.specs.declared.header.NameIndexHeader.{NameIndexHeader}
use Rattle.index.specs.declared.layout.NameIndex.{NameIndex}
use Rattle.names.specs.declared.units.NameTypeUnit.{NameTypeUnit}
use Rattle.entries.specs.Facts.{entry_compile_unit, entry_type_unit}
use Rattle.records.specs.declared.record.Record.{Record}
use Rattle.query.specs.Query.{section_query}
use Rattle.demand3.specs.Expected.{OpenIndex, expected}
use Rattle.demand3.specs.Demand3.{Each, AllOpen, CompleteOrNoTable}
use Rattle.p_cases.specs.CaseA.{strings_a}
use Rattle.p_cases.specs.Queries.{old, de}

-- An index without a hash table: its length; the version and its padding; C; L; F; B; N; A; the augmentation;
-- the compile unit; the signature of the foreign type unit; the string; the entry offset; the abbreviations;
-- the pool. Its name is "de". The entry has type_unit 0, compile_unit 9, which is not there, and DIE offset
-- 5.
unfoldable pub split_units : List ℕ
split_units =
    68 ∷ 0 ∷ 0 ∷ 0
    ∷ 5 ∷ 0 ∷ 0 ∷ 0
    ∷ 1 ∷ 0 ∷ 0 ∷ 0
    ∷ 0 ∷ 0 ∷ 0 ∷ 0
    ∷ 1 ∷ 0 ∷ 0 ∷ 0
    ∷ 0 ∷ 0 ∷ 0 ∷ 0
    ∷ 1 ∷ 0 ∷ 0 ∷ 0
    ∷ 11 ∷ 0 ∷ 0 ∷ 0
    ∷ 0 ∷ 0 ∷ 0 ∷ 0
    ∷ 0x40 ∷ 0 ∷ 0 ∷ 0
    ∷ 0x08 ∷ 0x07 ∷ 0x06 ∷ 0x05 ∷ 0x04 ∷ 0x03 ∷ 0x02 ∷ 0x01
    ∷ 5 ∷ 0 ∷ 0 ∷ 0
    ∷ 0 ∷ 0 ∷ 0 ∷ 0
    ∷ 0x01 ∷ 0x13 ∷ 0x02 ∷ 0x0b ∷ 0x01 ∷ 0x0b ∷ 0x03 ∷ 0x11 ∷ 0 ∷ 0 ∷ 0
    ∷ 0x01 ∷ 0 ∷ 9 ∷ 5 ∷ 0
    ∷ []

unfoldable pub split_header : NameIndexHeader
split_header = record {
  offset = record { 0 = 0 };
  length = 68;
  format = Format.Dwarf32;
  version = 5;
  compile_unit_count = 1;
  local_type_unit_count = 0;
  foreign_type_unit_count = 1;
  bucket_count = 0;
  name_count = 1;
  abbrev_table_size = 11;
  augmentation_string = None;
  content = record { at = 36; end = 72 };
}

unfoldable pub split_index : NameIndex
split_index = record {
  format = Format.Dwarf32;
  compile_unit_count = 1;
  local_type_unit_count = 0;
  foreign_type_unit_count = 1;
  bucket_count = 0;
  name_count = 1;
  abbrev_table_size = 11;
  begin = 36;
  end = 72;
}

abbrev pub open_split : List OpenIndex
open_split = record { header = split_header; index = split_index } ∷ []

-- the record of the entry: the foreign type unit, by its signature
abbrev pub split_record : Record
split_record = record {
  unit_value = 0x0102030405060708;
  die_offset = record { 0 = 5 };
  index_offset = 0;
  entry_offset = 0;
  name = record { 0 = 0 };
  tag = 0x13;
  unit_kind = 3;
  has_die_offset = 1;
}

-- the query finds it
abbrev pub FoundInSplit : Type 0
FoundInSplit =
    section_query RunTimeEndian.Little split_units strings_a 7 de (old ∷ [])
    ≡ record { answer = answered 1; records = split_record ∷ [] }

-- what demand 3 supposes holds here, and this record is what it expects
abbrev pub AllOpenSplit : Type 0
AllOpenSplit = AllOpen RunTimeEndian.Little split_units open_split

abbrev pub CompleteSplit : Type 0
CompleteSplit = Each (CompleteOrNoTable RunTimeEndian.Little split_units) open_split

abbrev pub ExpectedSplit : Type 0
ExpectedSplit = expected RunTimeEndian.Little split_units strings_a 7 de open_split ≡ answered split_record ∷ []

-- so demand 3 says of the query
abbrev pub SplitListed : Type 0
SplitListed =
    (1 ≡ length (expected RunTimeEndian.Little split_units strings_a 7 de open_split))
    × ((new : List Record)
    × (map answered new ≡ take 1 (expected RunTimeEndian.Little split_units strings_a 7 de open_split))
    × (split_record ∷ [] ≡ new ++ drop (length new) (old ∷ [])))

-- the facts themselves answer as gimli: that compile unit is refused at the start of its list, 36, and the
-- type unit is the foreign one
abbrev pub SplitFacts : Type 0
SplitFacts =
    (entry_compile_unit RunTimeEndian.Little split_units split_index (record { 0 = 0 }) ≡ refused 1 36)
    × (entry_type_unit RunTimeEndian.Little split_units split_index (record { 0 = 0 })
    ≡ answered (Some (NameTypeUnit.Foreign (record { 0 = 0x0102030405060708 }))))
