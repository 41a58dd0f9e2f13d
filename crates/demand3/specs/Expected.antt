-- What a query has to find, without any search (SPECIFICATION 14.6). Of a hash table only the hash that is
-- stored for a name is looked at. `s` is .debug_names and `strs` is .debug_str; `hash` is the hash and `text`
-- has the bytes of the name that is asked for. A name of an index matches here if its string equals these
-- bytes (one that cannot be read equals nothing) and, where the index has a hash table, the hash stored for
-- it is the hash. All names are tried. Expected are the entries in the series of all names that match, an
-- entry once for each name, in the order of index, name and series.
-- What is shown of an entry is its record (SPECIFICATION 12.5), with the unit of SPECIFICATION 12.6: where an
-- entry has both a type_unit and a compile_unit attribute, the type unit.
use Rattle.std.specs.Prelude.{ℕ, Bool, true, false, cond, eqb}
use mathlib.Core.List.{List, map, flat_map}
use Rattle.reader.specs.Outcome.{Outcome, answered, refused}
use Rattle.reader.specs.Listing.{items_of}
use Rattle.reader.specs.Lists.{numbers_from, filterb}
use Rattle.reader.specs.declared.endianity.RunTimeEndian.{RunTimeEndian}
use Rattle.headers.specs.declared.header.NameIndexHeader.{NameIndexHeader}
use Rattle.index.specs.declared.layout.NameIndex.{NameIndex}
use Rattle.index.specs.Layout.{parts}
use Rattle.strings.specs.declared.Str.{Str}
use Rattle.names.specs.Names.{name_string}
use Rattle.entries.specs.Series.{series}
use Rattle.hashes.specs.Table.{stored_hash}
use Rattle.records.specs.declared.record.Record.{Record}
use Rattle.index_query.specs.Matching.{text_is}
use Rattle.index_query.specs.Series.{record_of_entry}
use Rattle.reader.specs.Parts.{Section}

-- an index that was opened, with its header
pub record OpenIndex : Type 0 where
  pub header : NameIndexHeader
  pub index : NameIndex

-- a string that cannot be read equals nothing
abbrev pub reads_as : Section → List ℕ → Outcome Str → Bool
reads_as strs text (answered t) = text_is strs text t
reads_as strs text (refused n v) = false

-- a section with its strings, in its byte order, and the name that is asked for, with its hash
module _ (order : RunTimeEndian) (s strs : Section) (hash : ℕ) (text : List ℕ) where
  -- whether the string of a name is that name
  unfoldable pub string_matches : NameIndex → ℕ → Bool
  string_matches i name = reads_as strs text (name_string order s strs i (record { 0 = name }))

  -- and its stored hash that hash; with B = 0 none is stored, and any name passes
  unfoldable pub hash_matches : NameIndex → ℕ → Bool
  hash_matches i name = cond (eqb i.bucket_count 0) true (eqb (stored_hash order s (parts i) name) hash)

  -- a name matches if both are so
  unfoldable pub name_is_match : NameIndex → ℕ → Bool
  name_is_match i name = cond (hash_matches i name) (string_matches i name) false

  -- of all N names those that match, in order
  unfoldable pub matching_names : NameIndex → List ℕ
  matching_names i = filterb (name_is_match i) (numbers_from 0 i.name_count)

  -- the records of the entries in the series of a name
  unfoldable pub records_of_name : OpenIndex → ℕ → List (Outcome Record)
  records_of_name o name =
      map (record_of_entry order s o.header.offset.0 (parts o.index) name) (items_of (series order s o.index (record { 0 = name })))

  -- those of all matching names of an index, an entry's once for each name in whose series it is
  unfoldable pub records_of_index : OpenIndex → List (Outcome Record)
  records_of_index o = flat_map (records_of_name o) (matching_names o.index)

  -- and those of all indexes, in order
  unfoldable pub expected : List OpenIndex → List (Outcome Record)
  expected indexes = flat_map records_of_index indexes
