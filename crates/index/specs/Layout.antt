-- Where the parts of an index lie, and when it fits (SPECIFICATION 6.1 and 6.2; DWARF 5, 6.1.1.4). `s` is the
-- section and `i` the index. From the place where the index begins on, eight parts follow one another:
-- compile units and local type units, a word each; foreign type units, 8 bytes each in both formats; the
-- starts of the buckets, 4 bytes each; the hashes of the names, 4 bytes each, but none where there are no
-- buckets; the string offsets and the entry offsets of the names, a word each; and the abbreviation table,
-- whose size in bytes the index has. A word has 4 bytes or 8, by the format. The pool is what is left up to
-- the index's end.
-- An index fits if its eight parts end at or before its own end, and that is not behind the section's end.
-- Each call on an index tests 13, where the section is too long, and then 14, where the index does not fit.
-- gimli's index holds its own bytes and has neither 13 nor 14.
use Rattle.std.specs.Prelude.{ℕ, ◌+◌, ◌*◌, ◌≤◌, cond, List, [], ◌∷◌, length, get_or, ltb, eqb}
use Rattle.reader.specs.Outcome.{Outcome, answered, ◌>>◌}
use Rattle.reader.specs.declared.error.Error.TheVariants.{DoesNotFit, SectionTooLong}
use Rattle.reader.specs.Errors.{longest, fail_if}
use Rattle.index.specs.Words.{word_bytes}
use Rattle.reader.specs.declared.common.Format.{Format}
use Rattle.index.specs.declared.layout.NameIndex.{NameIndex}
use Rattle.index.specs.declared.layout.Parts.{Parts}
use Rattle.reader.specs.Parts.{Section}

-- an index without names and units, which fits every section
unfoldable pub no_index : NameIndex
no_index = record {
  format = Format.Dwarf32;
  compile_unit_count = 0;
  local_type_unit_count = 0;
  foreign_type_unit_count = 0;
  bucket_count = 0;
  name_count = 0;
  abbrev_table_size = 0;
  begin = 0;
  end = 0;
}

-- the bytes of the hashes: none without buckets
unfoldable pub hash_bytes : ℕ → ℕ → ℕ
hash_bytes buckets names = cond (eqb buckets 0) 0 (4 * names)

-- the sizes of the eight parts, in order: the compile units, the local and the foreign type units, the
-- buckets, the hashes, the strings, the entry offsets and the abbreviations
unfoldable pub sizes : NameIndex → List ℕ
sizes i =
    word_bytes i.format i.compile_unit_count
    ∷ word_bytes i.format i.local_type_unit_count
    ∷ (8 * i.foreign_type_unit_count)
    ∷ (4 * i.bucket_count)
    ∷ hash_bytes i.bucket_count i.name_count
    ∷ word_bytes i.format i.name_count
    ∷ word_bytes i.format i.name_count
    ∷ i.abbrev_table_size
    ∷ []

-- where parts of these sizes begin that follow one another from `at` on, and where the last one ends
unfoldable pub places_from : ℕ → List ℕ → List ℕ
places_from at [] = at ∷ []
places_from at (n ∷ ns) = at ∷ places_from (at + n) ns

-- the place of part k of the index, counted from 0; the pool is part 8
unfoldable pub place : NameIndex → ℕ → ℕ
place i k = get_or (places_from i.begin (sizes i)) k 0

-- where each part begins; each ends where the next begins, and the pool ends with the index
unfoldable pub parts : NameIndex → Parts
parts i = record {
  index = i;
  compile_unit_list = place i 0;
  local_type_unit_list = place i 1;
  foreign_type_unit_list = place i 2;
  bucket_data = place i 3;
  hash_table_data = place i 4;
  name_table_data = place i 5;
  entry_offset_data = place i 6;
  abbreviation_table = place i 7;
  entry_pool = place i 8;
  end = i.end;
}

-- the eight parts and the pool follow one another and end inside the section
abbrev pub Fits : Section → NameIndex → Type 0
Fits s i = ((parts i).entry_pool ≤ i.end) × (i.end ≤ length s)

-- the parts of an index that fits: 13 is tested first, 14 next
unfoldable pub fitted : Section → NameIndex → Outcome Parts
fitted s i = do
  fail_if (ltb longest (length s)) SectionTooLong
  fail_if (ltb (length s) i.end) DoesNotFit
  fail_if (ltb i.end (parts i).entry_pool) DoesNotFit
  answered (parts i)
