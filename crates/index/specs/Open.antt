-- Opening an index, for C `debug_names_open`, and the index of a header, `NameIndex::new` (SPECIFICATION 6.3).
-- `s` is the section and `i` the index. 13 is tested first; then 14 where the index ends behind the section's
-- end, or before it begins. Then the eight parts in order: the first that does not end inside the index is
-- refused with 1 at the place where it begins. Then the abbreviation table is read whole, and its refusal is
-- the answer. Else the index is answered with the places of its parts, and it fits the section. Of a header
-- only the format, the counts and the content are looked at; units, starts, hashes, strings, entry offsets
-- and entries are not.
use Rattle.std.specs.Prelude.{ℕ, List, [], ◌∷◌, length, ltb}
use Rattle.reader.specs.Outcome.{Outcome, answered, ◌>>=◌, ◌>>◌}
use Rattle.reader.specs.declared.error.Error.TheVariants.{DoesNotFit, SectionTooLong}
use Rattle.reader.specs.Errors.{longest, fail_if}
use Rattle.reader.specs.Parts.{Section, skipped}
use Rattle.abbreviations.specs.Abbreviations.{parsed}
use Rattle.headers.specs.declared.header.NameIndexHeader.{NameIndexHeader}
use Rattle.index.specs.declared.layout.NameIndex.{NameIndex}
use Rattle.index.specs.declared.layout.Parts.{Parts}
use Rattle.index.specs.Layout.{sizes, parts}

-- the index that a header describes: its parts begin where its content begins
unfoldable pub index_of : NameIndexHeader → NameIndex
index_of h = record {
  format = h.format;
  compile_unit_count = h.compile_unit_count;
  local_type_unit_count = h.local_type_unit_count;
  foreign_type_unit_count = h.foreign_type_unit_count;
  bucket_count = h.bucket_count;
  name_count = h.name_count;
  abbrev_table_size = h.abbrev_table_size;
  begin = h.content.at;
  end = h.content.end;
}

-- parts of these sizes passed over one after another: refusal 1 at the first that does not lie inside
unfoldable pub passed_over : Section → List ℕ → ℕ → ℕ → Outcome ℕ
passed_over s [] at end = answered at
passed_over s (n ∷ ns) at end = do
  next ← skipped n s at end
  passed_over s ns next end

-- the parts of an index, cut in order
unfoldable pub cut_parts : Section → NameIndex → Outcome Parts
cut_parts s i = do
  passed_over s (sizes i) i.begin i.end
  answered (parts i)

-- an index opened: 13, then 14, then its parts are cut, and its abbreviation table is read whole
unfoldable pub opened : Section → NameIndex → Outcome Parts
opened s i = do
  fail_if (ltb longest (length s)) SectionTooLong
  fail_if (ltb (length s) i.end) DoesNotFit
  fail_if (ltb i.end i.begin) DoesNotFit
  p ← cut_parts s i
  parsed s p.abbreviation_table p.entry_pool
  answered p

-- `NameIndex::new`: the index that a header describes, opened
unfoldable pub name_index : Section → NameIndexHeader → Outcome NameIndex
name_index s h = do
  p ← opened s (index_of h)
  answered p.index
