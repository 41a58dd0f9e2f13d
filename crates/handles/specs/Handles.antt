-- What a caller's numbers stand for, a byte order, an index or a hash cursor, and the numbers in which an
-- index and a hash cursor are handed over (SPECIFICATION 15.1 and 15.2). As a byte order 0 is little, and any
-- other number is big. An index has words of 4 or 8 bytes, as its format says; a handle with any other format
-- stands for an index that fits no section. In a hash cursor of the caller `has_bucket` 0 means that it holds
-- no bucket cursor, and `bucket` and `name` are not looked at; any other number means that it holds one.
-- Handed over, `has_bucket` is 0, with `bucket` and `name` 0, or 1. Where there is nothing to hand over,
-- every number is 0.
use Rattle.std.specs.Prelude.{ℕ, cond, eqb, Option, Some, None}
use Rattle.reader.specs.Numbers.{word_size}
use Rattle.reader.specs.declared.endianity.RunTimeEndian.{RunTimeEndian}
use Rattle.reader.specs.declared.common.Format.{Format}
use Rattle.headers.specs.declared.header.NameIndexHeader.{NameIndexHeader}
use Rattle.index.specs.declared.layout.NameIndex.{NameIndex}
use Rattle.index.specs.Layout.{no_index}
use Rattle.hashes.specs.declared.hash.NameHashIter.{NameHashIter}
use Rattle.hashes.specs.Lookups.{hash_cursor}
use Rattle.handles.specs.declared.DebugNamesIndex.{DebugNamesIndex}
use Rattle.handles.specs.declared.DebugNamesHashCursor.{DebugNamesHashCursor}
use Rattle.hashes.specs.declared.bucket.NameBucketIter.{NameBucketIter}

-- 0 is little, any other number is big
unfoldable pub order_of : ℕ → RunTimeEndian
order_of n = cond (eqb n 0) RunTimeEndian.Little RunTimeEndian.Big

-- an index with the handle's numbers
unfoldable pub with_format : Format → DebugNamesIndex → NameIndex
with_format format h = record {
  format = format;
  compile_unit_count = h.compile_unit_count;
  local_type_unit_count = h.local_type_unit_count;
  foreign_type_unit_count = h.foreign_type_unit_count;
  bucket_count = h.bucket_count;
  name_count = h.name_count;
  abbrev_table_size = h.abbrev_table_size;
  begin = h.begin;
  end = h.end;
}

-- an index that ends before it begins, so that it fits no section
unfoldable pub misfit : NameIndex
misfit = record no_index { begin = 1 }

-- the index of a handle: words of 4 bytes or of 8; in any other format it does not fit
unfoldable pub index_from : DebugNamesIndex → NameIndex
index_from h = cond (eqb h.format 4) (with_format Format.Dwarf32 h) (cond (eqb h.format 8) (with_format Format.Dwarf64 h) misfit)

-- the handle of the index that a header describes
unfoldable pub handle_of : NameIndexHeader → DebugNamesIndex
handle_of h = record {
  begin = h.content.at;
  end = h.content.end;
  format = word_size h.format;
  compile_unit_count = h.compile_unit_count;
  local_type_unit_count = h.local_type_unit_count;
  foreign_type_unit_count = h.foreign_type_unit_count;
  bucket_count = h.bucket_count;
  name_count = h.name_count;
  abbrev_table_size = h.abbrev_table_size;
}

-- the hash cursor of a caller's numbers, and back
unfoldable pub iter_from : DebugNamesHashCursor → NameHashIter
iter_from c = cond (eqb c.has_bucket 0) (record { bucket_iter = None; hash = c.hash }) (hash_cursor c.bucket c.hash c.name.0)

abbrev cursor_in : ℕ → Option NameBucketIter → DebugNamesHashCursor
cursor_in hash None = record { hash = hash; has_bucket = 0; bucket = 0; name = record { 0 = 0 } }
cursor_in hash (Some b) = record { hash = hash; has_bucket = 1; bucket = b.bucket_index; name = b.name_table_index }

unfoldable pub cursor_from : NameHashIter → DebugNamesHashCursor
cursor_from c = cursor_in c.hash c.bucket_iter

-- where there is no index or no cursor to hand over, every number is 0
unfoldable pub no_handle : DebugNamesIndex
no_handle = record {
  begin = 0;
  end = 0;
  format = 0;
  compile_unit_count = 0;
  local_type_unit_count = 0;
  foreign_type_unit_count = 0;
  bucket_count = 0;
  name_count = 0;
  abbrev_table_size = 0;
}

unfoldable pub no_cursor : DebugNamesHashCursor
no_cursor = record { hash = 0; has_bucket = 0; bucket = 0; name = record { 0 = 0 } }
