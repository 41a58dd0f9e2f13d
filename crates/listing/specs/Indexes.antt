-- The line of an index (SPECIFICATION 13.1 and 13.2): the place of its header, its numbers of names and of
-- buckets, and how many names the table check says are missed: 0 where it is complete, no number where there
-- is no bucket. `s` is the section and `i` the index. The line is refused by the opening of the index
-- (SPECIFICATION 6.3), or else by the table check (SPECIFICATION 11.1).
use Rattle.std.specs.Prelude.{ℕ, Option, Some, None}
use Rattle.reader.specs.Outcome.{Outcome, answered, ◌>>=◌}
use Rattle.reader.specs.declared.endianity.RunTimeEndian.{RunTimeEndian}
use Rattle.headers.specs.declared.header.NameIndexHeader.{NameIndexHeader}
use Rattle.index.specs.declared.layout.NameIndex.{NameIndex}
use Rattle.index.specs.Open.{name_index}
use Rattle.tables.specs.declared.TableCheck.{TableCheck}
use Rattle.tables.specs.Check.{table_check}
use Rattle.listing.specs.declared.index_line.Opened.{Opened}
use Rattle.reader.specs.Parts.{Section}

-- how many names are missed, by what the table check says; without a hash table there is no such number. The
-- name and the hash of an incomplete answer are not printed (SPECIFICATION 13.1).
abbrev pub missed_by : TableCheck → Option ℕ
missed_by TableCheck.NoTable = None
missed_by TableCheck.Complete = Some 0
missed_by (TableCheck.Incomplete lost) = Some lost.missed

-- a section, in its byte order
module _ (order : RunTimeEndian) (s : Section) where
  unfoldable pub missed_in : NameIndex → Outcome (Option ℕ)
  missed_in i = do
    checked ← table_check order s i
    answered (missed_by checked)

  -- an index opened from its header, and its line: refused by `NameIndex::new` or by the table check
  unfoldable pub opened_index : NameIndexHeader → Outcome Opened
  opened_index h = do
    i ← name_index s h
    missed ← missed_in i
    answered (record {
      index = i;
      line = record { place = h.offset; name_count = i.name_count; bucket_count = i.bucket_count; missed = missed };
    })
