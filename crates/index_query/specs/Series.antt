-- The records of the series of a name (SPECIFICATION 12.5). `s` is the section, `p` has the opened index with
-- the places of its parts, and `offset` is its place in the section. For each entry of the series in turn
-- the whole entry is read, then its unit is found, then its DIE offset; the first refusal breaks the list
-- off. An entry offset that leads out of the pool is refused with 1 at the pool's start.
use Rattle.std.specs.Prelude.{ℕ}
use Rattle.reader.specs.Outcome.{Outcome}
use Rattle.reader.specs.Listing.{Listing, shown_by}
use Rattle.reader.specs.declared.endianity.RunTimeEndian.{RunTimeEndian}
use Rattle.index.specs.declared.layout.Parts.{Parts}
use Rattle.attributes.specs.Attributes.{facts}
use Rattle.entries.specs.Entries.{Entry}
use Rattle.entries.specs.Series.{entries_of}
use Rattle.records.specs.declared.record.Record.{Record}
use Rattle.records.specs.Records.{entry_record}
use Rattle.reader.specs.Parts.{Section}

-- a section, in its byte order
module _ (order : RunTimeEndian) (s : Section) where
  -- the record of an entry of a name
  unfoldable pub record_of_entry : ℕ → Parts → ℕ → Entry → Outcome Record
  record_of_entry offset p name e =
      entry_record order s p (record { index = offset; name = name; entry = e.offset }) e.tag (facts e.attributes)

  -- the records of the entries of a name: each entry is read whole, then its unit, then its DIE offset
  unfoldable pub series_records : ℕ → Parts → ℕ → Listing Record
  series_records offset p name = shown_by (record_of_entry offset p name) (entries_of order s p (record { 0 = name }))
