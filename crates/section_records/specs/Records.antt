-- The records of a section (SPECIFICATION 12.2). `s` is .debug_names and `strs` is .debug_str; `hash` is the
-- hash and `text` has the bytes of the name that is asked for. 13 is tested first, for .debug_names and then
-- for .debug_str. Then come the headers from place 0 on: each index is opened, and all its records are found,
-- before the header behind it is read. The first refusal that is met, of a header, of an opening or in an
-- index, breaks the list off.
use Rattle.std.specs.Prelude.{ℕ, List, length, ltb}
use Rattle.reader.specs.declared.error.Error.TheVariants.{SectionTooLong}
use Rattle.reader.specs.Errors.{longest, fail_if}
use Rattle.reader.specs.Listing.{Listing, ended, broken, item, or_broken, followed_by}
use Rattle.reader.specs.declared.endianity.RunTimeEndian.{RunTimeEndian}
use Rattle.headers.specs.declared.header.NameIndexHeader.{NameIndexHeader}
use Rattle.headers.specs.Headers.{headers_from}
use Rattle.index.specs.Open.{index_of, opened}
use Rattle.records.specs.declared.record.Record.{Record}
use Rattle.index_query.specs.Records.{index_records}
use Rattle.reader.specs.Parts.{Section}

-- a section with its strings, in its byte order, and the name that is asked for, with its hash
module _ (order : RunTimeEndian) (s strs : Section) (hash : ℕ) (text : List ℕ) where
  -- the records of these headers, in order: each index is opened and finished before the next
  unfoldable pub header_records : Listing NameIndexHeader → Listing Record
  header_records ended = ended
  header_records (broken n v) = broken n v
  header_records (item h rest) =
      followed_by (or_broken (opened s (index_of h)) (index_records order s strs hash text h.offset.0)) (header_records rest)

  -- the records of the headers from a place on
  unfoldable pub headers_left : ℕ → Listing Record
  headers_left at = header_records (headers_from order s at)

  -- the records of a section: 13 is tested first, for .debug_names and then for .debug_str
  unfoldable pub section_records : Listing Record
  section_records =
      or_broken (fail_if (ltb longest (length s)) SectionTooLong) λ u.
      or_broken (fail_if (ltb longest (length strs)) SectionTooLong) λ v.
      headers_left 0
