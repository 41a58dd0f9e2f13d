-- What only the code needs: what single functions of it answer or leave. A reader of the other files need not
-- know these.
use Rattle.std.specs.Prelude.{ℕ, ◌<◌, ◌≤◌, List, length, Option, Some, None, Result, Ok, Err}
use Rattle.reader.specs.Listing.{Listing, followed_by}
use Rattle.reader.specs.Parts.{Section}
use Rattle.reader.specs.declared.endianity.RunTimeEndian.{RunTimeEndian}
use Rattle.reader.specs.declared.error.Error.{Error}
use Rattle.index.specs.Layout.{no_index, parts}
use Rattle.index.specs.Inner.{PartsFit}
use Rattle.records.specs.declared.record.Record.{Record}
use Rattle.index_query.specs.Inner.{index_left}
use Rattle.section_records.specs.declared.QueryIter.{QueryIter}
use Rattle.section_records.specs.Records.{headers_left}

-- a section with its strings, in its byte order, and the name that is asked for, with its hash
module _ (order : RunTimeEndian) (s strs : Section) (hash : ℕ) (text : List ℕ) where
  -- the records that a cursor has left: those of its index, and those of the headers after it
  unfoldable pub query_left : QueryIter → Listing Record
  query_left c = followed_by (index_left order s strs hash text c.offset (parts c.index) c.records) (headers_left order s strs hash text c.at)

-- the cursor before the first header: no index is open
unfoldable pub first_record : QueryIter
first_record = record { at = 0; offset = 0; index = no_index; records = record { name = record { 0 = 0 }; at = 0; next = 0 } }

-- a cursor that was opened is past the header at a place, and its index fits
abbrev pub opened_past : Section → ℕ → Result (Option QueryIter) Error → Type 0
opened_past s at (Ok (Some c)) = (at < c.at) × (c.at ≤ length s) × PartsFit s (parts c.index)
opened_past s at (Ok None) = Unit {0}
opened_past s at (Err e) = Unit {0}
