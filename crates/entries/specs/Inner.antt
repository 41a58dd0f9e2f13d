-- What only the code needs: what single functions of it answer or leave. A reader of the other files need not
-- know these.
use Rattle.std.specs.Prelude.{ℕ, ◌≡◌}
use Rattle.std.specs.Prelude.{Option, Some, None}
use Rattle.reader.specs.Outcome.{Outcome, answered, ◌>>=◌}
use Rattle.reader.specs.declared.endianity.RunTimeEndian.{RunTimeEndian}
use Rattle.reader.specs.declared.common.NameEntryOffset.{NameEntryOffset}
use Rattle.index.specs.declared.layout.Parts.{Parts}
use Rattle.attributes.specs.Attributes.{facts}
use Rattle.entries.specs.declared.entry.WholeEntry.{WholeEntry}
use Rattle.entries.specs.declared.entry.EntryAt.{EntryAt}
use Rattle.reader.specs.Parts.{Section}
use Rattle.entries.specs.Entries.{Entry, entry, entry_at_handle}
use Rattle.entries.specs.Series.{series_entry, step_in}
use Rattle.entries.specs.declared.entry.NameEntry.{NameEntry}
use Rattle.entries.specs.declared.series.NameEntryIter.{NameEntryIter}
use Rattle.reader.specs.Steps.{Step}

-- one pass over an entry keeps of its attributes the first of each name
abbrev pub whole : Entry → WholeEntry
whole e = record { abbrev_code = e.code; tag = e.tag; facts = facts e.attributes; next = e.next }

-- the same with its handle
abbrev pub as_entry_at : Entry → EntryAt
as_entry_at e = record { offset = record { 0 = e.offset }; entry = whole e }

abbrev pub whole_of : Option Entry → Option WholeEntry
whole_of None = None
whole_of (Some e) = Some (whole e)

-- and what a call answers of it
abbrev pub less_whole : EntryAt → NameEntry
less_whole e = record { offset = e.offset; abbrev_code = e.entry.abbrev_code; tag = e.entry.tag }

-- a section, in its byte order
module _ (order : RunTimeEndian) (s : Section) where
  -- an entry at a place of the pool, one of a series, and that of a handle, each read whole
  unfoldable pub entry_read : Parts → ℕ → Outcome (Option WholeEntry)
  entry_read p at = do
    e ← entry order s p at
    answered (whole_of e)

  unfoldable pub series_read : Parts → ℕ → Outcome (Option WholeEntry)
  series_read p at = do
    e ← series_entry order s p at
    answered (whole_of e)

  unfoldable pub whole_entry : Parts → NameEntryOffset → Outcome WholeEntry
  whole_entry p offset = do
    e ← entry_at_handle order s p offset
    answered (whole e)

  -- the step over a series that shows its entries so
  unfoldable pub whole_step : Parts → NameEntryIter → Step EntryAt NameEntryIter
  whole_step p c = step_in order s as_entry_at p c

-- what such a step tells of an entry is what is read again from its handle
abbrev pub HandlesTell : Type 0
HandlesTell =
    (order : RunTimeEndian) (s : Section) (p : Parts) (c : NameEntryIter) (t : EntryAt)
    → (whole_step order s p c).answer ≡ answered (Some t)
    → whole_entry order s p t.offset ≡ answered t.entry
