-- Demand 3, that nothing is left off a list, for entry lookups: one theorem about lists of steps of any
-- length (SPECIFICATION 14.4). The law `entry-lookups` of proofs/SeriesLaws.antt proves it.
use Rattle.std.specs.Prelude.{◌≡◌, List, Ok}
use Rattle.reader.specs.Listing.{answers_of}
use Rattle.reader.specs.Steps.{Linked, ListsInOrder, answers, Taken}
use Rattle.reader.specs.declared.endianity.RunTimeEndian.{RunTimeEndian}
use Rattle.reader.specs.declared.common.NameTableIndex.{NameTableIndex}
use Rattle.index.specs.declared.layout.NameIndex.{NameIndex}
use Rattle.entries.specs.declared.series.NameEntryIter.{NameEntryIter}
use Rattle.entries.specs.Entries.{as_name_entry}
use Rattle.entries.specs.Series.{series, name_entries, entry_step}
use Rattle.reader.specs.Answers.{outcome}
use Rattle.entries.specs.declared.entry.NameEntry.{NameEntry}
use Rattle.reader.specs.Parts.{Section}

-- If `name_entries` gave the cursor c for a name, then whatever list of steps follows, each given the cursor
-- that `name_entries` or the step before it gave: their answers up to the first end are the beginning of the
-- name's series, in order and without a gap, an entry with its handle, its code and its tag, a refusal with
-- its number and value; and the first end is the first step before which all of the series is answered
-- (`ListsInOrder`).
abbrev pub EntryLookups : Type 0
EntryLookups =
    (order : RunTimeEndian) (s : Section) (i : NameIndex) (name : NameTableIndex) (c : NameEntryIter)
    (steps : List (Taken NameEntry NameEntryIter))
    → outcome (Ok c) ≡ name_entries order s i name
    → Linked (entry_step order s i) c steps
    → ListsInOrder (answers steps) (answers_of as_name_entry (series order s i name))
