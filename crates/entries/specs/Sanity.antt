-- What a reader of the definitions, and the crates above, may want to be sure of: an entry lies inside the
-- pool, a series has no more entries than the pool has bytes, and the handle of an entry leads to that entry
-- (SPECIFICATION 9). The laws of proofs/ that have these types prove them.
use Rattle.std.specs.Prelude.{ℕ, ◌-◌, ◌≤◌, ◌<◌, ◌≡◌}
use Rattle.std.specs.Prelude.{Some}
use Rattle.reader.specs.Outcome.{answered}
use Rattle.reader.specs.Parts.{Section, Forward}
use Rattle.reader.specs.Listing.{listed, items}
use Rattle.reader.specs.declared.endianity.RunTimeEndian.{RunTimeEndian}
use Rattle.reader.specs.declared.common.NameEntryOffset.{NameEntryOffset}
use Rattle.reader.specs.declared.common.NameTableIndex.{NameTableIndex}
use Rattle.index.specs.declared.layout.NameIndex.{NameIndex}
use Rattle.index.specs.declared.layout.Parts.{Parts}
use Rattle.index.specs.Layout.{parts}
use Rattle.entries.specs.declared.entry.NameEntry.{NameEntry}
use Rattle.entries.specs.declared.series.NameEntryIter.{NameEntryIter}
use Rattle.entries.specs.Entries.{Entry, entry, name_entry}
use Rattle.entries.specs.Series.{series_entry, entries_from, series, entry_step}

-- the bytes of an index's pool
abbrev pub pool_length : NameIndex → ℕ
pool_length i = i.end - (parts i).entry_pool

-- an entry takes at least a byte and stays inside the pool
abbrev pub EntriesForward : Type 0
EntriesForward =
    (order : RunTimeEndian) (s : Section) (p : Parts) (at : ℕ) (e : Entry) → entry order s p at ≡ answered (Some e)
    → Forward s at p.end e.next

-- what stands from a place on is its entry and what stands past it
abbrev pub SeriesUnfold : Type 0
SeriesUnfold =
    (order : RunTimeEndian) (s : Section) (p : Parts) (at : ℕ)
    → entries_from order s p at ≡ listed (series_entry order s p at) λ e. entries_from order s p e.next

-- so a series has no more entries than the pool has bytes
abbrev pub SeriesShort : Type 0
SeriesShort =
    (order : RunTimeEndian) (s : Section) (i : NameIndex) (name : NameTableIndex) → items (series order s i name) ≤ pool_length i

-- an answered entry has the handle that was asked for, which is below the pool's length
abbrev pub HandlesBelow : Type 0
HandlesBelow =
    (order : RunTimeEndian) (s : Section) (i : NameIndex) (offset : NameEntryOffset) (e : NameEntry)
    → name_entry order s i offset ≡ answered e
    → (e.offset ≡ offset) × (offset.0 < pool_length i)

-- the handle of an entry that a step answered leads to that entry
abbrev pub HandlesLead : Type 0
HandlesLead =
    (order : RunTimeEndian) (s : Section) (i : NameIndex) (c : NameEntryIter) (e : NameEntry)
    → (entry_step order s i c).answer ≡ answered (Some e)
    → name_entry order s i e.offset ≡ answered e
