-- The series of a name, and the steps over it (SPECIFICATION 9.5 to 9.7; DWARF 5, 6.1.1.4.8). `s` is the
-- section, `i` the index, and `p` tells where its parts lie. The series begins at the name's entry offset,
-- counted from the pool's start, and is the entries from there on, each where the one before it ended, up to
-- the pool's end, a code 0, or an entry that is refused. `name_entries` of name k answers the cursor before
-- the first of them, a place: 13 and 14; where k is the number of names, 1 at the end of the list of entry
-- offsets; where it is larger, 1 at that list's start; where the entry offset is above the pool's length, 1
-- at the pool's start.
-- The step, `NameEntryIter::next`: 13; 14 of the index; 14 where the cursor lies before the pool or behind
-- its end. Then it answers the entry at the cursor, and the cursor is past it; or the end, at the pool's end
-- or at a code 0, or the entry's refusal, and the cursor is at the pool's end.
-- In DWARF 5 a series ends with code 0; here, as in gimli, it may also end with the pool.
use Rattle.std.specs.Prelude.{ℕ, ◌-◌, cond, ltb, eqb}
use Rattle.std.specs.Prelude.{Option, Some, None}
use Rattle.reader.specs.Outcome.{Outcome, answered, refused, ◌>>=◌, ◌>>◌}
use Rattle.reader.specs.Parts.{part_end, left_at, skipped}
use Rattle.reader.specs.Listing.{Listing, listing, or_broken}
use Rattle.reader.specs.Steps.{Step, keeping}
use Rattle.reader.specs.declared.endianity.RunTimeEndian.{RunTimeEndian}
use Rattle.reader.specs.declared.common.NameTableIndex.{NameTableIndex}
use Rattle.index.specs.declared.layout.NameIndex.{NameIndex}
use Rattle.index.specs.declared.layout.Parts.{Parts}
use Rattle.index.specs.Layout.{fitted}
use Rattle.index.specs.Words.{nth_word}
use Rattle.entries.specs.declared.entry.NameEntry.{NameEntry}
use Rattle.entries.specs.declared.series.NameEntryIter.{NameEntryIter}
use Rattle.entries.specs.Entries.{Entry, entry, as_name_entry}
use Rattle.reader.specs.Errors.{fail_if}
use Rattle.reader.specs.declared.error.Error.TheVariants.{DoesNotFit}
use Rattle.reader.specs.Parts.{Section}

-- a cursor at a place
abbrev pub cursor_at : ℕ → NameEntryIter
cursor_at place = record { at = place }

-- what a step answers: an entry, of which `shown` is shown, with the cursor past it; after an end or a
-- refusal the cursor is at the pool's end
unfoldable pub moved : {A : Type 0} → (Entry → A) → Parts → Outcome (Option Entry) → Step A NameEntryIter
moved shown p (answered (Some e)) = record { answer = answered (Some (shown e)); cursor = cursor_at e.next }
moved shown p (answered None) = record { answer = answered None; cursor = cursor_at p.end }
moved shown p (refused n v) = record { answer = refused n v; cursor = cursor_at p.end }

-- a section, in its byte order
module _ (order : RunTimeEndian) (s : Section) where
  -- In an index whose parts are `p`: the place of a name's first entry. The entry offset that is stored for
  -- the name counts from the pool's start.
  unfoldable pub first_entry : Parts → NameTableIndex → Outcome ℕ
  first_entry p name = do
    offset ← nth_word p.index.format order s p.entry_offset_data p.abbreviation_table name.0
    skipped offset.value s p.entry_pool p.end

  -- the entry at a place, none where the series ends: at the pool's end, and at code 0
  unfoldable pub series_entry : Parts → ℕ → Outcome (Option Entry)
  series_entry p at = cond (eqb (left_at s at p.end) 0) (answered None) (entry order s p at)

  -- the entries from a place on, each beginning where the last ended, up to the series' end or the first
  -- refused entry
  unfoldable pub entries_from : Parts → ℕ → Listing Entry
  entries_from p at = listing (series_entry p) (λ e. e.next) (part_end s p.end - at) at

  -- The entries of a name: those from its first on. Where there is no such place in the pool, the list is
  -- broken off at once, with that refusal.
  unfoldable pub entries_of : Parts → NameTableIndex → Listing Entry
  entries_of p name = or_broken (first_entry p name) (entries_from p)

  -- The series of a name. 13 and 14 of the index are tested first, here and in the calls.
  unfoldable pub series : NameIndex → NameTableIndex → Listing Entry
  series i name = or_broken (fitted s i) λ p. entries_of p name

  -- `name_entries`: the cursor before the first entry
  unfoldable pub name_entries : NameIndex → NameTableIndex → Outcome NameEntryIter
  name_entries i name = do
    p ← fitted s i
    place ← first_entry p name
    answered (cursor_at place)

  -- the step of a cursor that lies in the pool or at its end, else 14
  unfoldable pub step_in : {A : Type 0} → (Entry → A) → Parts → NameEntryIter → Step A NameEntryIter
  step_in shown p c = keeping c (do
    fail_if (ltb c.at p.entry_pool) DoesNotFit
    fail_if (ltb p.end c.at) DoesNotFit
    answered (moved shown p (series_entry p c.at)))

  -- `NameEntryIter::next`: an entry is shown by its handle, its code and its tag
  unfoldable pub entry_step : NameIndex → NameEntryIter → Step NameEntry NameEntryIter
  entry_step i c = keeping c (do
    p ← fitted s i
    answered (step_in as_name_entry p c))
