-- Entries of the pool (SPECIFICATION 9.1, 9.2 and 9.4; DWARF 5, 6.1.1.4.8). `s` is the section, `i` the
-- index, and `p` tells where its parts lie. The handle of an entry is its place less the pool's start. At a
-- place of the pool there stands a code, a LEB128 number of 64 bits; code 0 is no entry. The declaration of
-- the code in the index's table is read next: a refusal of the table is the entry's, and where no declaration
-- has the code, it is 8 with the code. The values of its attributes follow. An entry is answered by its
-- handle, its code and its tag.
-- `name_entry`: 13 and 14 are tested first; then a skip of so many bytes from the pool's start. A handle
-- above the pool's length is refused with 1 at the pool's start, the pool's length itself with 1 at the
-- pool's end, and a handle at which code 0 stands with 10 and the handle; else it is the entry there, or its
-- refusal.
-- As in gimli, any offset inside the pool is read as the beginning of an entry, also where none begins.
-- gimli's entry holds its attributes; here they are read again from the handle.
use Rattle.std.specs.Prelude.{ℕ, ◌-◌, cond, List, eqb}
use Rattle.std.specs.Prelude.{Option, Some, None}
use Rattle.reader.specs.declared.error.Error.{Error}
use Rattle.reader.specs.declared.error.Error.TheVariants.{InvalidAbbreviationCode, NoEntryAtGivenOffset}
use Rattle.reader.specs.Errors.{number_of, value_of}
use Rattle.reader.specs.Outcome.{Outcome, answered, refused, ◌>>=◌}
use Rattle.reader.specs.Parts.{skipped}
use Rattle.leb128.specs.Leb128.{leb128, unsigned_limit}
use Rattle.reader.specs.declared.endianity.RunTimeEndian.{RunTimeEndian}
use Rattle.reader.specs.declared.common.NameEntryOffset.{NameEntryOffset}
use Rattle.abbreviations.specs.Abbreviations.{table, find}
use Rattle.index.specs.declared.layout.NameIndex.{NameIndex}
use Rattle.index.specs.declared.layout.Parts.{Parts}
use Rattle.index.specs.Layout.{fitted}
use Rattle.attributes.specs.Attributes.{NameAttribute, values}
use Rattle.entries.specs.declared.entry.NameEntry.{NameEntry}
use Rattle.reader.specs.Parts.{Section}

-- an entry: its handle, which is its offset in the pool, its abbreviation code, its tag, its attributes in
-- order, each with name, form and value, and the place after them
pub record Entry : Type 0 where
  pub offset : ℕ
  pub code : ℕ
  pub tag : ℕ
  pub attributes : List NameAttribute
  pub next : ℕ

-- what is there, or the refusal where there is none
abbrev pub or_refuse : {A : Type 0} → Option A → ℕ → ℕ → Outcome A
or_refuse (Some a) n v = answered a
or_refuse None n v = refused n v

abbrev pub or_fail : {A : Type 0} → Option A → Error → Outcome A
or_fail o e = or_refuse o (number_of e) (value_of e)

-- an entry as a call answers it: its handle, its code and its tag
abbrev pub as_name_entry : Entry → NameEntry
as_name_entry e = record { offset = record { 0 = e.offset }; abbrev_code = e.code; tag = e.tag }

-- a section, in its byte order
module _ (order : RunTimeEndian) (s : Section) where
  -- the entry at a place of the pool, none at code 0: its code's declaration, 8 where there is none, says
  -- which attributes follow
  unfoldable pub entry : Parts → ℕ → Outcome (Option Entry)
  entry p at = do
    code ← leb128 unsigned_limit s at p.end
    cond (eqb code.value 0) (answered None) (do
      declared ← find code.value (table s p.abbreviation_table p.entry_pool)
      d ← or_fail declared (InvalidAbbreviationCode code.value)
      v ← values order s d.attributes code.next p.end
      answered (Some (record { offset = at - p.entry_pool; code = code.value; tag = d.tag; attributes = v.list; next = v.next })))

  -- the entry with a handle: 10 at code 0
  unfoldable pub entry_at_handle : Parts → NameEntryOffset → Outcome Entry
  entry_at_handle p offset = do
    at ← skipped offset.0 s p.entry_pool p.end
    e ← entry p at
    or_fail e (NoEntryAtGivenOffset offset)

  -- `name_entry`
  unfoldable pub name_entry : NameIndex → NameEntryOffset → Outcome NameEntry
  name_entry i offset = do
    p ← fitted s i
    e ← entry_at_handle p offset
    answered (as_name_entry e)
