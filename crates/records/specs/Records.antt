-- The record of an entry (SPECIFICATION 12.5): where it stands, and what is shown of it. `s` is the section,
-- `p` has the opened index with the places of its parts, `w` tells where the entry stands, and `f` has the
-- first attribute of each name. The record has the place of the index's header, the entry's handle, the
-- number of the name, the tag, the unit by kind and value, and the DIE offset, which is 0, with the flag 0,
-- if the entry has no die_offset attribute. The unit is found first (SPECIFICATION 12.6), then the DIE offset
-- (SPECIFICATION 9.8); the first of them that is refused refuses the record.
use Rattle.std.specs.Prelude.{ℕ, Option, Some, None}
use Rattle.reader.specs.Outcome.{Outcome, answered, ◌>>=◌}
use Rattle.reader.specs.declared.endianity.RunTimeEndian.{RunTimeEndian}
use Rattle.index.specs.declared.layout.Parts.{Parts}
use Rattle.attributes.specs.declared.facts.Facts.{Facts}
use Rattle.attributes.specs.Meaning.{die_offset_of}
use Rattle.records.specs.declared.unit.ShownUnit.{ShownUnit}
use Rattle.records.specs.declared.record.Record.{Record}
use Rattle.records.specs.Units.{entry_unit}
use Rattle.reader.specs.declared.common.UnitOffset.{UnitOffset}
use Rattle.reader.specs.Parts.{Section}

-- where an entry stands: the place of its index in the section, the number of the name, and its offset in the
-- pool
pub record Where : Type 0 where
  pub index : ℕ
  pub name : ℕ
  pub entry : ℕ

-- what is shown of it: its tag, its unit and its DIE offset
pub record Shown : Type 0 where
  pub tag : ℕ
  pub unit : ShownUnit
  pub die : Option UnitOffset

-- an absent DIE offset is 0, with the flag 0; one that is there has the flag 1
abbrev pub die_or_zero : Option UnitOffset → UnitOffset
die_or_zero (Some offset) = offset
die_or_zero None = record { 0 = 0 }

abbrev pub die_flag : Option UnitOffset → ℕ
die_flag (Some offset) = 1
die_flag None = 0

-- the record of what is shown there
abbrev pub record_of : Where → Shown → Record
record_of w what = record {
  unit_value = what.unit.value;
  die_offset = die_or_zero what.die;
  index_offset = w.index;
  entry_offset = w.entry;
  name = record { 0 = w.name };
  tag = what.tag;
  unit_kind = what.unit.kind;
  has_die_offset = die_flag what.die;
}

-- a section, in its byte order, and an index of it whose parts are `p`
module _ (order : RunTimeEndian) (s : Section) where
  -- its unit is found first, then its DIE offset; `f` has the first attribute of each name
  unfoldable pub shown : Parts → ℕ → Facts → Outcome Shown
  shown p tag f = do
    unit ← entry_unit order s p f
    die ← die_offset_of f.die_offset
    answered (record { tag = tag; unit = unit; die = die })

  -- the record of an entry
  unfoldable pub entry_record : Parts → Where → ℕ → Facts → Outcome Record
  entry_record p w tag f = do
    what ← shown p tag f
    answered (record_of w what)
