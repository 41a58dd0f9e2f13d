-- The five facts of an entry, each asked for by the entry's handle (SPECIFICATION 9.8). `s` is the section
-- and `i` the index. First the whole entry is read, and the fact is refused as `name_entry` is. Then the
-- first attribute with the fact's name decides, and no later one, even where its form is a wrong one; what it
-- says is defined in Meaning of `attributes`. Without such an attribute the answer is none, of a parent "not
-- known".
-- gimli's entry was read before its facts are asked for, so that there a fact cannot be refused as the entry
-- is.
use Rattle.std.specs.Prelude.{ℕ, List, Option}
use Rattle.index.specs.declared.layout.Parts.{Parts}
use Rattle.reader.specs.Outcome.{Outcome, ◌>>=◌}
use Rattle.reader.specs.declared.endianity.RunTimeEndian.{RunTimeEndian}
use Rattle.reader.specs.declared.common.NameEntryOffset.{NameEntryOffset}
use Rattle.index.specs.declared.layout.NameIndex.{NameIndex}
use Rattle.attributes.specs.declared.attribute.EntryParent.{EntryParent}
use Rattle.attributes.specs.Attributes.{NameAttribute, first, compile_unit_name, type_unit_name, die_offset_name, parent_name, type_hash_name}
use Rattle.attributes.specs.Meaning.{compile_unit_of, type_unit_of, die_offset_of, parent_of, type_hash_of}
use Rattle.entries.specs.Entries.{entry_at_handle}
use Rattle.index.specs.Layout.{fitted}
use Rattle.names.specs.declared.units.NameTypeUnit.{NameTypeUnit}
use Rattle.reader.specs.declared.common.DebugInfoOffset.{DebugInfoOffset}
use Rattle.reader.specs.declared.common.UnitOffset.{UnitOffset}
use Rattle.reader.specs.Parts.{Section}

-- a section, in its byte order
module _ (order : RunTimeEndian) (s : Section) where
  -- what the attributes of the entry with a handle say
  unfoldable pub fact_of : {A : Type 0} → (Parts → List NameAttribute → Outcome A) → NameIndex → NameEntryOffset → Outcome A
  fact_of says i offset = do
    p ← fitted s i
    e ← entry_at_handle order s p offset
    says p e.attributes

  unfoldable pub entry_compile_unit : NameIndex → NameEntryOffset → Outcome (Option DebugInfoOffset)
  entry_compile_unit = fact_of λ p list. compile_unit_of order s p (first compile_unit_name list)

  unfoldable pub entry_type_unit : NameIndex → NameEntryOffset → Outcome (Option NameTypeUnit)
  entry_type_unit = fact_of λ p list. type_unit_of order s p (first type_unit_name list)

  unfoldable pub entry_die_offset : NameIndex → NameEntryOffset → Outcome (Option UnitOffset)
  entry_die_offset = fact_of λ p list. die_offset_of (first die_offset_name list)

  unfoldable pub entry_parent : NameIndex → NameEntryOffset → Outcome EntryParent
  entry_parent = fact_of λ p list. parent_of (first parent_name list)

  unfoldable pub entry_type_hash : NameIndex → NameEntryOffset → Outcome (Option ℕ)
  entry_type_hash = fact_of λ p list. type_hash_of (first type_hash_name list)
