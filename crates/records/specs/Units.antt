-- The unit that is shown of an entry (SPECIFICATION 12.6). `s` is the section, `p` has the opened index with
-- the places of its parts, and `f` the first attribute of each name. If the entry has a type_unit attribute,
-- in any form, its type unit is shown, or the record is refused as that is (with 12, 11 or 1): nothing stands
-- in for it, and a compile_unit attribute beside it is not resolved. Else, if it has a compile_unit
-- attribute, that compile unit, or its refusal. Else the default compile unit of the index. Else no unit.
-- Kind 1 is a compile unit and 2 a local type unit, each with its offset in .debug_info; 3 is a foreign type
-- unit, with its signature; 0 is no unit, with the value 0.
use Rattle.std.specs.Prelude.{ℕ}
use Rattle.std.specs.Prelude.{Option, Some, None}
use Rattle.reader.specs.Outcome.{Outcome, answered, refused, ◌>>=◌}
use Rattle.reader.specs.declared.endianity.RunTimeEndian.{RunTimeEndian}
use Rattle.index.specs.declared.layout.Parts.{Parts}
use Rattle.names.specs.declared.units.NameTypeUnit.{NameTypeUnit}
use Rattle.names.specs.Units.{default_compile_unit_in}
use Rattle.attributes.specs.declared.attribute.FirstAttribute.{FirstAttribute}
use Rattle.attributes.specs.declared.facts.Facts.{Facts}
use Rattle.attributes.specs.Meaning.{compile_unit_of, type_unit_of}
use Rattle.records.specs.declared.unit.ShownUnit.{ShownUnit}
use Rattle.reader.specs.declared.common.DebugInfoOffset.{DebugInfoOffset}
use Rattle.reader.specs.Parts.{Section}

-- a compile unit is kind 1, a local type unit 2, a foreign one, by its signature, 3; no unit is kind 0 with
-- the value 0
abbrev pub unit_of : ℕ → ℕ → ShownUnit
unit_of kind value = record { kind = kind; value = value }

abbrev pub of_type_unit : NameTypeUnit → ShownUnit
of_type_unit (NameTypeUnit.Local u) = unit_of 2 u.0
of_type_unit (NameTypeUnit.Foreign t) = unit_of 3 t.0

abbrev pub as_type_unit : Option NameTypeUnit → Option ShownUnit
as_type_unit (Some u) = Some (of_type_unit u)
as_type_unit None = None

abbrev pub as_compile_unit : Option DebugInfoOffset → Option ShownUnit
as_compile_unit (Some u) = Some (unit_of 1 u.0)
as_compile_unit None = None

abbrev pub as_default_unit : Option DebugInfoOffset → ShownUnit
as_default_unit (Some u) = unit_of 1 u.0
as_default_unit None = unit_of 0 0

infixr 5 ◌orNext◌
-- this unit, or this refusal; only where there is no such unit, what comes next
abbrev pub ◌orNext◌ : Outcome (Option ShownUnit) → Outcome ShownUnit → Outcome ShownUnit
◌orNext◌ (answered (Some u)) next = answered u
◌orNext◌ (answered None) next = next
◌orNext◌ (refused n v) next = refused n v

-- a section, in its byte order, and an index of it whose parts are `p`
module _ (order : RunTimeEndian) (s : Section) where
  -- the unit that the type_unit attribute names, and the one that the compile_unit attribute names; none
  -- where the entry has no such attribute
  unfoldable pub type_shown : Parts → Option FirstAttribute → Outcome (Option ShownUnit)
  type_shown p a = do
    u ← type_unit_of order s p a
    answered (as_type_unit u)

  unfoldable pub compile_shown : Parts → Option FirstAttribute → Outcome (Option ShownUnit)
  compile_shown p a = do
    u ← compile_unit_of order s p a
    answered (as_compile_unit u)

  -- the default compile unit of the index, else no unit
  unfoldable pub default_shown : Parts → Outcome ShownUnit
  default_shown p = do
    u ← default_compile_unit_in order s p
    answered (as_default_unit u)

  -- the unit: of the type_unit attribute, to whose unit the DIE belongs, else of the compile_unit attribute,
  -- else the default compile unit, else none
  unfoldable pub entry_unit : Parts → Facts → Outcome ShownUnit
  entry_unit p f =
      type_shown p f.type_unit
      orNext compile_shown p f.compile_unit
      orNext default_shown p
