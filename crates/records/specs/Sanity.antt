-- What a reader of the choice of a unit may want to be sure of (SPECIFICATION 12.6): a type_unit attribute
-- decides; a compile_unit attribute beside it is not resolved; which of the two comes first makes a
-- difference only where both stand; and examples. The laws of proofs/UnitLaws.antt that have these types
-- prove them.
use Rattle.std.specs.Prelude.{ℕ, ◌≡◌, true, false, ◌&&◌, ◌⊎◌, List, [], ◌∷◌, Option, Some, None}
use Rattle.reader.specs.Outcome.{Outcome, answered, refused}
use Rattle.reader.specs.declared.endianity.RunTimeEndian.{RunTimeEndian}
use Rattle.reader.specs.declared.common.Format.{Format}
use Rattle.index.specs.declared.layout.NameIndex.{NameIndex}
use Rattle.index.specs.declared.layout.Parts.{Parts}
use Rattle.index.specs.Layout.{parts}
use Rattle.names.specs.declared.units.NameTypeUnit.{NameTypeUnit}
use Rattle.forms.specs.declared.NameAttributeValue.{NameAttributeValue}
use Rattle.attributes.specs.declared.attribute.FirstAttribute.{FirstAttribute}
use Rattle.attributes.specs.declared.facts.Facts.{Facts}
use Rattle.attributes.specs.Meaning.{type_unit_of}
use Rattle.attributes.specs.Sanity.{stands}
use Rattle.records.specs.declared.unit.ShownUnit.{ShownUnit}
use Rattle.records.specs.Units.{unit_of, of_type_unit, type_shown, compile_shown, default_shown, ◌orNext◌, entry_unit}
use Rattle.reader.specs.Parts.{Section}

-- the fact `type_unit` answers a unit, and that one is shown; or the fact is refused, and so is the unit
abbrev pub AsTypeUnit : Outcome (Option NameTypeUnit) → Outcome ShownUnit → Type 0
AsTypeUnit fact unit =
    ((u : NameTypeUnit) × (fact ≡ answered (Some u)) × (unit ≡ answered (of_type_unit u)))
    ⊎ ((n v : ℕ) × (fact ≡ refused n v) × (unit ≡ refused n v))

-- Where a type_unit attribute stands, it decides, and nothing stands in for its unit. `StandsExactly` of
-- `attributes` says that an attribute stands exactly if the entry has it, in any form.
abbrev pub TypeUnitDecides : Type 0
TypeUnitDecides =
    (order : RunTimeEndian) (s : Section) (p : Parts) (f : Facts) → stands f.type_unit ≡ true
    → AsTypeUnit (type_unit_of order s p f.type_unit) (entry_unit order s p f)

-- Where it stands, the compile_unit attribute is not resolved: with any other one, or none, the unit is the
-- same, and so is the refusal.
abbrev pub OtherNotResolved : Type 0
OtherNotResolved =
    (order : RunTimeEndian) (s : Section) (p : Parts) (f g : Facts) → stands f.type_unit ≡ true → f.type_unit ≡ g.type_unit
    → entry_unit order s p f ≡ entry_unit order s p g

-- a section, in its byte order
module _ (order : RunTimeEndian) (s : Section) where
  -- the choice in the other order: the compile_unit attribute first
  unfoldable pub compile_unit_first : Parts → Facts → Outcome ShownUnit
  compile_unit_first p f =
      compile_shown order s p f.compile_unit
      orNext type_shown order s p f.type_unit
      orNext default_shown order s p

-- where one of the two attributes stands, or none, the unit is the same in either order
abbrev pub OneUnitAsBefore : Type 0
OneUnitAsBefore =
    (order : RunTimeEndian) (s : Section) (p : Parts) (f : Facts) → stands f.type_unit && stands f.compile_unit ≡ false
    → entry_unit order s p f ≡ compile_unit_first order s p f

-- Computed. The lists of an index, which end at 20: the compile units 0x100 and 0x200; from 8 on the local
-- type unit 0x300; from 12 on the foreign one, 0x0102030405060708. With C 2 they begin at 0, with C 1 at 4.
abbrev pub lists : List ℕ
lists =
    0x00 ∷ 0x01 ∷ 0 ∷ 0 ∷ 0x00 ∷ 0x02 ∷ 0 ∷ 0
    ∷ 0x00 ∷ 0x03 ∷ 0 ∷ 0
    ∷ 0x08 ∷ 0x07 ∷ 0x06 ∷ 0x05 ∷ 0x04 ∷ 0x03 ∷ 0x02 ∷ 0x01
    ∷ []

abbrev pub lists_from : ℕ → ℕ → NameIndex
lists_from begin compile = record {
  format = Format.Dwarf32;
  compile_unit_count = compile;
  local_type_unit_count = 1;
  foreign_type_unit_count = 1;
  bucket_count = 0;
  name_count = 0;
  abbrev_table_size = 0;
  begin = begin;
  end = 20;
}

-- a unit's number in the form udata, and two attributes of wrong forms: a number in the form ref_udata, and a
-- flag
abbrev pub numbered : ℕ → Option FirstAttribute
numbered n = Some (record { form = 0x0f; value = NameAttributeValue.Unsigned n })

abbrev pub referred : ℕ → Option FirstAttribute
referred n = Some (record { form = 0x15; value = NameAttributeValue.Offset n })

abbrev pub flagged : Option FirstAttribute
flagged = Some (record { form = 0x0c; value = NameAttributeValue.Flag true })

-- the unit that is shown of an entry with this type_unit attribute and this compile_unit attribute
abbrev pub unit_among : NameIndex → Option FirstAttribute → Option FirstAttribute → Outcome ShownUnit
unit_among i type compile = entry_unit RunTimeEndian.Little lists (parts i) (record {
  compile_unit = compile;
  type_unit = type;
  die_offset = None;
  parent = None;
  type_hash = None;
})

abbrev pub of_two : Option FirstAttribute → Option FirstAttribute → Outcome ShownUnit
of_two = unit_among (lists_from 0 2)

abbrev pub of_one : Option FirstAttribute → Option FirstAttribute → Outcome ShownUnit
of_one = unit_among (lists_from 4 1)

-- With C 2. Both attributes: the local type unit; the foreign one; the same with a compile unit that is not
-- there (two numbers), with one of more than 32 bits, and with two of a wrong form. Then type units that are
-- refused beside a compile unit that is there: not there, at the end and at the start of the list of foreign
-- ones; of more than 32 bits; and of a wrong form. Then a type unit alone, a compile unit alone, and neither.
-- With C 1: both, a compile unit that is not there, and neither, where the only compile unit is the default.
abbrev pub UnitsComputed : Type 0
UnitsComputed =
    of_two (numbered 0) (numbered 1)
    ∷ of_two (numbered 1) (numbered 1)
    ∷ of_two (numbered 1) (numbered 2)
    ∷ of_two (numbered 1) (numbered 3)
    ∷ of_two (numbered 1) (numbered 0x100000000)
    ∷ of_two (numbered 1) (referred 1)
    ∷ of_two (numbered 1) flagged
    ∷ of_two (numbered 2) (numbered 1)
    ∷ of_two (numbered 3) (numbered 1)
    ∷ of_two (numbered 0x100000000) (numbered 1)
    ∷ of_two (referred 0) (numbered 1)
    ∷ of_two flagged (numbered 1)
    ∷ of_two (numbered 1) None
    ∷ of_two None (numbered 1)
    ∷ of_two None None
    ∷ of_one (numbered 1) (numbered 0)
    ∷ of_one None (numbered 1)
    ∷ of_one None None
    ∷ []
    ≡ answered (unit_of 2 0x300)
    ∷ answered (unit_of 3 0x0102030405060708)
    ∷ answered (unit_of 3 0x0102030405060708)
    ∷ answered (unit_of 3 0x0102030405060708)
    ∷ answered (unit_of 3 0x0102030405060708)
    ∷ answered (unit_of 3 0x0102030405060708)
    ∷ answered (unit_of 3 0x0102030405060708)
    ∷ refused 1 20
    ∷ refused 1 12
    ∷ refused 11 0x100000000
    ∷ refused 12 0x15
    ∷ refused 12 0x0c
    ∷ answered (unit_of 3 0x0102030405060708)
    ∷ answered (unit_of 1 0x200)
    ∷ answered (unit_of 0 0)
    ∷ answered (unit_of 3 0x0102030405060708)
    ∷ refused 1 8
    ∷ answered (unit_of 1 0x200)
    ∷ []

-- what the statements suppose holds of such attributes: of those that stand, in a right form and in wrong
-- ones; and of one of two, and of none
abbrev pub UnitsSuppose : Type 0
UnitsSuppose =
    (stands (numbered 1) ≡ true)
    × (stands (referred 1) ≡ true)
    × (stands flagged ≡ true)
    × (stands (numbered 1) && stands None ≡ false)
    × (stands None && stands (numbered 1) ≡ false)
    × (stands None && stands None ≡ false)
