-- What the first attribute of a name says (SPECIFICATION 9.8). `s` is the section, and `p` has an index that
-- fits, with the places of its parts. Without an attribute of the name the answer is none; of a parent it is
-- "not known". A compile unit and a type unit are unsigned numbers k, for the unit k of the index with its
-- refusals (SPECIFICATION 7.2 and 7.3); a DIE offset is an offset; a parent is an offset, the handle of its
-- entry, which is not looked at, or a flag that is true, for no parent; a type hash is an unsigned number.
-- Any other value is refused with 12 and the form, and then a k above 4,294,967,295 with 11 and k.
-- In DWARF 5 (7.19) a parent is of class constant, the number of its entry in the name table, and a type hash
-- has the form data8; gimli and this reader take a parent as an offset in the pool or as a flag, and a type
-- hash in any unsigned form.
use Rattle.std.specs.Prelude.{ℕ, cond, ltb, Option, Some, None}
use Rattle.reader.specs.Outcome.{Outcome, answered, ◌>>=◌}
use Rattle.reader.specs.declared.endianity.RunTimeEndian.{RunTimeEndian}
use Rattle.index.specs.declared.layout.Parts.{Parts}
use Rattle.names.specs.Units.{compile_unit_in, type_unit_in}
use Rattle.forms.specs.declared.NameAttributeValue.{NameAttributeValue}
use Rattle.attributes.specs.declared.attribute.FirstAttribute.{FirstAttribute}
use Rattle.attributes.specs.declared.attribute.EntryParent.{EntryParent}
use Rattle.names.specs.declared.units.NameTypeUnit.{NameTypeUnit}
use Rattle.reader.specs.declared.common.DebugInfoOffset.{DebugInfoOffset}
use Rattle.reader.specs.declared.common.UnitOffset.{UnitOffset}
use Rattle.reader.specs.Errors.{refusal}
use Rattle.reader.specs.declared.error.Error.TheVariants.{InvalidNameAttributeIndex, UnsupportedAttributeForm}
use Rattle.reader.specs.Parts.{Section}

-- the number of a unit: unsigned, else 12 with the form; and of at most 32 bits, else 11 with the number
unfoldable pub unit_number_in : ℕ → NameAttributeValue → Outcome (Option ℕ)
unit_number_in form (NameAttributeValue.Unsigned n) =
    cond (ltb 4294967295 n) (refusal (InvalidNameAttributeIndex n)) (answered (Some n))
unit_number_in form (NameAttributeValue.Offset n) = refusal (UnsupportedAttributeForm form)
unit_number_in form (NameAttributeValue.Flag b) = refusal (UnsupportedAttributeForm form)

unfoldable pub unit_number : Option FirstAttribute → Outcome (Option ℕ)
unit_number None = answered None
unit_number (Some a) = unit_number_in a.form a.value

-- the offset of the DIE: an offset
unfoldable pub die_offset_in : ℕ → NameAttributeValue → Outcome (Option UnitOffset)
die_offset_in form (NameAttributeValue.Unsigned n) = refusal (UnsupportedAttributeForm form)
die_offset_in form (NameAttributeValue.Offset n) = answered (Some (record { 0 = n }))
die_offset_in form (NameAttributeValue.Flag b) = refusal (UnsupportedAttributeForm form)

unfoldable pub die_offset_of : Option FirstAttribute → Outcome (Option UnitOffset)
die_offset_of None = answered None
die_offset_of (Some a) = die_offset_in a.form a.value

-- the parent: an offset, or flag true for no parent
unfoldable pub parent_in : ℕ → NameAttributeValue → Outcome EntryParent
parent_in form (NameAttributeValue.Unsigned n) = refusal (UnsupportedAttributeForm form)
parent_in form (NameAttributeValue.Offset n) = answered (EntryParent.Entry (record { 0 = n }))
parent_in form (NameAttributeValue.Flag b) = cond b (answered EntryParent.NoParent) (refusal (UnsupportedAttributeForm form))

unfoldable pub parent_of : Option FirstAttribute → Outcome EntryParent
parent_of None = answered EntryParent.NotKnown
parent_of (Some a) = parent_in a.form a.value

-- the hash of the type: unsigned
unfoldable pub type_hash_in : ℕ → NameAttributeValue → Outcome (Option ℕ)
type_hash_in form (NameAttributeValue.Unsigned n) = answered (Some n)
type_hash_in form (NameAttributeValue.Offset n) = refusal (UnsupportedAttributeForm form)
type_hash_in form (NameAttributeValue.Flag b) = refusal (UnsupportedAttributeForm form)

unfoldable pub type_hash_of : Option FirstAttribute → Outcome (Option ℕ)
type_hash_of None = answered None
type_hash_of (Some a) = type_hash_in a.form a.value

-- a section, in its byte order
module _ (order : RunTimeEndian) (s : Section) where
  -- the unit of that number in the index whose parts are `p`
  unfoldable pub numbered_unit : Parts → Option ℕ → Outcome (Option DebugInfoOffset)
  numbered_unit p (Some k) = do
    unit ← compile_unit_in order s p k
    answered (Some unit)
  numbered_unit p None = answered None

  unfoldable pub numbered_type_unit : Parts → Option ℕ → Outcome (Option NameTypeUnit)
  numbered_type_unit p (Some k) = do
    unit ← type_unit_in order s p k
    answered (Some unit)
  numbered_type_unit p None = answered None

  -- the compile unit, and the type unit, that the attribute names
  unfoldable pub compile_unit_of : Parts → Option FirstAttribute → Outcome (Option DebugInfoOffset)
  compile_unit_of p f = do
    number ← unit_number f
    numbered_unit p number

  unfoldable pub type_unit_of : Parts → Option FirstAttribute → Outcome (Option NameTypeUnit)
  type_unit_of p f = do
    number ← unit_number f
    numbered_type_unit p number
