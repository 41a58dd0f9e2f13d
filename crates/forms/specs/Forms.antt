-- The twelve forms that an attribute of an entry may have (SPECIFICATION 9.3; DWARF 5, 7.5). `s` is the
-- section; the value is read at the place `at` of its part, which ends at `end`, and numbers of a fixed width
-- in the byte order `order`. A flag is one byte, false where that is 0, else true; a flag_present has no byte
-- and is true. data1, data2, data4, data8 and udata are unsigned numbers, and ref1, ref2, ref4, ref8 and
-- ref_udata are offsets, of 1, 2, 4 and 8 bytes and as a LEB128 number of 64 bits. Where too few bytes are
-- left, it is 1 at the value's place, or at the missing byte of a LEB128 number, which may also be refused
-- with 7. Every other form is refused with 9 and the form.
-- DWARF 5 allows any form of the attribute's class (7.5.5, 7.19); gimli and this reader read these twelve
-- alone.
use Rattle.std.specs.Prelude.{ℕ, true, cond, not, eqb}
use Rattle.reader.specs.Outcome.{Outcome, answered, ◌>>=◌}
use Rattle.reader.specs.Numbers.{read_byte, read_number}
use Rattle.reader.specs.declared.reader.Read.{Read}
use Rattle.leb128.specs.Leb128.{leb128, unsigned_limit}
use Rattle.reader.specs.declared.endianity.RunTimeEndian.{RunTimeEndian}
use Rattle.forms.specs.declared.NameAttributeValue.{NameAttributeValue}
use Rattle.reader.specs.Errors.{refusal}
use Rattle.reader.specs.declared.error.Error.TheVariants.{UnknownForm}
use Rattle.reader.specs.Parts.{Section}

-- a number that was read, as a flag (true unless it is 0), as an unsigned number, or as an offset
unfoldable pub as_flag : Outcome (Read ℕ) → Outcome (Read NameAttributeValue)
as_flag read = do
  n ← read
  answered (record { value = NameAttributeValue.Flag (not (eqb n.value 0)); next = n.next })

unfoldable pub as_unsigned : Outcome (Read ℕ) → Outcome (Read NameAttributeValue)
as_unsigned read = do
  n ← read
  answered (record { value = NameAttributeValue.Unsigned n.value; next = n.next })

unfoldable pub as_offset : Outcome (Read ℕ) → Outcome (Read NameAttributeValue)
as_offset read = do
  n ← read
  answered (record { value = NameAttributeValue.Offset n.value; next = n.next })

-- the form's code selects the reading: flag, flag_present; data1, data2, data4, data8, udata; ref1, ref2,
-- ref4, ref8, ref_udata; any other is 9
unfoldable pub form_value : ℕ → RunTimeEndian → Section → ℕ → ℕ → Outcome (Read NameAttributeValue)
form_value form order s at end =
    cond (eqb form 0x0c) (as_flag (read_byte s at end))
    (cond (eqb form 0x19) (answered (record { value = NameAttributeValue.Flag true; next = at }))
    (cond (eqb form 0x0b) (as_unsigned (read_byte s at end))
    (cond (eqb form 0x05) (as_unsigned (read_number 2 order s at end))
    (cond (eqb form 0x06) (as_unsigned (read_number 4 order s at end))
    (cond (eqb form 0x07) (as_unsigned (read_number 8 order s at end))
    (cond (eqb form 0x0f) (as_unsigned (leb128 unsigned_limit s at end))
    (cond (eqb form 0x11) (as_offset (read_byte s at end))
    (cond (eqb form 0x12) (as_offset (read_number 2 order s at end))
    (cond (eqb form 0x13) (as_offset (read_number 4 order s at end))
    (cond (eqb form 0x14) (as_offset (read_number 8 order s at end))
    (cond (eqb form 0x15) (as_offset (leb128 unsigned_limit s at end))
    (refusal (UnknownForm form)))))))))))))
