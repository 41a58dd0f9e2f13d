-- The number and the value of each refusal (SPECIFICATION 2.1), and the limit of refusal 13: a section of
-- 2,147,483,647 bytes is taken, a longer one is not (SPECIFICATION 2.2). Refusal 1 carries a place, 2 a
-- length, 3 a version, 8 a code, 9 and 12 a form, 10 an offset and 11 a number; the others carry none, and
-- their value is 0.
-- The names are gimli's, but for 13 and 14, which gimli does not have. Where refusal 1 carries a place, gimli
-- has an address in the reader's memory.
use Rattle.std.specs.Prelude.{ℕ, Bool}
use Rattle.reader.specs.Outcome.{Outcome, refused, demand, refuse_if}
use Rattle.reader.specs.declared.error.Error.{Error}
use Rattle.reader.specs.declared.error.Error.TheVariants.{UnexpectedEof, UnknownReservedLength, UnknownVersion, AbbreviationTagZero, AttributeNameZero, AttributeFormZero, BadUnsignedLeb128, InvalidAbbreviationCode, UnknownForm, NoEntryAtGivenOffset, InvalidNameAttributeIndex, UnsupportedAttributeForm, SectionTooLong, DoesNotFit}

abbrev pub number_of : Error → ℕ
number_of (UnexpectedEof place) = 1
number_of (UnknownReservedLength value) = 2
number_of (UnknownVersion version) = 3
number_of AbbreviationTagZero = 4
number_of AttributeNameZero = 5
number_of AttributeFormZero = 6
number_of BadUnsignedLeb128 = 7
number_of (InvalidAbbreviationCode code) = 8
number_of (UnknownForm form) = 9
number_of (NoEntryAtGivenOffset offset) = 10
number_of (InvalidNameAttributeIndex value) = 11
number_of (UnsupportedAttributeForm form) = 12
number_of SectionTooLong = 13
number_of DoesNotFit = 14

-- the one value that a refusal carries; 0 where it carries none
abbrev pub value_of : Error → ℕ
value_of (UnexpectedEof place) = place
value_of (UnknownReservedLength value) = value
value_of (UnknownVersion version) = version
value_of AbbreviationTagZero = 0
value_of AttributeNameZero = 0
value_of AttributeFormZero = 0
value_of BadUnsignedLeb128 = 0
value_of (InvalidAbbreviationCode code) = code
value_of (UnknownForm form) = form
value_of (NoEntryAtGivenOffset offset) = offset.0
value_of (InvalidNameAttributeIndex value) = value
value_of (UnsupportedAttributeForm form) = form
value_of SectionTooLong = 0
value_of DoesNotFit = 0

-- the refusal, as an outcome
abbrev pub refusal : {A : Type 0} → Error → Outcome A
refusal e = refused (number_of e) (value_of e)

-- refuses with the error where the test holds, and goes on where it does not; and the other way round
abbrev pub fail_if : Bool → Error → Outcome (Unit {0})
fail_if test e = refuse_if test (number_of e) (value_of e)

abbrev pub require : Bool → Error → Outcome (Unit {0})
require test e = demand test (number_of e) (value_of e)

-- the most bytes that a lent section may have: more are refusal 13
unfoldable pub longest : ℕ
longest = 2147483647
