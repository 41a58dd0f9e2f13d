-- Refusals are told apart by the number and the value of SPECIFICATION 2.1: no outcome drops what a refusal says.
use Prim.Native.Nat.{ℕ, ◌≤◌}
use mathlib.Core.Path.{◌≡◌, refl, sym, ap₂, ◌∙◌}
use mathlib.Core.Bool.{cond}
use native.Mathlib.Omega.{arith}
use lib.Dec.{eqb}
use Rattle.reader.specs.Errors.{number_of, value_of, longest}
use Rattle.reader.specs.declared.error.Error.{Error}
use Rattle.reader.specs.declared.error.Error.TheVariants.{UnexpectedEof, UnknownReservedLength, UnknownVersion, AbbreviationTagZero, AttributeNameZero, AttributeFormZero, BadUnsignedLeb128, InvalidAbbreviationCode, UnknownForm, NoEntryAtGivenOffset, InvalidNameAttributeIndex, UnsupportedAttributeForm, SectionTooLong, DoesNotFit}

-- a refusal, from its number and its value
unfoldable pub error_of : ℕ → ℕ → Error
error_of n v =
    cond (eqb n 1) (UnexpectedEof v)
    (cond (eqb n 2) (UnknownReservedLength v)
    (cond (eqb n 3) (UnknownVersion v)
    (cond (eqb n 4) AbbreviationTagZero
    (cond (eqb n 5) AttributeNameZero
    (cond (eqb n 6) AttributeFormZero
    (cond (eqb n 7) BadUnsignedLeb128
    (cond (eqb n 8) (InvalidAbbreviationCode v)
    (cond (eqb n 9) (UnknownForm v)
    (cond (eqb n 10) (NoEntryAtGivenOffset (record { 0 = v }))
    (cond (eqb n 11) (InvalidNameAttributeIndex v)
    (cond (eqb n 12) (UnsupportedAttributeForm v)
    (cond (eqb n 13) SectionTooLong DoesNotFit))))))))))))

pub error_back : (e : Error) → error_of (number_of e) (value_of e) ≡ e
unfolding error_of
error_back (UnexpectedEof v) = refl
error_back (UnknownReservedLength v) = refl
error_back (UnknownVersion v) = refl
error_back AbbreviationTagZero = refl
error_back AttributeNameZero = refl
error_back AttributeFormZero = refl
error_back BadUnsignedLeb128 = refl
error_back (InvalidAbbreviationCode v) = refl
error_back (UnknownForm v) = refl
error_back (NoEntryAtGivenOffset v) = refl
error_back (InvalidNameAttributeIndex v) = refl
error_back (UnsupportedAttributeForm v) = refl
error_back SectionTooLong = refl
error_back DoesNotFit = refl

pub error_same : (d e : Error) → number_of d ≡ number_of e → value_of d ≡ value_of e → d ≡ e
error_same d e n v = sym (error_back d) ∙ ap₂ error_of n v ∙ error_back e

-- the limit of refusal 13 leaves room for sums of sizes in 64 bits
pub longest_most : longest ≤ 17179869184
unfolding longest
longest_most = omega arith
