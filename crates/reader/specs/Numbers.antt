-- Numbers of a fixed width in either byte order, words, and the initial length (SPECIFICATION 3.2, 3.3 and
-- 3.5; DWARF 5, 7.4). In little order the first byte of a number is the lowest, in big order the last. `s` is
-- the section; a number is read at the place `at` of its part, which ends at `end`. Answered are a number of
-- n bytes and the place past it; where fewer than n bytes are left, it is refused with 1 and the place `at`.
-- A word has 4 bytes in the format Dwarf32 and 8 in Dwarf64.
-- An initial length begins with a number of 4 bytes. Below 0xfffffff0 it is the length, and the format is
-- Dwarf32. 0xffffffff is followed by the length in 8 bytes, and the format is Dwarf64. Any other number is
-- reserved: it is refused with 2 and that number. Where the 4 bytes are not there, or the 8 that follow, it
-- is refused with 1 and the place where these begin.
-- gimli's reader has moved past the 4 bytes where the length is refused after them; here a refusal moves
-- nothing.
use Rattle.std.specs.Prelude.{ℕ, zero, suc, ◌+◌, ◌*◌, ◌%◌, ◌/◌, ◌<◌, List, [], ◌∷◌, reverse, cond, take, drop, ltb, eqb}
use Rattle.std.proofs.Math.Seq.{slice}
use Rattle.reader.specs.Outcome.{Outcome, answered, ◌>>=◌}
use Rattle.reader.specs.Parts.{skipped, Section}
use Rattle.reader.specs.declared.reader.Read.{Read}
use Rattle.reader.specs.declared.reader.InitialLength.{InitialLength}
use Rattle.reader.specs.declared.endianity.RunTimeEndian.{RunTimeEndian}
use Rattle.reader.specs.declared.endianity.RunTimeEndian.TheVariants.{Little, Big}
use Rattle.reader.specs.declared.common.Format.{Format}
use Rattle.reader.specs.declared.common.Format.TheVariants.{Dwarf32, Dwarf64}
use Rattle.reader.specs.Errors.{refusal}
use Rattle.reader.specs.declared.error.Error.TheVariants.{UnknownReservedLength}

-- a list of bytes, as every lent section is: each number is below 256
pub data Bytes : List ℕ → Type 0 where
  no_bytes : Bytes []
  byte_then : {b : ℕ} {bs : List ℕ} → b < 256 → Bytes bs → Bytes (b ∷ bs)

-- the number whose digits in base 256 are the bytes, the lowest first
unfoldable pub digits : List ℕ → ℕ
digits [] = 0
digits (b ∷ bs) = b + 256 * digits bs

-- the number that bytes spell: in big order the lowest byte is the last
unfoldable pub spelled : RunTimeEndian → List ℕ → ℕ
spelled Little bs = digits bs
spelled Big bs = digits (reverse bs)

-- the n lowest digits of a number in base 256, the lowest first
unfoldable pub digits_of : ℕ → ℕ → List ℕ
digits_of zero v = []
digits_of (suc n) v = v % 256 ∷ digits_of n (v / 256)

-- the n bytes that spell a number
unfoldable pub bytes_of : RunTimeEndian → ℕ → ℕ → List ℕ
bytes_of Little n v = digits_of n v
bytes_of Big n v = reverse (digits_of n v)

-- the number that the n bytes at `at` spell
unfoldable pub number_at : RunTimeEndian → ℕ → Section → ℕ → ℕ
number_at order n s at = spelled order (take n (drop at s))

-- the number of n bytes at `at`, and the place past it; refused as the skip over them is
unfoldable pub read_number : ℕ → RunTimeEndian → Section → ℕ → ℕ → Outcome (Read ℕ)
read_number n order s at end = do
  next ← skipped n s at end
  answered (record { value = spelled order (take n (slice at end s)); next = next })

-- the byte at `at`: a number of one byte, which both orders spell alike (`one_byte`)
unfoldable pub read_byte : Section → ℕ → ℕ → Outcome (Read ℕ)
read_byte s at end = read_number 1 Little s at end

-- the bytes of a word of the format
abbrev pub word_size : Format → ℕ
word_size Dwarf32 = 4
word_size Dwarf64 = 8

-- 7.4: a number of 4 bytes below 0xfffffff0 is the length; 0xffffffff is followed by the length in 8 bytes;
-- the rest is reserved
unfoldable pub initial_length : RunTimeEndian → Section → ℕ → ℕ → Outcome InitialLength
initial_length order s at end = do
  first ← read_number 4 order s at end
  cond (ltb first.value 0xfffffff0)
      (answered (record { length = first.value; format = Dwarf32; next = first.next }))
      (cond (eqb first.value 0xffffffff)
      (do
        wide ← read_number 8 order s first.next end
        answered (record { length = wide.value; format = Dwarf64; next = wide.next }))
      (refusal (UnknownReservedLength first.value)))
