-- LEB128 numbers (SPECIFICATION 4; DWARF 5, 7.6). Each byte has seven bits of the number in its low seven
-- bits, the lowest seven in the first byte; bit 7 says that another byte follows, so that the last byte of a
-- number is the first below 128. `s` is the section; a number is read at the place `at` of its part, which
-- ends at `end`, and answered with the place past its last byte. `leb128::read::unsigned` reads 64 bits and
-- `leb128::read::u16` 16, in any number of bytes: an assembler may pad a number with bytes 80 and a last 00.
-- The bytes are looked at one after another. One with a bit beyond the width is refused with 7, whether or
-- not it continues. Where a byte is missing, it is 1 at the place of that byte.
-- DWARF 5 sets no limit on a number; a bit beyond 64 bits (16 bits) is 7 in gimli and here. gimli refuses
-- with 7 every number whose tenth byte (its third, of 16 bits) continues; here it may run on, so long as all
-- further bytes add zero bits. All else is read as gimli reads it.
-- (The library's `leb` tests "at most" and has nothing to do with LEB128.)
use Rattle.std.specs.Prelude.{ℕ, zero, suc, ◌+◌, ◌*◌, ◌^◌, ◌%◌, ◌/◌, List, [], ◌∷◌, ◌++◌, map, Bool, false, cond, ◌||◌, length, replicate, leb, ltb}
use Rattle.std.proofs.Math.Seq.{slice}
use Rattle.reader.specs.Outcome.{Outcome, answered, ◌>>◌}
use Rattle.reader.specs.declared.reader.Read.{Read}
use Rattle.reader.specs.Errors.{fail_if, require}
use Rattle.reader.specs.declared.error.Error.TheVariants.{BadUnsignedLeb128, UnexpectedEof}
use Rattle.reader.specs.Parts.{Section}

-- the bytes of the number with which a list begins: up to the first below 128, that one included
unfoldable pub number_bytes : List ℕ → List ℕ
number_bytes [] = []
number_bytes (b ∷ bs) = b ∷ cond (ltb b 128) [] (number_bytes bs)

-- whether a number's bytes are all there: a byte below 128 stands among them
unfoldable pub complete : List ℕ → Bool
complete [] = false
complete (b ∷ bs) = ltb b 128 || complete bs

-- the number: the sum of the low seven bits of each byte, times 128 for each byte before it
unfoldable pub base128 : List ℕ → ℕ
base128 [] = 0
base128 (b ∷ bs) = b % 128 + 128 * base128 bs

-- the limits: how many bits a number may have, its width. `leb128::read::unsigned` has 64,
-- `leb128::read::u16` has 16.
abbrev pub unsigned_limit : ℕ
unsigned_limit = 64

abbrev pub u16_limit : ℕ
u16_limit = 16

-- the number with these bytes, of which the first stands at the place `at`. Where a bit beyond the width is
-- set, the bytes that are there make 2 ^ bits or more: refusal 7 (`ByteByByte` says where it comes). Else,
-- where its last byte is missing, refusal 1 at the place of that byte.
unfoldable pub number_of_bytes : ℕ → List ℕ → ℕ → Outcome (Read ℕ)
number_of_bytes bits bs at = do
  fail_if (leb (2 ^ bits) (base128 bs)) BadUnsignedLeb128
  require (complete bs) (UnexpectedEof (at + length bs))
  answered (record { value = base128 bs; next = at + length bs })

-- the number of a width at `at`, in a part that ends at `end`
unfoldable pub leb128 : ℕ → Section → ℕ → ℕ → Outcome (Read ℕ)
leb128 bits s at end = number_of_bytes bits (number_bytes (slice at end s)) at

-- 7.6's encoder: while 128 or more is left, a byte with the low seven bits and bit 7 set; then what is left.
-- `encoded` has turns enough.
unfoldable pub encoded_in : ℕ → ℕ → List ℕ
encoded_in zero n = n ∷ []
encoded_in (suc turns) n =
    let more : List ℕ = encoded_in turns (n / 128) in
    cond (ltb n 128) (n ∷ []) ((n % 128 + 128) ∷ more)

-- the bytes of a number, the fewest that hold it
unfoldable pub encoded : ℕ → List ℕ
encoded n = encoded_in n n

-- the same bytes, each with bit 7 set, then `more` bytes 80, and 00: how an assembler pads a number to a
-- fixed length
unfoldable pub padded : ℕ → ℕ → List ℕ
padded more n = map (λ b. b % 128 + 128) (encoded n) ++ (replicate more 0x80 ++ (0 ∷ []))
