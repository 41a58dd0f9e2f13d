-- What a reader of the definitions, and the crates above, may want to be sure of: every number is read back,
-- in its shortest form and padded; how it is read a byte at a time (SPECIFICATION 4.3); and that gimli's
-- rule, which refuses a number whose tenth (third) byte continues, reads all others the same
-- (SPECIFICATION 4.4). The laws of proofs/ that have these types prove them: Leb128Laws.antt,
-- Leb128Limits.antt and Leb128Bytes.antt.
use Rattle.std.specs.Prelude.{ℕ, suc, ◌+◌, ◌-◌, ◌*◌, ◌^◌, ◌%◌, ◌<◌, ◌≡◌, Bool, false, cond, ◌||◌, List, [], ◌∷◌, ◌++◌, length, get_or, replicate, leb, ltb}
use Rattle.std.proofs.Math.Seq.{slice}
use Rattle.reader.specs.Outcome.{Outcome, answered, refused, ◌>>◌}
use Rattle.reader.specs.Parts.{Section, Forward}
use Rattle.reader.specs.declared.reader.Read.{Read}
use Rattle.leb128.specs.Leb128.{number_bytes, complete, base128, unsigned_limit, u16_limit, leb128, encoded, padded}
use Rattle.reader.specs.Errors.{refusal, fail_if, require}
use Rattle.reader.specs.declared.error.Error.TheVariants.{UnexpectedEof, BadUnsignedLeb128}

-- the ways to write a number: in the fewest bytes, or padded to any length
pub data Writes (v : ℕ) : List ℕ → Type 0 where
  shortest : Writes v (encoded v)
  longer : (more : ℕ) → Writes v (padded more v)

-- what is written in one of these ways for any number below 2 ^ 64, and for any below 2 ^ 16, is read back
-- where it stands at `at`, whatever follows it, with the next place right after it
abbrev pub Leb128ReadsBack : ℕ → Type 0
Leb128ReadsBack bits =
    (v : ℕ) (bs s after : List ℕ) (at end : ℕ) → Writes v bs → v < 2 ^ bits → slice at end s ≡ bs ++ after
    → leb128 bits s at end ≡ answered (record { value = v; next = at + length bs })

abbrev pub UnsignedReadsBack : Type 0
UnsignedReadsBack = Leb128ReadsBack unsigned_limit

abbrev pub U16ReadsBack : Type 0
U16ReadsBack = Leb128ReadsBack u16_limit

-- every number read fits its width
abbrev pub Leb128Below : ℕ → Type 0
Leb128Below bits = (s : Section) (at end : ℕ) (r : Read ℕ) → leb128 bits s at end ≡ answered r → r.value < 2 ^ bits

abbrev pub UnsignedBelow : Type 0
UnsignedBelow = Leb128Below unsigned_limit

abbrev pub U16Below : Type 0
U16Below = Leb128Below u16_limit

-- an answered read moves forward by at least one byte and stays inside its part
abbrev pub Leb128Forward : Type 0
Leb128Forward = (bits : ℕ) (s : Section) (at end : ℕ) (r : Read ℕ) → leb128 bits s at end ≡ answered r → Forward s at end r.next

-- a read looks at no byte outside its part: of two sections with the same bytes there, it answers the same
abbrev pub Leb128InPart : Type 0
Leb128InPart = (bits : ℕ) (s t : Section) (at end : ℕ) → slice at end s ≡ slice at end t → leb128 bits s at end ≡ leb128 bits t at end

-- The byte b at position i, counted from 0, has a bit set beyond the width if its low seven bits, which count
-- for 128 ^ i times as much there, make 2 ^ bits or more.
unfoldable pub beyond : ℕ → ℕ → ℕ → Bool
beyond bits i b = leb (2 ^ bits) (128 ^ i * (b % 128))

-- whether one of the bytes has, where the first stands at position i
unfoldable pub some_beyond : ℕ → ℕ → List ℕ → Bool
some_beyond bits i [] = false
some_beyond bits i (b ∷ bs) = beyond bits i b || some_beyond bits (suc i) bs

-- bytes make 2 ^ bits or more exactly if one of them has a bit set beyond the width
abbrev pub BeyondTheWidth : Type 0
BeyondTheWidth = (bits : ℕ) (bs : List ℕ) → leb (2 ^ bits) (base128 bs) ≡ some_beyond bits 0 bs

-- of the byte at position i as many bits count as the width has left there (a difference stops at 0): of the
-- tenth byte 64 - 63, of the third 16 - 14, and of every further byte none. Whether the byte continues does
-- not matter.
abbrev pub BitsLeft : Type 0
BitsLeft = (bits i b : ℕ) → beyond bits i b ≡ leb (2 ^ (bits - 7 * i)) (b % 128)

-- The reading of SPECIFICATION 4.3, a byte at a time: these are the bytes that are left of the part, the
-- first at the place `at` and at position i of the number, and what stands before them makes `value`. Where
-- no byte is left, it is missing: 1 at its place. A byte with a bit set beyond the width is 7, whatever
-- follows it or does not. The first byte below 128 is the last.
unfoldable pub byte_by_byte : ℕ → ℕ → ℕ → List ℕ → ℕ → Outcome (Read ℕ)
byte_by_byte bits i value [] at = refusal (UnexpectedEof at)
byte_by_byte bits i value (b ∷ bs) at =
    let sum : ℕ = value + 128 ^ i * (b % 128) in
    cond (beyond bits i b) (refusal BadUnsignedLeb128)
    (cond (ltb b 128) (answered (record { value = sum; next = at + 1 })) (byte_by_byte bits (suc i) sum bs (at + 1)))

-- that is what is read, for every width, all bytes and all places
abbrev pub ByteByByte : Type 0
ByteByByte = (bits : ℕ) (s : Section) (at end : ℕ) → leb128 bits s at end ≡ byte_by_byte bits 0 0 (slice at end s) at

-- gimli's rule: the byte at the position `last`, counted from 0, if there is one, must be at most `top`, else
-- 7. As `top` is below 128, no number runs on past it.
unfoldable pub gimli_of_bytes : ℕ → ℕ → List ℕ → ℕ → Outcome (Read ℕ)
gimli_of_bytes last top bs at = do
  fail_if (ltb top (get_or bs last 0)) BadUnsignedLeb128
  require (complete bs) (UnexpectedEof (at + length bs))
  answered (record { value = base128 bs; next = at + length bs })

unfoldable pub gimli_leb128 : ℕ → ℕ → List ℕ → ℕ → ℕ → Outcome (Read ℕ)
gimli_leb128 last top s at end = gimli_of_bytes last top (number_bytes (slice at end s)) at

-- where the byte of the number at that position, if there is one, does not continue, gimli reads the same
abbrev pub GimliReadsTheSame : ℕ → ℕ → ℕ → Type 0
GimliReadsTheSame bits last top =
    (s : Section) (at end : ℕ) → get_or (number_bytes (slice at end s)) last 0 < 128
    → leb128 bits s at end ≡ gimli_leb128 last top s at end

-- gimli's `unsigned` takes ten bytes, of which the tenth is 0 or 1; its `u16` takes three, of which the third
-- is at most 3
abbrev pub UnsignedAsGimli : Type 0
UnsignedAsGimli = GimliReadsTheSame unsigned_limit 9 1

abbrev pub U16AsGimli : Type 0
U16AsGimli = GimliReadsTheSame u16_limit 2 3

-- what the two suppose holds of nine ff and then 01, and of ff ff 03
abbrev pub AsGimliSupposes : Type 0
AsGimliSupposes =
    (get_or (number_bytes (replicate 9 0xff ++ 0x01 ∷ [])) 9 0 < 128) × (get_or (number_bytes (0xff ∷ 0xff ∷ 0x03 ∷ [])) 2 0 < 128)

-- numbers at the start of these bytes, in a part that ends with them
abbrev unsigned : List ℕ → Outcome (Read ℕ)
unsigned s = leb128 unsigned_limit s 0 (length s)

abbrev u16 : List ℕ → Outcome (Read ℕ)
u16 s = leb128 u16_limit s 0 (length s)

-- Computed, for 64 bits and for 16: padding, short and long; the largest number, padded; a bit beyond the
-- width in the tenth (third) byte, which continues, in the byte behind it, and there with the continuation
-- bit, each the last byte of the part; and a part that merely ends. Then numbers among other bytes: a part
-- that ends behind a tenth (third) byte, which continues within the width, a padded number, a bit beyond the
-- width with more bytes behind it, and such a bit behind the end of the part.
abbrev pub PaddedComputed : Type 0
PaddedComputed =
    (unsigned (replicate 10 0x80 ++ 0x00 ∷ []) ≡ answered (record { value = 0; next = 11 }))
    × (unsigned (replicate 40 0x80 ++ 0x00 ∷ []) ≡ answered (record { value = 0; next = 41 }))
    × (unsigned (replicate 9 0xff ++ 0x81 ∷ 0x80 ∷ 0x00 ∷ []) ≡ answered (record { value = 18446744073709551615; next = 12 }))
    × (unsigned (replicate 9 0x80 ++ 0x82 ∷ []) ≡ refused 7 0)
    × (unsigned (replicate 10 0x80 ++ 0x01 ∷ []) ≡ refused 7 0)
    × (unsigned (replicate 10 0x80 ++ 0x81 ∷ []) ≡ refused 7 0)
    × (unsigned (replicate 12 0x80) ≡ refused 1 12)
    × (u16 (replicate 3 0x80 ++ 0x00 ∷ []) ≡ answered (record { value = 0; next = 4 }))
    × (u16 (replicate 40 0x80 ++ 0x00 ∷ []) ≡ answered (record { value = 0; next = 41 }))
    × (u16 (0xff ∷ 0xff ∷ 0x83 ∷ 0x80 ∷ 0x00 ∷ []) ≡ answered (record { value = 65535; next = 5 }))
    × (u16 (0x80 ∷ 0x80 ∷ 0x84 ∷ []) ≡ refused 7 0)
    × (u16 (replicate 3 0x80 ++ 0x01 ∷ []) ≡ refused 7 0)
    × (u16 (replicate 3 0x80 ++ 0x81 ∷ []) ≡ refused 7 0)
    × (u16 (replicate 12 0x80) ≡ refused 1 12)
    × (leb128 unsigned_limit (0x07 ∷ (replicate 9 0x80 ++ 0x81 ∷ 0x00 ∷ [])) 1 11 ≡ refused 1 11)
    × (leb128 u16_limit (0x80 ∷ 0x80 ∷ 0x83 ∷ 0x00 ∷ []) 0 3 ≡ refused 1 3)
    × (leb128 u16_limit (0x11 ∷ 0x85 ∷ 0x80 ∷ 0x80 ∷ 0x80 ∷ 0x00 ∷ 0x22 ∷ []) 1 7 ≡ answered (record { value = 5; next = 6 }))
    × (leb128 u16_limit (0xff ∷ 0xff ∷ 0x83 ∷ 0x80 ∷ 0x80 ∷ 0x84 ∷ 0x80 ∷ []) 0 100 ≡ refused 7 0)
    × (leb128 u16_limit (0x80 ∷ 0x80 ∷ 0x04 ∷ []) 0 2 ≡ refused 1 2)
