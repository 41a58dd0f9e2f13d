-- A bit beyond the width, byte by byte, and gimli's rule beside the reader's: the statements of specs/Sanity.antt on these.
use Prim.Native.Nat.{ℕ, zero, suc, ◌+◌, ◌*◌, ◌-◌, ◌^◌, ◌%◌, ◌<◌}
use mathlib.Core.Path.{◌≡◌, refl, ◌∙◌}
use mathlib.Core.List.{List, [], ◌∷◌}
use mathlib.Core.Bool.{Bool, true, false, cond}
use native.Mathlib.Nat.{mul_assoc, pow-succ'}
use native.Mathlib.Omega.{arith}
use lib.ListN.{get_or}
use lib.Seq.{slice}
use lib.Dec.{leb, ltb}
use borrow.Author.Tests.{le-leb, lt-leb, lt-ltb, le-ltb, ltb-true, ltb-false}
use Rattle.reader.specs.Outcome.{Outcome, answered, refused, ◌>>=◌}
use Rattle.reader.specs.declared.reader.Read.{Read}
use Rattle.leb128.specs.Leb128.{number_bytes, complete, base128, number_of_bytes, leb128}
use Rattle.leb128.specs.Sanity.{beyond, some_beyond, BeyondTheWidth, BitsLeft, byte_by_byte, ByteByByte, gimli_of_bytes, gimli_leb128, GimliReadsTheSame, UnsignedAsGimli, U16AsGimli, AsGimliSupposes, PaddedComputed}
use Rattle.leb128.proofs.Leb128Laws.{width_zero, width_wide, width_step, prefixed, number-byte, number_none, scaled, scaled-start, scaled-more}

-- a byte one position further on has seven bits less
beyond-next : (bits i b : ℕ) → beyond bits (suc i) b ≡ beyond (bits - 7) i b
unfolding beyond
beyond-next bits i b =
    let product : 128 ^ suc i * (b % 128) ≡ 0 + 128 * (128 ^ i * (b % 128)) = rw (pow-succ', mul_assoc) (omega arith) in
    rw (product, width_step bits 0 (128 ^ i * (b % 128)) (omega arith), width_zero bits)

beyond-first : (bits b : ℕ) → beyond bits 0 b ≡ leb (2 ^ bits) (b % 128)
unfolding beyond
beyond-first bits b =
    let one : 1 * (b % 128) ≡ b % 128 = omega arith in
    rw one

pub bits_left : BitsLeft
bits_left bits zero b =
    let left : bits - 7 * 0 ≡ bits = omega arith in
    beyond-first bits b ∙ rw left
bits_left bits (suc i) b =
    let left : bits - 7 * suc i ≡ bits - 7 - 7 * i = omega arith in
    beyond-next bits i b ∙ bits_left (bits - 7) i b ∙ rw left

some_next : (bits i : ℕ) (bs : List ℕ) → some_beyond bits (suc i) bs ≡ some_beyond (bits - 7) i bs
unfolding some_beyond
some_next bits i [] = refl
some_next bits i (b ∷ bs) = rw (beyond-next bits i b, some_next bits (suc i) bs)

pub beyond_the_width : BeyondTheWidth
unfolding base128 some_beyond
beyond_the_width bits [] = width_zero bits
beyond_the_width bits (b ∷ bs) = rw (width_step bits (b % 128) (base128 bs) (omega arith), beyond-first bits b, some_next bits 0 bs, beyond_the_width (bits - 7) bs)

-- what is left of a number from position i on, with `value` before it
byte_by_byte_from : (bits i value : ℕ) (bs : List ℕ) (at : ℕ) → scaled value (128 ^ i) (number_of_bytes (bits - 7 * i) (number_bytes bs) at) ≡ byte_by_byte bits i value bs at
unfolding byte_by_byte
byte_by_byte_from bits i value [] at = rw (number_none (bits - 7 * i) at)
byte_by_byte_from bits i value (b ∷ bs) at =
    let left : bits - 7 * i - 7 ≡ bits - 7 * suc i = omega arith in
    rw (number-byte (bits - 7 * i) b bs at _ _ refl refl, left, ← bits_left bits i b)
    (through (beyond bits i b) (ltb b 128) refl (number_of_bytes (bits - 7 * suc i) (number_bytes bs) (at + 1)) (byte_by_byte_from bits (suc i) (value + 128 ^ i * (b % 128)) bs (at + 1)))
  where
    through : (t u : Bool) → ltb b 128 ≡ u → (rest : Outcome (Read ℕ))
        → scaled (value + 128 ^ i * (b % 128)) (128 ^ suc i) rest ≡ byte_by_byte bits (suc i) (value + 128 ^ i * (b % 128)) bs (at + 1)
        → scaled value (128 ^ i) (cond t (refused 7 0) (cond u (answered (record { value = b; next = at + 1 })) (rest >>= λ r. answered (prefixed b r))))
        ≡ cond t (refused 7 0) (cond u (answered (record { value = value + 128 ^ i * (b % 128); next = at + 1 })) (byte_by_byte bits (suc i) (value + 128 ^ i * (b % 128)) bs (at + 1)))
    through true u e rest ih = refl
    through false true e rest ih =
        let low : b % 128 ≡ b = omega (arith, ltb-true b 128 e) in
        rw low
    through false false e rest ih = scaled-more value (128 ^ i) b rest ∙ rw (← pow-succ') ih

pub byte_by_byte_lem : ByteByByte
unfolding leb128
byte_by_byte_lem bits s at end =
    let whole : bits - 7 * 0 ≡ bits = omega arith in
    scaled-start (number_of_bytes bits (number_bytes (slice at end s)) at) ∙ rw (rw whole at (byte_by_byte_from bits 0 0 (slice at end s) at))

-- gimli's test and the reader's, where the width is seven bits for each position before the last and `bits` more there
module _ (top bits : ℕ) (few : top + 1 ≡ 2 ^ bits) where
  gimli_test : (bs : List ℕ) (last : ℕ) → get_or (number_bytes bs) last 0 < 128
      → leb (2 ^ (7 * last + bits)) (base128 (number_bytes bs)) ≡ ltb top (get_or (number_bytes bs) last 0)
  unfolding number_bytes base128
  gimli_test [] last h = rw (width_zero (7 * last + bits), le-ltb top 0 (omega arith))
  gimli_test (b ∷ bs) zero h =
      let left : 7 * 0 + bits ≡ bits = omega arith in
      rw (lt-ltb b 128 h, left) (reaches (ltb top b) refl)
    where
      reaches : (t : Bool) → ltb top b ≡ t → leb (2 ^ bits) (b % 128 + 128 * 0) ≡ t
      reaches true e = le-leb (2 ^ bits) (b % 128 + 128 * 0) (omega (arith, few, ltb-true top b e))
      reaches false e = lt-leb (2 ^ bits) (b % 128 + 128 * 0) (omega (arith, few, ltb-false top b e))
  gimli_test (b ∷ bs) (suc last) h =
      let left : 7 * suc last + bits - 7 ≡ 7 * last + bits = omega arith in
      rw (width_step (7 * suc last + bits) (b % 128) (base128 (cond (ltb b 128) [] (number_bytes bs))) (omega arith), width_wide (7 * suc last + bits) (b % 128) (omega arith) (omega arith), left)
      (go (ltb b 128) refl (gimli_test bs last))
    where
      go : (t : Bool) → ltb b 128 ≡ t → (get_or (number_bytes bs) last 0 < 128 → leb (2 ^ (7 * last + bits)) (base128 (number_bytes bs)) ≡ ltb top (get_or (number_bytes bs) last 0))
          → leb (2 ^ (7 * last + bits)) (base128 (cond (ltb b 128) [] (number_bytes bs))) ≡ ltb top (get_or (cond (ltb b 128) [] (number_bytes bs)) last 0)
      go true e ih = rw (e, width_zero (7 * last + bits), le-ltb top 0 (omega arith))
      go false e ih = rw e (ih (rw e at h))

  gimli_reads_the_same : (last : ℕ) → GimliReadsTheSame (7 * last + bits) last top
  unfolding leb128 number_of_bytes gimli_leb128 gimli_of_bytes
  gimli_reads_the_same last s at end h = rw (gimli_test (slice at end s) last h)

pub unsigned_as_gimli : UnsignedAsGimli
unsigned_as_gimli = gimli_reads_the_same 1 1 refl 9

pub u16_as_gimli : U16AsGimli
u16_as_gimli = gimli_reads_the_same 3 2 refl 2

pub as_gimli_supposes : AsGimliSupposes
unfolding number_bytes
as_gimli_supposes = (omega arith, omega arith)

pub padded_computed : PaddedComputed
unfolding leb128 number_of_bytes number_bytes complete base128
padded_computed = (refl, refl, refl, refl, refl, refl, refl, refl, refl, refl, refl, refl, refl, refl, refl, refl, refl, refl, refl)
