-- The laws of LEB128 numbers of 64 and of 16 bits. Callers of the readers cite the last of these, from
-- `unsigned-one` on; the first four are statements of specs/Sanity.antt, and the rest serves the readers'
-- proofs.
use Prim.Native.Nat.{ℕ, ◌+◌, ◌*◌, ◌-◌, ◌^◌, ◌%◌, ◌≤◌, ◌<◌}
use mathlib.Core.Path.{◌≡◌, refl, sym, ap, ◌∙◌}
use mathlib.Core.List.{List}
use mathlib.Core.Bool.{Bool, true, false, cond}
use native.Mathlib.Nat.{mul_comm, pow-le-pow_right}
use native.Mathlib.Omega.{arith}
use lib.Seq.{slice}
use lib.Dec.{leb, ltb}
use borrow.Author.Tests.{lt-ltb, le-ltb, ltb-true}
use Rattle.reader.specs.Outcome.{Outcome, answered, refused, ◌>>=◌}
use Rattle.reader.specs.Numbers.{read_byte}
use Rattle.reader.specs.declared.reader.Read.{Read}
use Rattle.leb128.specs.Leb128.{number_bytes, number_of_bytes, unsigned_limit, u16_limit, leb128}
use Rattle.leb128.specs.Inner.{past_padding}
use Rattle.leb128.specs.Sanity.{UnsignedReadsBack, U16ReadsBack, UnsignedBelow, U16Below}
use Rattle.reader.proofs.OutcomeLaws.{same_answer, bind_answered, bind_same, bind_assoc}
use Rattle.reader.proofs.NumberLaws.{byte-answered}
use Rattle.leb128.proofs.Leb128Laws.{prefixed, scaled, scaled-more, width_wide, leb128_step, leb128_step_lem, leb128-below, leb128-forward, leb128_back}

pub unsigned_below : UnsignedBelow
unsigned_below = leb128-below unsigned_limit

pub u16_below : U16Below
u16_below = leb128-below u16_limit

pub unsigned_back : UnsignedReadsBack
unsigned_back = leb128_back unsigned_limit

pub u16_back : U16ReadsBack
u16_back = leb128_back u16_limit

-- A number, a byte at a time: what the readers of this crate cite. Where all seven bits of a byte count, a byte below 128 ends the number. What
-- follows any other is `leb128 (bits - 7) s b.next end`, written out, so that a search applies this once.
pub byte_before : (bits : ℕ) (s : List ℕ) (at end : ℕ) → 7 ≤ bits → leb128 bits s at end ≡ (do
  b ← read_byte s at end
  cond (ltb b.value 128) (answered b) (number_of_bytes (bits - 7) (number_bytes (slice b.next end s)) b.next >>= λ r. answered (prefixed b.value r)))
unfolding leb128 leb128_step
byte_before bits s at end h = leb128_step_lem bits s at end ∙ bind_same (read_byte s at end) _ _ λ b e. rw (width_wide bits (b.value % 128) h (omega arith))

-- What was read and what is left of a number, before a byte that does not end it and past it.
pub byte-more : (left value scale : ℕ) (s : List ℕ) (at end : ℕ) (b : Read ℕ) (bits : ℕ) → bits ≡ left + 7 → answered b ≡ read_byte s at end → 128 ≤ b.value
    → scaled value scale (leb128 bits s at end) ≡ scaled (value + scale * (b.value % 128)) (scale * 128) (leb128 left s b.next end)
unfolding leb128
byte-more left value scale s at end b bits width read more =
    let less : bits - 7 ≡ left = omega arith in
    rw (byte_before bits s at end (omega arith), ← read, le-ltb b.value 128 more, less, mul_comm scale 128) (scaled-more value scale b.value (leb128 left s b.next end))

-- There is room in 64 bits for every byte before the tenth, and for the number.
pub scale_room : (i : ℕ) → i < 9 → 128 ^ i ≤ 2 ^ 56
scale_room i h =
    let most : i ≤ 8 = omega arith in
    pow-le-pow_right {n = 128} (omega arith) most

pub number_room : (bits : ℕ) (s : List ℕ) (at end : ℕ) (r : Read ℕ) → bits ≤ 64 → leb128 bits s at end ≡ answered r → r.value < 2 ^ 64
number_room bits s at end r h e =
    let most : 2 ^ bits ≤ 2 ^ 64 = pow-le-pow_right {n = 2} (omega arith) h in
    omega (arith, leb128-below bits s at end r e)

-- Where fewer than seven bits of a byte count, what follows it adds only zero bits.
pub byte_last : (bits : ℕ) (s : List ℕ) (at end : ℕ) → bits < 7 → leb128 bits s at end ≡ (do
  b ← read_byte s at end
  cond (leb (2 ^ bits) (b.value % 128)) (refused 7 0) (cond (ltb b.value 128)
      (answered (record { value = b.value % 128; next = b.next }))
      (do
        next ← past_padding s b.next end
        answered (record { value = b.value % 128; next = next }))))
unfolding leb128_step past_padding
byte_last bits s at end h =
    let none : bits - 7 ≡ 0 = omega arith in
    leb128_step_lem bits s at end ∙ rw none (bind_same (read_byte s at end) _ _ λ b p. rw (bind_assoc (leb128 0 s b.next end))
    (ap (cond (leb (2 ^ bits) (b.value % 128)) (refused 7 0)) (ends b (ltb b.value 128) refl _ _ (bind_same (leb128 0 s b.next end) _ _ λ r q. same b r (leb128-below 0 s b.next end r q)))))
  where
    same : (b r : Read ℕ) → r.value < 1 → answered (prefixed b.value r) ≡ answered (record { value = b.value % 128; next = r.next })
    same b r z =
        let value : b.value % 128 + 128 * r.value ≡ b.value % 128 = omega arith in
        rw value

    ends : (b : Read ℕ) (u : Bool) → ltb b.value 128 ≡ u → (x y : Outcome (Read ℕ)) → x ≡ y → cond u (answered b) x ≡ cond u (answered (record { value = b.value % 128; next = b.next })) y
    ends b true u x y f =
        let low : b.value % 128 ≡ b.value = omega (arith, ltb-true b.value 128 u) in
        rw low
    ends b false u x y f = f

-- so many bits make 64 at most, and fit a byte
pub few_bits : (bits : ℕ) → bits < 7 → 2 ^ bits ≤ 64
few_bits bits h =
    let most : bits ≤ 6 = omega arith in
    pow-le-pow_right {n = 2} (omega arith) most

-- Bytes without bits, one at a time. What follows a byte is written out here, too.
pub past_padding_step : (s : List ℕ) (at end : ℕ)
    → (past_padding s at end ≡ (do
      b ← read_byte s at end
      cond (leb 1 (b.value % 128)) (refused 7 0) (cond (ltb b.value 128) (answered b.next) (leb128 0 s b.next end >>= λ r. answered r.next))))
    × (past_padding s at end ≡ (leb128 0 s at end >>= λ r. answered r.next))
unfolding past_padding leb128_step
past_padding_step s at end = (
  rw (leb128_step_lem 0 s at end, bind_assoc)
      (bind_same (read_byte s at end) _ _ λ b e. joined b (leb 1 (b.value % 128)) (ltb b.value 128) (leb128 0 s b.next end)),
  refl,
)
  where
    joined : (b : Read ℕ) (t u : Bool) (rest : Outcome (Read ℕ))
        → (cond t (refused 7 0) (cond u (answered b) (rest >>= λ r. answered (prefixed b.value r))) >>= λ r. answered r.next)
        ≡ cond t (refused 7 0) (cond u (answered b.next) (rest >>= λ r. answered r.next))
    joined b true u rest = refl
    joined b false true rest = refl
    joined b false false (answered r) = refl
    joined b false false (refused n v) = refl

-- A byte is read forward in its part.
pub byte_forward : (s : List ℕ) (at end : ℕ) (b : Read ℕ) → read_byte s at end ≡ answered b → (at < end) × (b.next ≡ at + 1)
byte_forward s at end b e =
    let (inside, value, next) = byte-answered s at end b e in
    (omega arith, next)

-- a byte below 128 is a number
one-byte-number : (bits : ℕ) (s : List ℕ) (at end : ℕ) (a : Read ℕ) → 7 ≤ bits → read_byte s at end ≡ answered a → a.value < 128 → leb128 bits s at end ≡ answered a
one-byte-number bits s at end a h read small = byte_before bits s at end h ∙ rw (read, lt-ltb a.value 128 small)

pub unsigned-one : (s : List ℕ) (at end : ℕ) (a : Read ℕ) → read_byte s at end ≡ answered a → a.value < 128 → leb128 unsigned_limit s at end ≡ answered a
unsigned-one s at end a = one-byte-number unsigned_limit s at end a (omega arith)

pub u16-one : (s : List ℕ) (at end : ℕ) (a : Read ℕ) → read_byte s at end ≡ answered a → a.value < 128 → leb128 u16_limit s at end ≡ answered a
u16-one s at end a = one-byte-number u16_limit s at end a (omega arith)

-- where its first byte is missing, so is a number
pub u16_missing : (s : List ℕ) (at end n v : ℕ) → read_byte s at end ≡ refused n v → leb128 u16_limit s at end ≡ refused n v
u16_missing s at end n v missing = byte_before u16_limit s at end (omega arith) ∙ rw missing

-- a number that begins with any other byte has more bytes than that
longer-number : (bits : ℕ) (s : List ℕ) (at end : ℕ) (a r : Read ℕ) → 7 ≤ bits → read_byte s at end ≡ answered a → 128 ≤ a.value → leb128 bits s at end ≡ answered r → at + 1 < r.next
unfolding leb128
longer-number bits s at end a r h read more e =
    let (rest, read-rest, same) = bind_answered (leb128 (bits - 7) s a.next end) _ r (rw (byte_before bits s at end h, read, le-ltb a.value 128 more) at e) in
    let (ahead, inside) = leb128-forward (bits - 7) s a.next end rest read-rest in
    let (here, value, next) = byte-answered s at end a read in
    let past : r.next ≡ rest.next = ap (λ r. r.next) (sym (same_answer same)) in
    omega arith

pub u16-longer : (s : List ℕ) (at end : ℕ) (a r : Read ℕ) → read_byte s at end ≡ answered a → 128 ≤ a.value → leb128 u16_limit s at end ≡ answered r → at + 1 < r.next
u16-longer s at end a r = longer-number u16_limit s at end a r (omega arith)
