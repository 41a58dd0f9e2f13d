-- Laws of LEB128 numbers of any width. The laws of 64 and 16 bits are in Leb128Limits.antt.
use Prim.Native.Nat.{ℕ, zero, suc, ◌+◌, ◌*◌, ◌-◌, ◌^◌, ◌%◌, ◌/◌, ◌≤◌, ◌<◌}
use mathlib.Core.Path.{◌≡◌, refl, sym, ap, ◌∙◌}
use mathlib.Core.List.{List, [], ◌∷◌, ◌++◌, map}
use mathlib.Core.Bool.{Bool, true, false, false≢true, cond, ◌||◌}
use native.Mathlib.Nat.{mul_assoc, mul_comm, mul-add, one-le-pow, pow-le-pow_right}
use native.Mathlib.Omega.{arith}
use lib.ListN.{length, get_or, replicate}
use lib.Seq.{slice}
use lib.Dec.{leb, ltb}
use lib.Pow.{pow-add}
use borrow.Author.Tests.{leb-true, leb-false, le-leb, lt-leb, lt-ltb, le-ltb, ltb-true}
use Rattle.reader.specs.Outcome.{Outcome, answered, refused, ◌>>=◌, ◌>>◌, demand, refuse_if}
use Rattle.reader.specs.Parts.{left_at}
use Rattle.reader.specs.Numbers.{read_byte}
use Rattle.reader.specs.declared.reader.Read.{Read}
use Rattle.leb128.specs.Leb128.{number_bytes, complete, base128, number_of_bytes, leb128, encoded_in, encoded, padded}
use Rattle.leb128.specs.Sanity.{Leb128Forward, Leb128InPart, Leb128Below, Leb128ReadsBack, Writes}
use Rattle.reader.proofs.OutcomeLaws.{then_answered, demanded, passed, same_answer}
use Rattle.reader.proofs.PartLaws.{left_is_length, slice_first, slice_none}
use Rattle.reader.proofs.NumberLaws.{byte_read, byte_missing}

powers_above : (bits : ℕ) → 1 ≤ 2 ^ bits
powers_above bits = one-le-pow bits 2 (omega arith)

-- 0 is below every width
pub width_zero : (bits : ℕ) → leb (2 ^ bits) 0 ≡ false
width_zero bits = lt-leb (2 ^ bits) 0 (powers_above bits)

-- and so are the low seven bits of a byte, where the width has as many
pub width_wide : (bits x : ℕ) → 7 ≤ bits → x < 128 → leb (2 ^ bits) x ≡ false
width_wide bits x h low =
    let most : 2 ^ 7 ≤ 2 ^ bits = pow-le-pow_right (omega arith) h in
    lt-leb (2 ^ bits) x (omega (arith, most))

-- A number goes beyond a width exactly if its first byte does, or what follows goes beyond the bits that are left: seven fewer, and none where
-- there were fewer than seven.
pub width_step : (bits x rest : ℕ) → x < 128 → leb (2 ^ bits) (x + 128 * rest) ≡ (leb (2 ^ bits) x || leb (2 ^ (bits - 7)) rest)
width_step bits x rest low = go (leb 7 bits) refl
  where
    wide : 7 ≤ bits → (t : Bool) → leb (2 ^ (bits - 7)) rest ≡ t → leb (2 ^ bits) (x + 128 * rest) ≡ t
    wide h t e =
        let parts : bits ≡ 7 + (bits - 7) = omega arith in
        let product : 2 ^ bits ≡ 128 * 2 ^ (bits - 7) = ap (λ k. 2 ^ k) parts ∙ pow-add 2 7 (bits - 7) in
        reaches t e product
      where
        reaches : (t : Bool) → leb (2 ^ (bits - 7)) rest ≡ t → 2 ^ bits ≡ 128 * 2 ^ (bits - 7) → leb (2 ^ bits) (x + 128 * rest) ≡ t
        reaches true e product = le-leb (2 ^ bits) (x + 128 * rest) (omega (arith, leb-true (2 ^ (bits - 7)) rest e, product))
        reaches false e product = lt-leb (2 ^ bits) (x + 128 * rest) (omega (arith, leb-false (2 ^ (bits - 7)) rest e, product))

    narrow : bits < 7 → (t : Bool) → leb (2 ^ bits) x ≡ t → (u : Bool) → leb 1 rest ≡ u → leb (2 ^ bits) (x + 128 * rest) ≡ (t || u)
    narrow h true e u f = le-leb (2 ^ bits) (x + 128 * rest) (omega (arith, leb-true (2 ^ bits) x e))
    narrow h false e true f =
        let fewer : bits ≤ 7 = omega arith in
        let most : 2 ^ bits ≤ 2 ^ 7 = pow-le-pow_right (omega arith) fewer in
        le-leb (2 ^ bits) (x + 128 * rest) (omega (arith, leb-true 1 rest f, most))
    narrow h false e false f = lt-leb (2 ^ bits) (x + 128 * rest) (omega (arith, leb-false (2 ^ bits) x e, leb-false 1 rest f))

    go : (t : Bool) → leb 7 bits ≡ t → leb (2 ^ bits) (x + 128 * rest) ≡ (leb (2 ^ bits) x || leb (2 ^ (bits - 7)) rest)
    go true e =
        let h : 7 ≤ bits = leb-true 7 bits e in
        rw (width_wide bits x h low) (wide h _ refl)
    go false e =
        let h : bits < 7 = leb-false 7 bits e in
        let none : bits - 7 ≡ 0 = omega arith in
        rw none (narrow h _ refl _ refl)

-- the number r, unless a bit beyond the width is set or its last byte is missing
abbrev finished : Bool → Bool → Read ℕ → Outcome (Read ℕ)
finished bad whole r = do
  refuse_if bad 7 0
  demand whole 1 r.next
  answered r

-- the number r after one more byte in front, which is not its last
abbrev pub prefixed : ℕ → Read ℕ → Read ℕ
prefixed b r = record { value = b % 128 + 128 * r.value; next = r.next }

finished-prefixed : (bad whole : Bool) (b : ℕ) (r : Read ℕ) → finished bad whole (prefixed b r) ≡ (finished bad whole r >>= λ rest. answered (prefixed b rest))
finished-prefixed true whole b r = refl
finished-prefixed false true b r = refl
finished-prefixed false false b r = refl

-- the number that begins with the byte b, and what follows it
abbrev pub with_byte : ℕ → Read ℕ → Outcome (Read ℕ) → Outcome (Read ℕ)
with_byte bits b rest = cond (leb (2 ^ bits) (b.value % 128)) (refused 7 0) (cond (ltb b.value 128) (answered b) (rest >>= λ r. answered (prefixed b.value r)))

-- one byte more in front of a number, by the two tests on it
pub number-byte : (bits b : ℕ) (bs : List ℕ) (at : ℕ) (t u : Bool) → leb (2 ^ bits) (b % 128) ≡ t → ltb b 128 ≡ u
    → number_of_bytes bits (number_bytes (b ∷ bs)) at ≡ with_byte bits (record { value = b; next = at + 1 }) (number_of_bytes (bits - 7) (number_bytes bs) (at + 1))
unfolding number_of_bytes number_bytes complete base128
number-byte bits b bs at true u e f = rw (width_step bits (b % 128) (base128 (cond (ltb b 128) [] (number_bytes bs))) (omega arith), e)
number-byte bits b bs at false true e f =
    let low : b % 128 + 128 * 0 ≡ b = omega (arith, ltb-true b 128 f) in
    rw (width_step bits (b % 128) (base128 (cond (ltb b 128) [] (number_bytes bs))) (omega arith), e, f, width_zero (bits - 7), low)
number-byte bits b bs at false false e f =
    let place : at + suc (length (number_bytes bs)) ≡ at + 1 + length (number_bytes bs) = omega arith in
    rw (width_step bits (b % 128) (base128 (cond (ltb b 128) [] (number_bytes bs))) (omega arith), e, f, place)
    (finished-prefixed (leb (2 ^ (bits - 7)) (base128 (number_bytes bs))) (complete (number_bytes bs)) b (record { value = base128 (number_bytes bs); next = at + 1 + length (number_bytes bs) }))

pub number_none : (bits at : ℕ) → number_of_bytes bits (number_bytes []) at ≡ refused 1 at
unfolding number_of_bytes number_bytes complete base128
number_none bits at =
    let place : at + 0 ≡ at = omega arith in
    rw (width_zero bits, place)

-- a number is a last byte, or a byte and what follows it, for which seven bits less are left
unfoldable pub leb128_step : ℕ → List ℕ → ℕ → ℕ → Outcome (Read ℕ)
leb128_step bits s at end = do
  b ← read_byte s at end
  with_byte bits b (leb128 (bits - 7) s b.next end)

pub leb128_step_lem : (bits : ℕ) (s : List ℕ) (at end : ℕ) → leb128 bits s at end ≡ leb128_step bits s at end
unfolding leb128 leb128_step
leb128_step_lem bits s at end = go (leb 1 (left_at s at end)) refl
  where
    go : (t : Bool) → leb 1 (left_at s at end) ≡ t → leb128 bits s at end ≡ leb128_step bits s at end
    go true e =
        let h : 1 ≤ left_at s at end = leb-true _ _ e in
        rw (byte_read s at end (omega arith), slice_first s at end h) (number-byte bits (get_or s at 0) (slice (at + 1) end s) at _ _ refl refl)
    go false e =
        let h : left_at s at end < 1 = leb-false _ _ e in
        rw (byte_missing s at end (omega arith), slice_none s at end h) (number_none bits at)

-- where no byte is left, the first one is missing
pub leb128_none : (bits : ℕ) (s : List ℕ) (at end : ℕ) → left_at s at end < 1 → leb128 bits s at end ≡ refused 1 at
unfolding leb128_step
leb128_none bits s at end h = leb128_step_lem bits s at end ∙ rw (byte_missing s at end (omega arith))

-- a number looks at no byte outside its part
pub leb128_part : Leb128InPart
unfolding leb128
leb128_part bits s t at end e = rw e

-- what an answered number says of its bytes
pub leb128-bytes : (bits : ℕ) (s : List ℕ) (at end : ℕ) (r : Read ℕ) → leb128 bits s at end ≡ answered r
    → (base128 (number_bytes (slice at end s)) < 2 ^ bits) × (complete (number_bytes (slice at end s)) ≡ true)
    × (r.value ≡ base128 (number_bytes (slice at end s))) × (r.next ≡ at + length (number_bytes (slice at end s)))
unfolding leb128 number_of_bytes
leb128-bytes bits s at end r e =
    let (u, p, q) = then_answered (refuse_if (leb (2 ^ bits) (base128 (number_bytes (slice at end s)))) 7 0) _ r e in
    let (v, o, m) = then_answered (demand (complete (number_bytes (slice at end s))) 1 (at + length (number_bytes (slice at end s)))) _ r q in
    (leb-false _ _ (passed _ 7 0 u p), demanded _ 1 _ v o, ap (λ x. x.value) (sym (same_answer m)), ap (λ x. x.next) (sym (same_answer m)))

-- a number is below its width
pub leb128-below : (bits : ℕ) → Leb128Below bits
leb128-below bits s at end r e =
    let (inside, whole, value, next) = leb128-bytes bits s at end r e in
    rw value inside

bytes-among : (bs : List ℕ) → length (number_bytes bs) ≤ length bs
unfolding number_bytes
bytes-among [] = omega arith
bytes-among (b ∷ bs) = among (ltb b 128) (bytes-among bs)
  where
    among : (t : Bool) → length (number_bytes bs) ≤ length bs → suc (length (cond t [] (number_bytes bs))) ≤ suc (length bs)
    among true h = omega arith
    among false h = omega arith

complete-some : (bs : List ℕ) → complete bs ≡ true → 1 ≤ length bs
unfolding complete
complete-some [] e = absurd (false≢true e)
complete-some (b ∷ bs) e = omega arith

-- a number is read forward
pub leb128-forward : Leb128Forward
leb128-forward bits s at end r e =
    let (inside, whole, value, next) = leb128-bytes bits s at end r e in
    omega (arith, complete-some (number_bytes (slice at end s)) whole, bytes-among (slice at end s), left_is_length s at end)

-- 7.6's encoder, a byte at a time: turns enough give the same bytes
encoded_turns : (k m n : ℕ) → n ≤ k → n ≤ m → encoded_in k n ≡ encoded_in m n
unfolding encoded_in
encoded_turns zero zero n h g = refl
encoded_turns zero (suc m) n h g = rw (lt-ltb n 128 (omega arith))
encoded_turns (suc k) zero n h g = rw (lt-ltb n 128 (omega arith))
encoded_turns (suc k) (suc m) n h g = rw (encoded_turns k m (n / 128) (omega arith) (omega arith))

-- the examples of section 7.6
pub encoded_examples : map encoded (2 ∷ 127 ∷ 128 ∷ 129 ∷ 12857 ∷ [])
    ≡ ((2 ∷ []) ∷ (127 ∷ []) ∷ ((0 + 0x80) ∷ 1 ∷ []) ∷ ((1 + 0x80) ∷ 1 ∷ []) ∷ ((57 + 0x80) ∷ 100 ∷ []) ∷ [])
unfolding encoded encoded_in
encoded_examples = refl

-- 2, 129 and 12857 padded with two bytes 80 and 00
pub padded_examples : map (padded 2) (2 ∷ 129 ∷ 12857 ∷ [])
    ≡ (((2 + 0x80) ∷ 0x80 ∷ 0x80 ∷ 0 ∷ []) ∷ ((1 + 0x80) ∷ (1 + 0x80) ∷ 0x80 ∷ 0x80 ∷ 0 ∷ []) ∷ ((57 + 0x80) ∷ (100 + 0x80) ∷ 0x80 ∷ 0x80 ∷ 0 ∷ []) ∷ [])
unfolding padded encoded encoded_in
padded_examples = refl

-- what stands in the bytes that the encoder wrote for n, whatever follows them
pub record Wrote (n : ℕ) (bs after : List ℕ) : Type 0 where
  pub bytes : number_bytes (bs ++ after) ≡ bs
  pub whole : complete bs ≡ true
  pub value : base128 bs ≡ n

wrote-last : (n : ℕ) (after : List ℕ) → n < 128 → Wrote n (n ∷ []) after
unfolding number_bytes complete base128
wrote-last n after h = record { bytes = rw (lt-ltb n 128 h); whole = rw (lt-ltb n 128 h); value = omega arith }

wrote-byte : (n : ℕ) (bs after : List ℕ) → Wrote (n / 128) bs after → Wrote n ((n % 128 + 128) ∷ bs) after
unfolding number_bytes complete base128
wrote-byte n bs after w =
    let more : ltb (n % 128 + 128) 128 ≡ false = le-ltb (n % 128 + 128) 128 (omega arith) in
    record { bytes = rw (more, w.bytes); whole = rw (more, w.whole); value = rw w.value (omega arith) }

pub wrote : (k n : ℕ) (after : List ℕ) → n ≤ k → Wrote n (encoded_in k n) after
unfolding encoded_in
wrote zero n after h = wrote-last n after (omega arith)
wrote (suc k) n after h = go (ltb n 128) refl (wrote k (n / 128) after (omega arith))
  where
    go : (t : Bool) → ltb n 128 ≡ t → Wrote (n / 128) (encoded_in k (n / 128)) after → Wrote n (cond (ltb n 128) (n ∷ []) ((n % 128 + 128) ∷ encoded_in k (n / 128))) after
    go true e w = rw e (wrote-last n after (ltb-true n 128 e))
    go false e w = rw e (wrote-byte n (encoded_in k (n / 128)) after w)

-- and in the bytes that were padded: a byte 80 in front of a 0 leaves it 0, and a byte of a number goes in front of what it leaves
wrote_zeros : (more : ℕ) (after : List ℕ) → Wrote 0 (replicate more 0x80 ++ (0 ∷ [])) after
wrote_zeros zero after = wrote-last 0 after (omega arith)
wrote_zeros (suc more) after = wrote-byte 0 (replicate more 0x80 ++ (0 ∷ [])) after (wrote_zeros more after)

wrote_continued : (k n : ℕ) (tail after : List ℕ) → n ≤ k → Wrote 0 tail after → Wrote n (map (λ b. b % 128 + 128) (encoded_in k n) ++ tail) after
unfolding encoded_in
wrote_continued zero n tail after h w =
    let none : 0 ≡ n / 128 = omega arith in
    wrote-byte n tail after (rw none at w)
wrote_continued (suc k) n tail after h w = go (ltb n 128) refl (wrote_continued k (n / 128) tail after (omega arith) w)
  where
    go : (t : Bool) → ltb n 128 ≡ t → Wrote (n / 128) (map (λ b. b % 128 + 128) (encoded_in k (n / 128)) ++ tail) after
        → Wrote n (map (λ b. b % 128 + 128) (cond (ltb n 128) (n ∷ []) ((n % 128 + 128) ∷ encoded_in k (n / 128))) ++ tail) after
    go true e ih =
        let none : 0 ≡ n / 128 = omega (arith, ltb-true n 128 e) in
        rw e (wrote-byte n tail after (rw none at w))
    go false e ih =
        let same : (n % 128 + 128) % 128 + 128 ≡ n % 128 + 128 = omega arith in
        rw (e, same) (wrote-byte n (map (λ b. b % 128 + 128) (encoded_in k (n / 128)) ++ tail) after ih)

wrote_any : (v : ℕ) (bs after : List ℕ) → Writes v bs → Wrote v bs after
unfolding encoded padded
wrote_any v bs after Writes.shortest = wrote v v after (omega arith)
wrote_any v bs after (Writes.longer more) = wrote_continued v v (replicate more 0x80 ++ (0 ∷ [])) after (omega arith) (wrote_zeros more after)

-- what is written is read back, with the next place right after it
pub leb128_back : (bits : ℕ) → Leb128ReadsBack bits
unfolding leb128 number_of_bytes
leb128_back bits v bs s after at end written h e =
    let w = wrote_any v bs after written in
    rw (e, w.bytes, w.value, lt-leb (2 ^ bits) v h, w.whole)

-- a number whose later bytes are read as r, with the earlier ones worth `value` and the first of the later ones counting `scale`
abbrev pub scaled : ℕ → ℕ → Outcome (Read ℕ) → Outcome (Read ℕ)
scaled value scale rest = rest >>= λ r. answered (record { value = value + scale * r.value; next = r.next })

pub scaled-start : (rest : Outcome (Read ℕ)) → rest ≡ scaled 0 1 rest
scaled-start (answered r) =
    let one : 0 + 1 * r.value ≡ r.value = omega arith in
    rw one
scaled-start (refused n v) = refl

pub scaled-more : (value scale b : ℕ) (rest : Outcome (Read ℕ)) → scaled value scale (rest >>= λ r. answered (prefixed b r)) ≡ scaled (value + scale * (b % 128)) (128 * scale) rest
scaled-more value scale b (answered r) =
    let same : value + scale * (b % 128 + 128 * r.value) ≡ value + scale * (b % 128) + 128 * scale * r.value = rw (mul-add, ← mul_assoc scale 128, mul_comm scale 128) (omega arith) in
    rw same
scaled-more value scale b (refused n v) = refl
