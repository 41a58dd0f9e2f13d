-- Laws of numbers of a fixed width, over the width and the byte order.
use Prim.Native.Nat.{ℕ, zero, suc, ◌+◌, ◌-◌, ◌*◌, ◌^◌, ◌%◌, ◌/◌, ◌≤◌, ◌<◌}
use mathlib.Core.Path.{◌≡◌, refl, sym, ap, ◌∙◌}
use mathlib.Core.List.{List, [], ◌∷◌, ◌++◌, reverse, reverse-append, reverse-reverse, reverse-cons}
use mathlib.Core.Logic.{◌⊎◌, inl, inr, ⊎_elim}
use native.Mathlib.Nat.{mul_assoc, mul_comm, mul-add, pow-succ', mod-add-div}
use native.Mathlib.Omega.{arith}
use Rattle.std.proofs.lemmas.List.{take_all}
use lib.ListN.{length, take, drop, get_or, length-take, length-drop, length-reverse, length-append}
use lib.Seq.{slice, take-suc, take-add, drop-drop, drop-cons, take_at}
use lib.Dec.{ltb, eqb}
use Rattle.std.specs.Int.{byte_worth, sum_through}
use Rattle.reader.specs.Outcome.{answered, refused}
use Rattle.reader.specs.Parts.{part_end, left_at, skipped}
use Rattle.reader.specs.Numbers.{Bytes, no_bytes, byte_then, digits, spelled, digits_of, bytes_of, number_at, read_number, read_byte, initial_length}
use Rattle.reader.specs.Sanity.{BytesSpell, SpelledBytes, NumbersReadBack, NumbersBelow, LengthsBelow, NumbersForward, LengthsForward, NumbersInPart, LengthsInPart}
use Rattle.reader.specs.declared.reader.Read.{Read}
use Rattle.reader.specs.declared.reader.InitialLength.{InitialLength}
use Rattle.reader.specs.declared.endianity.RunTimeEndian.{RunTimeEndian}
use Rattle.reader.specs.declared.endianity.RunTimeEndian.TheVariants.{Little, Big}
use Rattle.reader.proofs.OutcomeLaws.{bind_answered, cond-answered, cond_is, same_answer, bind_same}
use Rattle.reader.proofs.PartLaws.{left_is_length, slice-take, slice-after, slice-later, skip_inside, skip_past, skip_answered, skip_bytes}

pub digits_append : (xs ys : List ℕ) → digits (xs ++ ys) ≡ digits xs + 256 ^ length xs * digits ys
unfolding digits
digits_append [] ys = omega arith
digits_append (x ∷ xs) ys = rw (digits_append xs ys, pow-succ', mul-add, mul_assoc) (omega arith)

-- what the library's `from_le_bytes` and `from_be_bytes` make of bytes is what they spell in that order
worth : (i b : ℕ) → byte_worth i b ≡ 256 ^ i * b
worth zero b = omega arith
worth (suc i) b = mul_comm b (256 ^ suc i)

little_sum : (bs : List ℕ) (k : ℕ) → k < length bs → sum_through (λ i. byte_worth i (get_or bs i 0)) k ≡ digits (take (suc k) bs)
unfolding digits
little_sum [] zero h = elim h [ ]
little_sum (b ∷ bs) zero h = omega arith
little_sum bs (suc k) h =
    let front : length (take (suc k) bs) ≡ suc k = simp length-take (omega arith) in
    rw (take-suc bs (suc k) 0 h, digits_append, front, little_sum bs k (omega arith), worth (suc k)) (omega arith)

big_sum : (bs : List ℕ) (m k : ℕ) → k < length bs → k ≤ m → sum_through (λ i. byte_worth (m - i) (get_or bs i 0)) k ≡ 256 ^ (m - k) * digits (reverse (take (suc k) bs))
unfolding digits
big_sum [] m zero h le = elim h [ ]
big_sum (b ∷ bs) m zero h le = rw (worth (m - 0) b) (omega arith)
big_sum bs m (suc k) h le =
    let above : m - k ≡ suc (m - suc k) = omega arith in
    rw (take-suc bs (suc k) 0 h, reverse-append, big_sum bs m k (omega arith) (omega arith), above, pow-succ', worth (m - suc k), mul-add, mul_assoc) (omega arith)

pub little_number : (order : RunTimeEndian) (k : ℕ) (s : List ℕ) (at : ℕ) (bs : List ℕ) → order ≡ Little → bs ≡ take (suc k) (drop at s) → at + suc k ≤ length s
    → sum_through (λ i. byte_worth i (get_or bs i 0)) k ≡ number_at order (suc k) s at
unfolding number_at spelled
little_number order k s at bs little here fits =
    let all : length bs ≡ suc k = rw here (simp (length-take, length-drop) (omega arith)) in
    rw (little, ← here) (rw (take_all (suc k) bs (omega arith)) at (little_sum bs k (omega arith)))

pub big_number : (order : RunTimeEndian) (k : ℕ) (s : List ℕ) (at : ℕ) (bs : List ℕ) → order ≡ Big → bs ≡ take (suc k) (drop at s) → at + suc k ≤ length s
    → sum_through (λ i. byte_worth (k - i) (get_or bs i 0)) k ≡ number_at order (suc k) s at
unfolding number_at spelled
big_number order k s at bs big here fits =
    let all : length bs ≡ suc k = rw here (simp (length-take, length-drop) (omega arith)) in
    let none : k - k ≡ 0 = omega arith in
    rw (big, ← here) (rw (take_all (suc k) bs (omega arith), none) at (big_sum bs k k (omega arith) (omega arith)) ∙ omega arith)

-- where the low and the high half of a number of n + n bytes stand
abbrev low_at : RunTimeEndian → ℕ → ℕ → ℕ
low_at Little n at = at
low_at Big n at = at + n

abbrev high_at : RunTimeEndian → ℕ → ℕ → ℕ
high_at Little n at = at + n
high_at Big n at = at

-- a number of n + n bytes is made of its halves
pub number_join : (order : RunTimeEndian) (n : ℕ) (s : List ℕ) (at : ℕ) → at + (n + n) ≤ length s
    → number_at order n s (low_at order n at) + 256 ^ n * number_at order n s (high_at order n at) ≡ number_at order (n + n) s at
unfolding number_at spelled
number_join Little n s at h =
    let front : length (take n (drop at s)) ≡ n = simp (length-take, length-drop) (omega arith) in
    rw (take-add, drop-drop, digits_append, front)
number_join Big n s at h =
    let back : length (take n (drop (at + n) s)) ≡ n = simp (length-take, length-drop) (omega arith) in
    rw (take-add, drop-drop, reverse-append, digits_append, length-reverse, back)

-- a number of one byte is that byte, in either order
pub number-one : (order : RunTimeEndian) (s : List ℕ) (at : ℕ) → at < length s → number_at order 1 s at ≡ get_or s at 0
unfolding number_at spelled digits
number-one Little s at h = rw (drop-cons s at 0) (omega arith)
number-one Big s at h = rw (drop-cons s at 0) (omega arith)

-- where a part has the bytes, the number that they spell is the section's at that place
pub number_in_part : (order : RunTimeEndian) (n : ℕ) (s : List ℕ) (at end : ℕ) → n ≤ left_at s at end → spelled order (take n (slice at end s)) ≡ number_at order n s at
unfolding number_at
number_in_part order n s at end h = rw (slice-take n s at end h)

one_reversed : (bs : List ℕ) → reverse (take 1 bs) ≡ take 1 bs
one_reversed [] = refl
one_reversed (b ∷ bs) = refl

-- both orders read one byte alike
pub one_byte : (order : RunTimeEndian) (s : List ℕ) (at end : ℕ) → read_number 1 order s at end ≡ read_byte s at end
unfolding read_number read_byte spelled
one_byte Little s at end = refl
one_byte Big s at end = rw (one_reversed (slice at end s))

-- what an answered read says: it lies inside the part, the number is what the bytes spell, and the next place is past them
pub read_answered : (n : ℕ) (order : RunTimeEndian) (s : List ℕ) (at end : ℕ) (r : Read ℕ) → read_number n order s at end ≡ answered r
    → (at + n ≤ part_end s end) × (r.value ≡ number_at order n s at) × (r.next ≡ at + n)
unfolding read_number
read_answered n order s at end r e =
    let (next, skip, same) = bind_answered (skipped n s at end) _ r e in
    let (inside, place) = skip_answered n s at end next skip in (
      inside,
      ap (λ q. q.value) (sym (same_answer same)) ∙ number_in_part order n s at end (omega arith),
      ap (λ q. q.next) (sym (same_answer same)) ∙ place,
    )

pub byte-answered : (s : List ℕ) (at end : ℕ) (r : Read ℕ) → read_byte s at end ≡ answered r
    → (at + 1 ≤ part_end s end) × (r.value ≡ get_or s at 0) × (r.next ≡ at + 1)
unfolding read_byte
byte-answered s at end r e =
    let (inside, value, next) = read_answered 1 Little s at end r e in
    (inside, value ∙ number-one Little s at (omega arith), next)

-- bytes that lie inside the part are read, and others are refused
pub number_read : (n : ℕ) (order : RunTimeEndian) (s : List ℕ) (at end : ℕ) → at + n ≤ part_end s end → read_number n order s at end ≡ answered (record { value = number_at order n s at; next = at + n })
unfolding read_number
number_read n order s at end h = rw (skip_inside n s at end h, number_in_part order n s at end (omega arith))

pub number_missing : (n : ℕ) (order : RunTimeEndian) (s : List ℕ) (at end : ℕ) → part_end s end < at + n → read_number n order s at end ≡ refused 1 at
unfolding read_number
number_missing n order s at end h = rw (skip_past n s at end h)

pub byte_read : (s : List ℕ) (at end : ℕ) → at + 1 ≤ part_end s end → read_byte s at end ≡ answered (record { value = get_or s at 0; next = at + 1 })
unfolding read_byte
byte_read s at end h = rw (number_read 1 Little s at end h, number-one Little s at (omega arith))

pub byte_missing : (s : List ℕ) (at end : ℕ) → part_end s end < at + 1 → read_byte s at end ≡ refused 1 at
unfolding read_byte
byte_missing s at end h = number_missing 1 Little s at end h

-- a read of at least one byte is read forward
pub read_forward : NumbersForward
read_forward n order s at end r h e =
    let (inside, value, next) = read_answered n order s at end r e in
    omega arith

-- a read of at least one byte looks at no byte outside its part: sections with the same bytes there are read alike
pub read_part : NumbersInPart
unfolding read_number
read_part n order s t at end h e = rw (skip_bytes n s t at end h e, e)

-- the number of n digits, back from its digits
digits_of_lem : (n v : ℕ) → v < 256 ^ n → digits (digits_of n v) ≡ v
unfolding digits digits_of
digits_of_lem zero v h = omega arith
digits_of_lem (suc n) v h =
    let p : v < 256 * 256 ^ n = rw (← pow-succ') h in
    let q : v / 256 < 256 ^ n = omega arith in
    rw (digits_of_lem n (v / 256) q) (mod-add-div v 256)

digits_of_length : (n v : ℕ) → length (digits_of n v) ≡ n
unfolding digits_of
digits_of_length zero v = refl
digits_of_length (suc n) v = ap suc (digits_of_length n (v / 256))

digits_back : {bs : List ℕ} → Bytes bs → digits_of (length bs) (digits bs) ≡ bs
unfolding digits digits_of
digits_back no_bytes = refl
digits_back (byte_then {b} {bs} h r) =
    let low : (b + 256 * digits bs) % 256 ≡ b = omega arith in
    let high : (b + 256 * digits bs) / 256 ≡ digits bs = omega arith in
    rw (low, high, digits_back r)

digits-below : {bs : List ℕ} → Bytes bs → digits bs < 256 ^ length bs
unfolding digits
digits-below no_bytes = omega arith
digits-below (byte_then {b} {bs} h r) = rw pow-succ' (omega (arith, digits-below r))

-- lists of bytes: what a section's own elements say, and the parts of a list
pub bytes_of_lem : (s : List ℕ) → ((i : ℕ) → get_or s i 0 < 256) → Bytes s
bytes_of_lem [] h = no_bytes
bytes_of_lem (b ∷ bs) h = byte_then (h 0) (bytes_of_lem bs (λ i. h (suc i)))

bytes-append : {xs ys : List ℕ} → Bytes xs → Bytes ys → Bytes (xs ++ ys)
bytes-append no_bytes k = k
bytes-append (byte_then h r) k = byte_then h (bytes-append r k)

bytes-reverse : {bs : List ℕ} → Bytes bs → Bytes (reverse bs)
bytes-reverse no_bytes = no_bytes
bytes-reverse (byte_then {b} {bs} h r) = rw (reverse-cons b bs) (bytes-append (bytes-reverse r) (byte_then h no_bytes))

bytes_take : (n : ℕ) {bs : List ℕ} → Bytes bs → Bytes (take n bs)
bytes_take zero r = no_bytes
bytes_take (suc n) no_bytes = no_bytes
bytes_take (suc n) (byte_then h r) = byte_then h (bytes_take n r)

bytes_drop : (n : ℕ) {bs : List ℕ} → Bytes bs → Bytes (drop n bs)
bytes_drop zero r = r
bytes_drop (suc n) no_bytes = no_bytes
bytes_drop (suc n) (byte_then h r) = bytes_drop n r

spelled-below : (order : RunTimeEndian) {bs : List ℕ} → Bytes bs → spelled order bs < 256 ^ length bs
unfolding spelled
spelled-below Little h = digits-below h
spelled-below Big {bs} h = rw (length-reverse bs) at (digits-below (bytes-reverse h))

-- a number of n bytes is below 256 ^ n
pub read_below : NumbersBelow
unfolding number_at
read_below n order s at end r h e =
    let (fits, value, next) = read_answered n order s at end r e in
    let all : length (take n (drop at s)) ≡ n = simp (length-take, length-drop) (omega arith) in
    rw value (rw all at (spelled-below order (bytes_take n (bytes_drop at h))))

-- the bytes of a number are n
pub bytes-length : (order : RunTimeEndian) (n v : ℕ) → length (bytes_of order n v) ≡ n
unfolding bytes_of
bytes-length Little n v = digits_of_length n v
bytes-length Big n v = length-reverse (digits_of n v) ∙ digits_of_length n v

-- the round trip: a number's bytes spell it, and what bytes spell has these bytes
pub bytes_spell : BytesSpell
unfolding spelled bytes_of
bytes_spell Little n v h = digits_of_lem n v h
bytes_spell Big n v h = rw (reverse-reverse (digits_of n v)) (digits_of_lem n v h)

pub spelled-bytes : SpelledBytes
unfolding spelled bytes_of
spelled-bytes Little bs h = digits_back h
spelled-bytes Big bs h = ap reverse (rw (length-reverse bs) at (digits_back (bytes-reverse h))) ∙ reverse-reverse bs

-- so a number that was written is read back, with the next place right after it
pub read_back : NumbersReadBack
unfolding read_number
read_back order n v s after at end some h e =
    let whole : length (slice at end s) ≡ n + length after = rw (e, length-append, bytes-length order n v) in
    let room : n ≤ left_at s at end = rw (← left_is_length s at end) (omega arith) in
    let fits : at + n ≤ part_end s end = omega arith in
    rw (skip_inside n s at end fits, e, take_at (bytes_of order n v) after n (bytes-length order n v), bytes_spell order n v h)

-- in particular where it stands between other bytes
pub number-written : (order : RunTimeEndian) (n v : ℕ) (before after : List ℕ) → 1 ≤ n → v < 256 ^ n
    → read_number n order (before ++ (bytes_of order n v ++ after)) (length before) (length (before ++ (bytes_of order n v ++ after)))
    ≡ answered (record { value = v; next = length before + n })
number-written order n v before after some h = read_back order n v (before ++ (bytes_of order n v ++ after)) after (length before) (length (before ++ (bytes_of order n v ++ after))) some h (slice-after before (bytes_of order n v ++ after))

-- an initial length is a number of 4 bytes, or one of 8 after it
length_cases : (order : RunTimeEndian) (s : List ℕ) (at end : ℕ) (l : InitialLength) → initial_length order s at end ≡ answered l
    → (first : Read ℕ) × (read_number 4 order s at end ≡ answered first)
    × (((l.length ≡ first.value) × (l.next ≡ first.next))
    ⊎ ((wide : Read ℕ) × (read_number 8 order s first.next end ≡ answered wide) × (l.length ≡ wide.value) × (l.next ≡ wide.next)))
unfolding initial_length
length_cases order s at end l e =
    let (first, p, q) = bind_answered (read_number 4 order s at end) _ l e in (
      first,
      p,
      ⊎_elim
          (λ w. inl (ap (λ m. m.length) (sym (same_answer w.1)), ap (λ m. m.next) (sym (same_answer w.1))))
          (λ w.
          let (t, m) = cond-answered (eqb first.value 0xffffffff) _ 2 first.value l w.1 in
          let (wide, o, u) = bind_answered (read_number 8 order s first.next end) _ l m in
          inr (wide, o, ap (λ m. m.length) (sym (same_answer u)), ap (λ m. m.next) (sym (same_answer u))))
          (cond_is (ltb first.value 0xfffffff0) _ _ (answered l) q),
    )

-- it is read forward
pub length-forward : LengthsForward
length-forward order s at end l e =
    let (first, p, w) = length_cases order s at end l e in
    let (fits, value, next) = read_answered 4 order s at end first p in
    ⊎_elim
    (λ u. omega arith)
    (λ u. let (fits', value', next') = read_answered 8 order s first.next end u.0 u.1 in omega arith)
    w

-- it is below 2 ^ 64
pub length-below : LengthsBelow
length-below order s at end l h e =
    let (first, p, w) = length_cases order s at end l e in
    let small : first.value < 256 ^ 4 = read_below 4 order s at end first h p in
    ⊎_elim
    (λ u. omega arith)
    (λ u. let wide : u.0.value < 256 ^ 8 = read_below 8 order s first.next end u.0 h u.1 in omega arith)
    w

-- it looks at no byte outside its part
pub length_part : LengthsInPart
unfolding initial_length
length_part order s t at end e =
    rw (read_part 4 order s t at end (omega arith) e)
    (bind_same (read_number 4 order t at end) _ _ λ first p.
    let (fits, value, next) = read_answered 4 order t at end first p in
    let wide : read_number 8 order s first.next end ≡ read_number 8 order t first.next end = rw next (read_part 8 order s t (at + 4) end (omega arith) (slice-later 4 s t at end e)) in
    rw wide)
