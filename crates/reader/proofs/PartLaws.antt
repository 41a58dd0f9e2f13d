-- Laws of parts: how many bytes are left, and what a skip or a cut that is answered says.
use Prim.Native.Nat.{ℕ, zero, suc, ◌+◌, ◌-◌, ◌≤◌, ◌<◌}
use mathlib.Core.Path.{◌≡◌, refl, sym, ap, ◌∙◌}
use mathlib.Core.List.{List, [], ◌∷◌, ◌++◌}
use native.Mathlib.Omega.{arith}
use native.Mathlib.Numerals.{add-one}
use lib.ListN.{length, take, drop, get_or, length-take, length-drop, drop_of_length-le}
use lib.Seq.{slice, take-length, take-nil, take-take, drop-append_seam, drop-cons, get_or-take, get_or-drop, drop-drop, ext_get_or}
use mathlib.Core.Bool.{Bool, true, false}
use lib.Dec.{leb}
use borrow.Author.Tests.{leb-true, leb-false, le-leb, lt-leb}
use Rattle.reader.specs.Outcome.{answered, refused}
use Rattle.reader.specs.Parts.{part_end, left_at, skipped, cut}
use Rattle.reader.specs.Sanity.{CutsInside}
use Rattle.reader.proofs.OutcomeLaws.{cond-answered, bind_answered, same_answer}

-- `left_at` is the length of the list of the part's bytes
pub left_is_length : (s : List ℕ) (at end : ℕ) → length (slice at end s) ≡ left_at s at end
left_is_length s at end = rw (length-drop, length-take)

-- a part that has a byte left begins with it
pub slice_first : (s : List ℕ) (at end : ℕ) → 1 ≤ left_at s at end → slice at end s ≡ get_or s at 0 ∷ slice (at + 1) end s
slice_first s at end h =
    let fits : at < length (take end s) = rw length-take (omega arith) in
    let inside : at < end = omega arith in
    rw (add-one at) (drop-cons (take end s) at 0 fits ∙ ap (λ b. b ∷ slice (suc at) end s) (get_or-take end s at 0 inside))

-- a part that has none is empty
pub slice_none : (s : List ℕ) (at end : ℕ) → left_at s at end < 1 → slice at end s ≡ []
slice_none s at end h =
    let short : length (take end s) ≤ at = rw length-take (omega arith) in
    drop_of_length-le (take end s) short

-- the n bytes of a part that has them are the section's
pub slice-take : (n : ℕ) (s : List ℕ) (at end : ℕ) → n ≤ left_at s at end → take n (slice at end s) ≡ take n (drop at s)
slice-take n s at end h =
    ext_get_or 0 _ _ (simp (length-take, length-drop) (omega arith)) λ i k.
    let j : i < n = omega (arith, length-take n (slice at end s)) in
    let inside : at + i < end = omega arith in
    rw (get_or-take n, get_or-drop at, get_or-take end, get_or-take n, get_or-drop at)

-- what was written after `before` is the rest of the section
pub slice-after : (before written : List ℕ) → slice (length before) (length (before ++ written)) (before ++ written) ≡ written
slice-after before written = rw (take-length (before ++ written)) (drop-append_seam before written)

-- sections with the same bytes of a part from a place on have the same from any later place on
pub slice-later : (n : ℕ) (s t : List ℕ) (at end : ℕ) → slice at end s ≡ slice at end t → slice (at + n) end s ≡ slice (at + n) end t
slice-later n s t at end e = sym (drop-drop n at (take end s)) ∙ ap (drop n) e ∙ drop-drop n at (take end t)

-- the same from a place that a reading reached
pub slice-from : (s t : List ℕ) (at next end : ℕ) → at ≤ next → slice at end s ≡ slice at end t → slice next end s ≡ slice next end t
slice-from s t at next end h e =
    let place : next ≡ at + (next - at) = omega arith in
    rw place (slice-later (next - at) s t at end e)

-- a part that ends earlier is the beginning of the part
drop-take : (m n : ℕ) (l : List ℕ) → drop m (take n l) ≡ take (n - m) (drop m l)
drop-take zero n l =
    let same : n - 0 ≡ n = omega arith in
    rw same
drop-take (suc m) zero l =
    let none : 0 - suc m ≡ 0 = omega arith in
    rw none refl
drop-take (suc m) (suc n) [] = sym (take-nil (suc n - suc m))
drop-take (suc m) (suc n) (b ∷ bs) =
    let same : suc n - suc m ≡ n - m = omega arith in
    rw same (drop-take m n bs)

slice_take_part : (s : List ℕ) (at stop end : ℕ) → stop ≤ end → slice at stop s ≡ take (stop - at) (slice at end s)
slice_take_part s at stop end h = ap (drop at) (sym (take-take stop end s h)) ∙ drop-take at stop (take end s)

-- so sections with the same bytes of a part have the same of every part inside it
pub slice-within : (s t : List ℕ) (at place stop end : ℕ) → at ≤ place → stop ≤ end → slice at end s ≡ slice at end t → slice place stop s ≡ slice place stop t
slice-within s t at place stop end h k e =
    slice_take_part s place stop end k ∙ ap (take (stop - place)) (slice-from s t at place end h e) ∙ sym (slice_take_part t place stop end k)

-- sections with the same bytes of a part have the same number of them
pub slice-left : (s t : List ℕ) (at end : ℕ) → slice at end s ≡ slice at end t → left_at s at end ≡ left_at t at end
slice-left s t at end e = sym (left_is_length s at end) ∙ ap length e ∙ left_is_length t at end

module _ (n : ℕ) (s : List ℕ) (at end : ℕ) where
  -- a skip that ends inside the part is answered, and any other is refused
  pub skip_inside : at + n ≤ part_end s end → skipped n s at end ≡ answered (at + n)
  unfolding skipped
  skip_inside h = rw (le-leb (at + n) (part_end s end) h)

  pub skip_past : part_end s end < at + n → skipped n s at end ≡ refused 1 at
  unfolding skipped
  skip_past h = rw (lt-leb (at + n) (part_end s end) h)

  -- what an answered skip says
  pub skip_answered : (p : ℕ) → skipped n s at end ≡ answered p → (at + n ≤ part_end s end) × (p ≡ at + n)
  unfolding skipped
  skip_answered p e =
      let (fits, same) = cond-answered (leb (at + n) (part_end s end)) _ 1 at p e in
      (leb-true _ _ fits, sym (same_answer same))

-- what an answered cut says
pub cut-answered : CutsInside
unfolding cut
cut-answered n s at end p e =
    let (next, skip, same) = bind_answered (skipped n s at end) _ p e in
    let (fits, place) = skip_answered n s at end next skip in
    let ends : p.end ≡ next = ap (λ c. c.end) (sym (same_answer same)) in
    (ap (λ c. c.at) (sym (same_answer same)), ends ∙ place, omega arith)

-- a skip looks at no byte, only at where the part ends
pub skip_part : (n : ℕ) (s t : List ℕ) (at end : ℕ) → part_end s end ≡ part_end t end → skipped n s at end ≡ skipped n t at end
unfolding skipped
skip_part n s t at end e = rw e

-- so where at least one byte is skipped, sections with the same bytes in the part are skipped alike
pub skip_bytes : (n : ℕ) (s t : List ℕ) (at end : ℕ) → 1 ≤ n → slice at end s ≡ slice at end t → skipped n s at end ≡ skipped n t at end
skip_bytes n s t at end h e = go (leb (at + n) (part_end s end)) refl
  where
    same : left_at s at end ≡ left_at t at end
    same = slice-left s t at end e

    go : (b : Bool) → leb (at + n) (part_end s end) ≡ b → skipped n s at end ≡ skipped n t at end
    go true f =
        let inside : at + n ≤ part_end s end = leb-true _ _ f in
        skip_inside n s at end inside ∙ sym (skip_inside n t at end (omega (arith, same)))
    go false f =
        let past : part_end s end < at + n = leb-false _ _ f in
        skip_past n s at end past ∙ sym (skip_past n t at end (omega (arith, same)))
