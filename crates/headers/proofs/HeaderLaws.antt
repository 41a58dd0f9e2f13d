-- Laws of headers: padding, what an answered header says, and that steps move forward.
use Prim.Native.Nat.{ℕ, zero, suc, ◌+◌, ◌-◌, ◌/◌, ◌%◌, ◌≤◌, ◌<◌}
use mathlib.Core.Path.{subst, ◌≡◌, refl, sym, ap, ◌∙◌}
use mathlib.Core.Bool.{Bool, true, false, cond}
use mathlib.Core.Logic.{◌⊎◌, inl, inr}
use mathlib.Core.List.{List, [], ◌∷◌}
use Rattle.std.specs.Prelude.{Option, Some, None}
use Rattle.reader.proofs.OutcomeLaws.{none-ne-some, some-injective}
use native.Mathlib.Omega.{arith}
use lib.ListN.{length}
use lib.Seq.{slice}
use lib.Dec.{ltb, leb, eqb}
use borrow.Author.Tests.{le-ltb, le-leb, leb-true, leb-false, eqb-true, eqb-false}
use Rattle.reader.specs.Outcome.{Outcome, answered, refused, ◌>>=◌, ◌>>◌, demand, refuse_if}
use Rattle.reader.specs.Errors.{longest}
use Rattle.reader.specs.Parts.{part_end, skipped, cut}
use Rattle.reader.specs.Numbers.{read_number, initial_length}
use Rattle.reader.specs.declared.reader.Read.{Read}
use Rattle.reader.specs.Steps.{Step, keeping, step_of, no_steps, step_then, answers, has_end}
use Rattle.reader.specs.Answers.{outcome}
use Rattle.reader.specs.Listing.{Advances}
use Rattle.reader.proofs.ListingLaws.{listing_step}
use Rattle.reader.specs.declared.endianity.RunTimeEndian.{RunTimeEndian}
use Rattle.reader.proofs.OutcomeLaws.{refused-answered, same_answer, bind_answered, answered_then, then_answered, cond_is, bind_same, bind_both}
use Rattle.reader.proofs.PartLaws.{skip_answered, cut-answered, skip_part, slice-from}
use Rattle.reader.proofs.NumberLaws.{read_forward, read_part, length-forward}
use Rattle.headers.specs.declared.header.HeaderCut.{HeaderCut}
use Rattle.headers.specs.declared.header.Counts.{Counts}
use Rattle.headers.specs.declared.header.AugmentationString.{AugmentationString}
use Rattle.headers.specs.declared.header.NameIndexHeader.{NameIndexHeader}
use Rattle.headers.specs.declared.headers.NameIndexHeaderIter.{NameIndexHeaderIter}
use Rattle.headers.specs.Header.{header_cut, counts, padding_for, padding, augmentation, header_body, header}
use Rattle.headers.specs.Headers.{after_header, header_step, header_at, headers_from}
use Rattle.headers.specs.Sanity.{PaddingCases, PaddingSum, PaddingFills, PaddingLeast, PaddingComputed, HeadersFit, StepsForward, WalksEnd, HeadersUnfold, BodiesInPart}

pub padding_cases : PaddingCases
unfolding padding padding_for
padding_cases size = (λ e. rw e, λ e. rw e, λ e. rw e, λ e. rw e)

pub padding_sum : PaddingSum
unfolding padding padding_for
padding_sum size = by_remainder (size % 4) (omega arith)
  where
    by_remainder : (remainder : ℕ) → remainder < 4 → padding_for remainder ≡ (4 - remainder) % 4
    by_remainder zero h = refl
    by_remainder (suc zero) h = refl
    by_remainder (suc (suc zero)) h = refl
    by_remainder (suc (suc (suc zero))) h = refl
    by_remainder (suc (suc (suc (suc more)))) h = absurd (omega arith)

pub padding_fills : PaddingFills
padding_fills size = ((size + 3) / 4, rw (padding_sum size) (omega arith))

pub padding_least : PaddingLeast
padding_least size n m e = rw (padding_sum size) (omega arith)

pub padding_computed : PaddingComputed
unfolding padding padding_for
padding_computed = refl

-- the part that is cut out lies past the header's place and inside the section
pub cut-forward : (order : RunTimeEndian) (s : List ℕ) (at : ℕ) (c : HeaderCut) → header_cut order s at ≡ answered c
    → (at < c.body.at) × (c.body.at ≤ c.body.end) × (c.body.end ≤ length s)
unfolding header_cut
cut-forward order s at c e =
    let (l, read, e₁) = bind_answered (initial_length order s at (length s)) _ c e in
    let (part, split, e₂) = bind_answered (cut l.length s l.next (length s)) _ c e₁ in
    let (ahead, inside) = length-forward order s at (length s) l read in
    let (begins, ends, within) = cut-answered l.length s l.next (length s) part split in
    let first : c.body.at ≡ part.at = ap (λ c. c.body.at) (sym (same_answer e₂)) in
    let last : c.body.end ≡ part.end = ap (λ c. c.body.end) (sym (same_answer e₂)) in
    (omega arith, omega arith, omega arith)

-- and its offset is the header's place
pub cut-offset : (order : RunTimeEndian) (s : List ℕ) (at : ℕ) (c : HeaderCut) → header_cut order s at ≡ answered c → c.offset.0 ≡ at
unfolding header_cut
cut-offset order s at c e =
    let (l, read, e₁) = bind_answered (initial_length order s at (length s)) _ c e in
    let (part, split, e₂) = bind_answered (cut l.length s l.next (length s)) _ c e₁ in
    ap (λ c. c.offset.0) (sym (same_answer e₂))

-- the counts are read forward, and lie inside their part
counts-inside : (order : RunTimeEndian) (s : List ℕ) (at end : ℕ) (n : Counts) → counts order s at end ≡ answered n → (at ≤ n.next) × (n.next ≤ part_end s end)
unfolding counts
counts-inside order s at end n =
    field at (omega arith) λ c past inside.
    field c.next past λ l past inside.
    field l.next past λ f past inside.
    field f.next past λ b past inside.
    field b.next past λ m past inside.
    field m.next past λ a past inside.
    field a.next past λ z past inside e.
    let last : n.next ≡ z.next = ap (λ n. n.next) (sym (same_answer e)) in
    (omega (arith, past, last), omega (arith, inside, last))
  where
    Inside : Type 0
    Inside = (at ≤ n.next) × (n.next ≤ part_end s end)

    field : {f : Read ℕ → Outcome Counts} (from : ℕ) → at ≤ from → ((r : Read ℕ) → at ≤ r.next → r.next ≤ part_end s end → f r ≡ answered n → Inside)
        → (read_number 4 order s from end >>= f) ≡ answered n → Inside
    field {f = f} from past more = answered_then (read_number 4 order s from end) f n Inside λ r read.
        let (ahead, inside) = read_forward 4 order s from end r (omega arith) read in
        more r (omega arith) inside

-- so does the augmentation with its padding
augmentation-inside : (size : ℕ) (s : List ℕ) (at end : ℕ) (a : Read (Option AugmentationString)) → at ≤ part_end s end → augmentation size s at end ≡ answered a → (at ≤ a.next) × (a.next ≤ part_end s end)
unfolding augmentation
augmentation-inside size s at end a h e = chosen (cond_is (eqb size 0) _ _ (answered a) e)
  where
    rest : Outcome (Read (Option AugmentationString))
    rest = do
      string ← cut size s at end
      next ← skipped (padding size) s string.end end
      answered (record { value = Some (record { place = string.at; len = size }); next = next })

    chosen : ((eqb size 0 ≡ true) × (answered (record { value = None; next = at }) ≡ answered a)) ⊎ ((eqb size 0 ≡ false) × (rest ≡ answered a))
        → (at ≤ a.next) × (a.next ≤ part_end s end)
    chosen (inl (zero-size, same)) =
        let past : a.next ≡ at = ap (λ a. a.next) (sym (same_answer same)) in
        (omega arith, omega arith)
    chosen (inr (some_size, on)) =
        let (string, split, e₁) = bind_answered (cut size s at end) _ a on in
        let (next, skip, e₂) = bind_answered (skipped (padding size) s string.end end) _ a e₁ in
        let (begins, ends, within) = cut-answered size s at end string split in
        let (inside, place) = skip_answered (padding size) s string.end end next skip in
        let past : a.next ≡ next = ap (λ a. a.next) (sym (same_answer e₂)) in
        (omega arith, omega arith)

-- what the fields say: the offset is that of the part that was cut out, the index ends where the part ends, and its content begins inside
pub body_answered : (order : RunTimeEndian) (s : List ℕ) (c : HeaderCut) (h : NameIndexHeader) → header_body order s c ≡ answered h
    → (h.offset.0 ≡ c.offset.0) × (h.content.end ≡ c.body.end) × (c.body.at ≤ h.content.at) × (h.content.at ≤ c.body.end)
unfolding header_body
body_answered order s c h e =
    let end = c.body.end in
    let (version, read, e₁) = bind_answered (read_number 2 order s c.body.at end) _ h e in
    let (u, five, e₂) = then_answered (demand (eqb version.value 5) 3 version.value) _ h e₁ in
    let (padded, skip, e₃) = bind_answered (skipped 2 s version.next end) _ h e₂ in
    let (n, counted, e₄) = bind_answered (counts order s padded end) _ h e₃ in
    let (a, read_a, e₅) = bind_answered (augmentation n.augmentation_string_size s n.next end) _ h e₄ in
    let (ahead, within) = read_forward 2 order s c.body.at end version (omega arith) read in
    let (fits, place) = skip_answered 2 s version.next end padded skip in
    let (counts-ahead, counts-within) = counts-inside order s padded end n counted in
    let (past, inside) = augmentation-inside n.augmentation_string_size s n.next end a counts-within read_a in
    let begins : h.content.at ≡ a.next = ap (λ h. h.content.at) (sym (same_answer e₅)) in (
      ap (λ h. h.offset.0) (sym (same_answer e₅)),
      ap (λ h. h.content.end) (sym (same_answer e₅)),
      omega (arith, ahead, place, counts-ahead, past, begins),
      omega (arith, inside, begins),
    )

pub header-fits : HeadersFit
unfolding header
header-fits order s at h e =
    let (c, split, body) = bind_answered (header_cut order s at) _ h e in
    let (ahead, order, inside) = cut-forward order s at c split in
    let (offset, ends, begins, within) = body_answered _ s c h body in
    (omega arith, omega arith, omega arith)

-- the content of a header begins past the header's place
pub header-begins : (order : RunTimeEndian) (s : List ℕ) (at : ℕ) (h : NameIndexHeader) → header order s at ≡ answered h → at ≤ h.content.at
unfolding header
header-begins order s at h e =
    let (c, split, body) = bind_answered (header_cut order s at) _ h e in
    let (ahead, inside, within) = cut-forward order s at c split in
    let (offset, ends, begins, fits) = body_answered order s c h body in
    omega arith

-- the step, by the outcomes of its tests and of reading the header
abbrev step_by : Bool → Bool → Bool → Outcome NameIndexHeader → List ℕ → NameIndexHeaderIter → Step NameIndexHeader NameIndexHeaderIter
step_by t u v o s c = keeping c (refuse_if t 13 0 >> (refuse_if u 14 0 >> answered (cond v (record { answer = answered None; cursor = c }) (after_header s o))))

step_by_lem : (order : RunTimeEndian) (s : List ℕ) (c : NameIndexHeaderIter)
    → header_step order s c ≡ step_by (ltb longest (length s)) (ltb (length s) c.at) (eqb c.at (length s)) (header order s c.at) s c
unfolding header_step
step_by_lem order s c = refl

-- a step that gives a header read it, and its cursor is where the header's index ends
gave_header : (t u v : Bool) (o : Outcome NameIndexHeader) (s : List ℕ) (c : NameIndexHeaderIter) (h : NameIndexHeader)
    → (step_by t u v o s c).answer ≡ answered (Some h) → (o ≡ answered h) × ((step_by t u v o s c).cursor.at ≡ h.content.end)
unfolding after_header
gave_header true u v o s c h e = absurd (refused-answered e)
gave_header false true v o s c h e = absurd (refused-answered e)
gave_header false false true o s c h e = absurd (none-ne-some h (same_answer e))
gave_header false false false (answered k) s c h e =
    let same : k ≡ h = some-injective k h (same_answer e) in
    (ap answered same, ap (λ k. k.content.end) same)
gave_header false false false (refused n m) s c h e = absurd (refused-answered e)

pub steps_forward : StepsForward
steps_forward order s c h =
    rw (step_by_lem order s c) λ e.
    let (read, ends) = gave_header (ltb longest (length s)) (ltb (length s) c.at) (eqb c.at (length s)) (header order s c.at) s c h e in
    let (ahead, begins, inside) = header-fits order s c.at h read in
    (omega arith, omega arith)

-- a step is the end, or it is not and moves forward inside the section
abbrev Moves : List ℕ → NameIndexHeaderIter → Step NameIndexHeader NameIndexHeaderIter → Type 0
Moves s c t =
    (t.answer ≡ answered None)
    ⊎ (((os : List (Outcome (Option NameIndexHeader))) → has_end (t.answer ∷ os) ≡ has_end os) × (c.at < t.cursor.at) × (t.cursor.at ≤ length s))

moves_by : (v : Bool) (o : Outcome NameIndexHeader) (order : RunTimeEndian) (s : List ℕ) (c : NameIndexHeaderIter)
    → c.at ≤ length s → eqb c.at (length s) ≡ v → header order s c.at ≡ o → Moves s c (step_by false false v o s c)
unfolding after_header has_end
moves_by true o order s c fits e read = inl refl
moves_by false (answered h) order s c fits e read =
    let (ahead, begins, inside) = header-fits order s c.at h read in
    inr (λ os. refl, ahead, inside)
moves_by false (refused n m) order s c fits e read =
    let other : (c.at ≡ length s) → ⊥ = eqb-false c.at (length s) e in
    inr (λ os. refl, omega arith, omega arith)

-- so it is in a section that is not too long, for a cursor that fits
pub step_moves : (order : RunTimeEndian) (s : List ℕ) (c : NameIndexHeaderIter) → length s ≤ longest → c.at ≤ length s → Moves s c (header_step order s c)
step_moves order s c short fits =
    rw (step_by_lem order s c, le-ltb longest (length s) short, le-ltb (length s) c.at fits)
    (moves_by (eqb c.at (length s)) (header order s c.at) order s c fits refl refl)

-- the header at a place was read there
header-there : (order : RunTimeEndian) (s : List ℕ) (at : ℕ) (h : NameIndexHeader) → header_at order s at ≡ answered (Some h) → header order s at ≡ answered h
unfolding header_at
header-there order s at h = other (leb (length s) at)
  where
    other : (t : Bool) → cond t (answered None) (header order s at >>= λ h. answered (Some h)) ≡ answered (Some h) → header order s at ≡ answered h
    other true e = absurd (none-ne-some _ (same_answer e))
    other false e =
        let (g, read, same) = bind_answered (header order s at) _ (Some h) e in
        read ∙ ap (λ h. answered h) (some-injective _ _ (same_answer same))

no_header : (order : RunTimeEndian) (s : List ℕ) (at : ℕ) → length s ≤ at → header_at order s at ≡ answered None
unfolding header_at
no_header order s at h = rw (le-leb (length s) at h)

-- headers are read forward, and end with the section
headers_advance : (order : RunTimeEndian) (s : List ℕ) → Advances (header_at order s) (λ h. h.content.end) (length s)
headers_advance order s = record {
  forward = λ at h read.
      let (ahead, begins, inside) = header-fits order s at h (header-there order s at h read) in
      (ahead, inside);
  none_at_stop = no_header order s;
}

pub headers_step : HeadersUnfold
unfolding headers_from
headers_step order s at = listing_step (header_at order s) (λ h. h.content.end) (length s) (headers_advance order s) at

-- the step of a cursor that fits, by the header at its place
pub header_step_at : (order : RunTimeEndian) (s : List ℕ) (c : NameIndexHeaderIter) → length s ≤ longest → c.at ≤ length s
    → header_step order s c ≡ cond (leb (length s) c.at) (record { answer = answered None; cursor = c }) (after_header s (header order s c.at))
unfolding header_step
header_step_at order s c short fits = rw (le-ltb longest (length s) short, le-ltb (length s) c.at fits) (tested (eqb c.at (length s)) (leb (length s) c.at) refl refl)
  where
    tested : (t u : Bool) → eqb c.at (length s) ≡ t → leb (length s) c.at ≡ u
        → cond t (record { answer = answered None; cursor = c }) (after_header s (header order s c.at)) ≡ cond u (record { answer = answered None; cursor = c }) (after_header s (header order s c.at))
    tested true true e f = refl
    tested true false e f = absurd (omega (arith, eqb-true c.at (length s) e, leb-false (length s) c.at f))
    tested false true e f = let above = leb-true (length s) c.at f in absurd (eqb-false c.at (length s) e (omega arith))
    tested false false e f = refl

-- a walk ends, by its steps one at a time
pub walks_end : WalksEnd
unfolding has_end
walks_end order s c [] short fits no_steps many = absurd (omega arith)
walks_end order s c (t ∷ ts) short fits (step_then is linked) many =
    first (subst (λ step. Moves s c step) (sym is) (step_moves order s c short fits)) (λ inside further. walks_end order s t.cursor ts short inside linked further)
  where
    first : Moves s c (step_of t.answer t.cursor) → (t.cursor.at ≤ length s → length s - t.cursor.at < length ts → has_end (answers ts) ≡ true) → has_end (outcome t.answer ∷ answers ts) ≡ true
    first (inl ended) rest = rw ended refl
    first (inr (passes, ahead, inside)) rest = passes (answers ts) ∙ rest inside (omega arith)

-- a header looks at no byte outside its part: its counts, its augmentation and so its fields are the same in sections with the
-- same bytes there
counts_part : (order : RunTimeEndian) (s t : List ℕ) (at end : ℕ) → slice at end s ≡ slice at end t → counts order s at end ≡ counts order t at end
unfolding counts
counts_part order s t at end e =
    next at e λ c e.
    next c.next e λ l e.
    next l.next e λ f e.
    next f.next e λ b e.
    next b.next e λ n e.
    next n.next e λ a e.
    next a.next e λ z e. refl
  where
    next : {B : Type 0} {f g : Read ℕ → Outcome B} (at : ℕ) → slice at end s ≡ slice at end t → ((r : Read ℕ) → slice r.next end s ≡ slice r.next end t → f r ≡ g r)
        → (read_number 4 order s at end >>= f) ≡ (read_number 4 order t at end >>= g)
    next {f = f} {g = g} at e more = bind_both (read_number 4 order s at end) (read_number 4 order t at end) f g (read_part 4 order s t at end (omega arith) e) λ r read.
        let (ahead, inside) = read_forward 4 order s at end r (omega arith) read in
        more r (slice-from s t at r.next end (omega arith) e)

augmentation_part : (size : ℕ) (s t : List ℕ) (at end : ℕ) → part_end s end ≡ part_end t end → augmentation size s at end ≡ augmentation size t at end
unfolding augmentation cut
augmentation_part size s t at end e =
    rw (skip_part size s t at end e)
    (ap (cond (eqb size 0) _)
    (bind_same (skipped size t at end >>= λ next. answered (record { at = at; end = next })) _ _ λ string read. rw (skip_part (padding size) s t string.end end e)))

pub bodies_in_part : BodiesInPart
unfolding header_body
bodies_in_part order s t c ends-s ends-t e =
    let at = c.body.at in
    let end = c.body.end in
    let same : part_end s end ≡ part_end t end = omega arith in
    bind_both (read_number 2 order s at end) (read_number 2 order t at end) _ _ (read_part 2 order s t at end (omega arith) e) λ version read.
    let (ahead, inside) = read_forward 2 order s at end version (omega arith) read in
    ap (λ m. demand (eqb version.value 5) 3 version.value >> m)
    (bind_both (skipped 2 s version.next end) (skipped 2 t version.next end) _ _ (skip_part 2 s t version.next end same) λ padded skip.
    let (fits, place) = skip_answered 2 s version.next end padded skip in
    bind_both (counts order s padded end) (counts order t padded end) _ _ (counts_part order s t padded end (slice-from s t at padded end (omega arith) e)) λ n counted.
    rw (augmentation_part n.augmentation_string_size s t n.next end same))
