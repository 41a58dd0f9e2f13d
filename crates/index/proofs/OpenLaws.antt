-- Laws of opening: cutting the parts by skips is comparing their places with the end; an opened index fits.
use Prim.Native.Nat.{ℕ, ◌+◌, ◌≤◌}
use mathlib.Core.Path.{◌≡◌, refl, sym, ap, ◌∙◌}
use mathlib.Core.Bool.{Bool, true, false, cond}
use mathlib.Core.List.{List, [], ◌∷◌}
use native.Mathlib.Omega.{arith}
use lib.ListN.{length, get_or}
use lib.Dec.{ltb}
use lib.Seq.{slice}
use borrow.Author.Tests.{ltb-true, ltb-false, le-ltb}
use Rattle.reader.specs.Outcome.{Outcome, answered, refused, ◌>>=◌, ◌>>◌, refuse_if}
use Rattle.reader.specs.Errors.{longest}
use Rattle.reader.specs.Parts.{part_end, skipped}
use Rattle.reader.proofs.OutcomeLaws.{same_answer, bind_answered, then_answered, passed, bind_same}
use Rattle.reader.proofs.PartLaws.{skip_inside, skip_past, skip_answered, slice-within}
use Rattle.abbreviations.specs.Abbreviations.{parsed}
use Rattle.abbreviations.proofs.AbbreviationLaws.{parsed_part}
use Rattle.headers.specs.declared.header.NameIndexHeader.{NameIndexHeader}
use Rattle.index.specs.declared.layout.NameIndex.{NameIndex}
use Rattle.index.specs.declared.layout.Parts.{Parts}
use Rattle.index.specs.Layout.{sizes, places_from, place, parts, Fits, fitted}
use Rattle.index.specs.Inner.{PartsFit}
use Rattle.index.specs.Sanity.{OpenedFits, OpensInPart}
use Rattle.index.proofs.LayoutLaws.{parts-follow, places_ascend, fitted-fits, fitted_own, own_index}
use Rattle.index.specs.Open.{index_of, passed_over, cut_parts, opened, name_index}
use Rattle.index.specs.Inner.{refuse_past, parts_inside}

-- parts that are passed over one after another are refused as their places are
passes : {B : Type 0} (b : Outcome B) (ns : List ℕ) (s : List ℕ) (at end : ℕ) → end ≤ length s → (passed_over s ns at end >> b) ≡ (refuse_past end (places_from at ns) >> b)
unfolding passed_over refuse_past places_from
passes b [] s at end h = refl
passes b (n ∷ []) s at end h = one (ltb end (at + n)) refl
  where
    one : (t : Bool) → ltb end (at + n) ≡ t → ((skipped n s at end >>= answered) >> b) ≡ (cond t (refused 1 at) (answered (tt {0})) >> b)
    one true e = rw (skip_past n s at end (omega (arith, ltb-true end (at + n) e)))
    one false e = rw (skip_inside n s at end (omega (arith, ltb-false end (at + n) e)))
passes b (n ∷ m ∷ ns) s at end h = more (ltb end (at + n)) refl (passes b (m ∷ ns) s (at + n) end h)
  where
    more : (t : Bool) → ltb end (at + n) ≡ t → (passed_over s (m ∷ ns) (at + n) end >> b) ≡ (refuse_past end (places_from (at + n) (m ∷ ns)) >> b)
        → ((skipped n s at end >>= λ next. passed_over s (m ∷ ns) next end) >> b) ≡ (cond t (refused 1 at) (refuse_past end (places_from (at + n) (m ∷ ns))) >> b)
    more true e rest = rw (skip_past n s at end (omega (arith, ltb-true end (at + n) e)))
    more false e rest = rw (skip_inside n s at end (omega (arith, ltb-false end (at + n) e))) rest

pub cut_inside : (s : List ℕ) (i : NameIndex) → i.end ≤ length s → cut_parts s i ≡ parts_inside (parts i)
unfolding cut_parts parts_inside parts place sizes places_from
cut_inside s i h = passes (answered (parts i)) (sizes i) s i.begin i.end h

-- parts that were passed over end at their last place, inside
over_answered : (ns : List ℕ) (s : List ℕ) (at end q : ℕ) → at ≤ part_end s end → passed_over s ns at end ≡ answered q
    → (q ≤ part_end s end) × (q ≡ get_or (places_from at ns) (length ns) 0)
unfolding passed_over places_from
over_answered [] s at end q h e = (rw (sym (same_answer e)) h, sym (same_answer e))
over_answered (n ∷ ns) s at end q h e =
    let (next, skip, rest) = bind_answered (skipped n s at end) _ q e in
    let (inside, place) = skip_answered n s at end next skip in
    over_answered ns s (at + n) end q inside (rw (sym place) rest)

-- parts that were cut are the index's, and its pool begins inside
pub parts_cut : (s : List ℕ) (i : NameIndex) (p : Parts) → i.begin ≤ part_end s i.end → cut_parts s i ≡ answered p
    → ((parts i).entry_pool ≤ part_end s i.end) × (p ≡ parts i)
unfolding cut_parts parts place sizes
parts_cut s i p h e =
    let (q, over, same) = then_answered (passed_over s (sizes i) i.begin i.end) _ p e in
    let (inside, last) = over_answered (sizes i) s i.begin i.end q h over in
    (rw (sym last) inside, sym (same_answer same))

-- and its abbreviation table lies inside it
same-table : (s t : List ℕ) (i : NameIndex) → i.end ≤ length s → i.begin ≤ i.end → slice i.begin i.end s ≡ slice i.begin i.end t
    → (p : Parts) → cut_parts s i ≡ answered p → parsed s p.abbreviation_table p.entry_pool ≡ parsed t p.abbreviation_table p.entry_pool
unfolding parts
same-table s t i ends begins e p cuts =
    let (pool, same) = parts_cut s i p (omega arith) cuts in
    let (first, follow) = parts-follow i in
    let after : place i 0 ≤ place i 7 = places_ascend i 0 7 (omega arith) (omega arith) in
    rw same (parsed_part s t _ _ (slice-within s t i.begin (place i 7) (place i 8) i.end (omega (arith, first)) (omega (arith, pool)) e))

-- an opened index fits the section, and what is answered are its parts
opened_inside : (s : List ℕ) (i : NameIndex) (p : Parts) → opened s i ≡ answered p → (length s ≤ longest) × Fits s i × (p ≡ parts i)
unfolding opened
opened_inside s i p e =
    let (u, short, e₁) = then_answered (refuse_if (ltb longest (length s)) 13 0) _ p e in
    let (v, ends, e₂) = then_answered (refuse_if (ltb (length s) i.end) 14 0) _ p e₁ in
    let (w, begins, e₃) = then_answered (refuse_if (ltb i.end i.begin) 14 0) _ p e₂ in
    let (q, cuts, e₄) = bind_answered (cut_parts s i) _ p e₃ in
    let (x, whole, e₅) = then_answered (parsed s q.abbreviation_table q.entry_pool) _ p e₄ in
    let inside : i.end ≤ length s = ltb-false _ _ (passed _ 14 0 v ends) in
    let ordered : i.begin ≤ i.end = ltb-false _ _ (passed _ 14 0 w begins) in
    let (pool, same) = parts_cut s i q (omega arith) cuts in
    (ltb-false _ _ (passed _ 13 0 u short), (omega (arith, pool), inside), sym (same_answer e₅) ∙ same)

-- so it is answered what `fitted` answers
pub opened_fitted : (s : List ℕ) (i : NameIndex) (p : Parts) → answered p ≡ opened s i → answered p ≡ fitted s i
opened_fitted s i p e =
    let (short, fits, same) = opened_inside s i p (sym e) in
    rw same (sym (fitted-fits s i short fits))

pub opened_own : (s : List ℕ) (i : NameIndex) (p : Parts) → answered p ≡ opened s i → PartsFit s p
opened_own s i p e = let (own, fits) = fitted_own s i p (opened_fitted s i p e) in fits

-- where `NameIndex::new` answers an index, opening answered its parts, and it fits
pub name_opened : (s : List ℕ) (h : NameIndexHeader) (i : NameIndex) → name_index s h ≡ answered i → (opened s (index_of h) ≡ answered (parts i)) × (fitted s i ≡ answered (parts i))
unfolding name_index
name_opened s h i e =
    let (p, opens, same) = bind_answered (opened s (index_of h)) _ i e in
    let (short, fits, places) = opened_inside s (index_of h) p opens in
    let is : i ≡ index_of h = sym (same_answer same) ∙ ap (λ p. p.index) places ∙ own_index (index_of h) in
    (opens ∙ ap (λ p. answered p) (places ∙ ap parts (sym is)), rw is (fitted-fits s (index_of h) short fits))

pub opened_fits : OpenedFits
unfolding name_index parts
opened_fits s h i e =
    let (p, opens, same) = bind_answered (opened s (index_of h)) _ i e in
    let (short, fits, places) = opened_inside s (index_of h) p opens in
    let is : i ≡ index_of h = sym (same_answer same) ∙ ap (λ p. p.index) places in
    (short, rw is fits, is)

-- what opening an index answers depends on the bytes of its own part alone
opened_part : (s t : List ℕ) (i : NameIndex) → length s ≤ longest → length t ≤ longest → i.end ≤ length s → i.end ≤ length t
    → slice i.begin i.end s ≡ slice i.begin i.end t → opened s i ≡ opened t i
unfolding opened
opened_part s t i short-s short-t ends-s ends-t e = rw (
  le-ltb longest (length s) short-s,
  le-ltb longest (length t) short-t,
  le-ltb (length s) i.end ends-s,
  le-ltb (length t) i.end ends-t,
  cut_inside s i ends-s,
  cut_inside t i ends-t,
) (ordered (ltb i.end i.begin) refl)
  where
    rest : List ℕ → Outcome Parts
    rest l = parts_inside (parts i) >>= λ p. parsed l p.abbreviation_table p.entry_pool >> answered p

    ordered : (b : Bool) → ltb i.end i.begin ≡ b → (refuse_if b 14 0 >> rest s) ≡ (refuse_if b 14 0 >> rest t)
    ordered true f = refl
    ordered false f = bind_same (parts_inside (parts i)) _ _ λ p cuts.
        let begins : i.begin ≤ i.end = ltb-false _ _ f in
        rw (same-table s t i ends-s begins e p (cut_inside s i ends-s ∙ cuts))

pub opens_in_part : OpensInPart
unfolding name_index index_of
opens_in_part s t h short-s short-t ends-s ends-t e = rw (opened_part s t (index_of h) short-s short-t ends-s ends-t e)
