-- Laws of the layout: how large the parts can be, and that they follow one another.
use Prim.Native.Nat.{ℕ, zero, suc, ◌+◌, ◌-◌, ◌*◌, ◌≤◌, ◌<◌}
use mathlib.Core.Path.{◌≡◌, refl, sym, ap, ◌∙◌}
use mathlib.Core.Bool.{Bool, true, false, cond}
use mathlib.Core.List.{List, [], ◌∷◌}
use native.Mathlib.Omega.{arith}
use lib.ListN.{length, get_or}
use lib.Dec.{eqb, ltb}
use borrow.Author.Tests.{ltb-false, le-ltb}
use Rattle.reader.specs.Outcome.{answered, refuse_if}
use Rattle.reader.specs.Errors.{longest}
use Rattle.reader.proofs.OutcomeLaws.{then_answered, passed, same_answer}
use Rattle.reader.specs.declared.common.Format.{Format}
use Rattle.reader.specs.declared.common.Format.TheVariants.{Dwarf32, Dwarf64}
use Rattle.index.specs.declared.layout.NameIndex.{NameIndex}
use Rattle.index.specs.declared.layout.Parts.{Parts}
use Rattle.index.specs.Sanity.{PartsFollow, PartsInside}
use Rattle.index.specs.Words.{word_bytes}
use Rattle.index.specs.Layout.{hash_bytes, sizes, places_from, place, parts, Fits, fitted}
use Rattle.index.specs.Inner.{PartsFit}

-- a word has at least four bytes, and at most eight
pub words_least : (format : Format) (n : ℕ) → 4 * n ≤ word_bytes format n
unfolding word_bytes
words_least Dwarf32 n = omega arith
words_least Dwarf64 n = omega arith

pub words_most : (format : Format) (n : ℕ) → word_bytes format n ≤ 8 * n
unfolding word_bytes
words_most Dwarf32 n = omega arith
words_most Dwarf64 n = omega arith

-- a hash has at most four bytes
pub hashes_most : (buckets names : ℕ) → hash_bytes buckets names ≤ 4 * names
unfolding hash_bytes
hashes_most buckets names = chosen (eqb buckets 0)
  where
    chosen : (t : Bool) → cond t 0 (4 * names) ≤ 4 * names
    chosen true = omega arith
    chosen false = omega arith

-- the parts follow one another: the pool begins past all of them
pub pool_past : (i : NameIndex) → i.begin ≤ (parts i).entry_pool
unfolding parts place places_from sizes
pool_past i = omega arith

-- what an answered `fitted` says: the section is not too long, the index fits, and these are its parts
pub fitted-answered : (s : List ℕ) (i : NameIndex) (p : Parts) → fitted s i ≡ answered p → (length s ≤ longest) × Fits s i × (p ≡ parts i)
unfolding fitted
fitted-answered s i p e =
    let (u, short, e₁) = then_answered (refuse_if (ltb longest (length s)) 13 0) _ p e in
    let (v, ends, e₂) = then_answered (refuse_if (ltb (length s) i.end) 14 0) _ p e₁ in
    let (w, pool, e₃) = then_answered (refuse_if (ltb i.end (parts i).entry_pool) 14 0) _ p e₂ in
    (ltb-false _ _ (passed _ 13 0 u short), (ltb-false _ _ (passed _ 14 0 w pool), ltb-false _ _ (passed _ 14 0 v ends)), sym (same_answer e₃))

-- an index that fits has an answer
pub fitted-fits : (s : List ℕ) (i : NameIndex) → length s ≤ longest → Fits s i → fitted s i ≡ answered (parts i)
unfolding fitted
fitted-fits s i short (pool, ends) = rw (le-ltb longest (length s) short, le-ltb (length s) i.end ends, le-ltb i.end (parts i).entry_pool pool)

-- the type units of an index that fits have fewer bytes than the section
pub type_units_inside : (s : List ℕ) (i : NameIndex) → Fits s i → word_bytes i.format i.local_type_unit_count + 8 * i.foreign_type_unit_count ≤ length s
unfolding parts place places_from sizes
type_units_inside s i (pool, ends) = omega arith

-- in a list of places each is the one before it and its size
places_follow : (ns : List ℕ) (at k : ℕ) → k < length ns → get_or (places_from at ns) (suc k) 0 ≡ get_or (places_from at ns) k 0 + get_or ns k 0
unfolding places_from
places_follow [] at k h = absurd (omega arith)
places_follow (n ∷ []) at zero h = refl
places_follow (n ∷ m ∷ ns) at zero h = refl
places_follow (n ∷ ns) at (suc k) h = places_follow ns (at + n) k (omega arith)

pub parts-follow : PartsFollow
unfolding place sizes places_from
parts-follow i = (refl, λ k h. places_follow (sizes i) i.begin k (omega arith))

-- so places ascend
places_on : (i : NameIndex) (j n : ℕ) → j + n ≤ 8 → place i j ≤ place i (j + n)
places_on i j zero h =
    let same : j + 0 ≡ j = omega arith in
    rw same (omega arith)
places_on i j (suc n) h =
    let (first, follow) = parts-follow i in
    let next : j + suc n ≡ suc (j + n) = omega arith in
    let before = places_on i j n (omega arith) in
    rw next (omega (arith, before, follow (j + n) (omega arith)))

pub places_ascend : (i : NameIndex) (j k : ℕ) → j ≤ k → k ≤ 8 → place i j ≤ place i k
places_ascend i j k h e =
    let there : j + (k - j) ≡ k = omega arith in
    rw (sym there) (places_on i j (k - j) (omega arith))

pub parts-inside : PartsInside
unfolding parts
parts-inside s i (pool, ends) j k h e =
    let (first, follow) = parts-follow i in
    let before : place i 0 ≤ place i j = places_ascend i 0 j (omega arith) (omega arith) in
    let after : place i k ≤ place i 8 = places_ascend i k 8 e (omega arith) in
    (omega arith, places_ascend i j k h e, omega arith, ends)

-- parts are those of the index that they hold
pub own_index : (i : NameIndex) → (parts i).index ≡ i
unfolding parts
own_index i = refl

pub parts_own : (s : List ℕ) (p : Parts) → PartsFit s p → p ≡ parts p.index
parts_own s p given =
    let (short, fits, same) = fitted-answered s p.index p (sym given) in
    same

-- what `fitted` answers fits
pub fitted_own : (s : List ℕ) (i : NameIndex) (p : Parts) → answered p ≡ fitted s i → (p.index ≡ i) × PartsFit s p
fitted_own s i p given =
    let (short, fits, same) = fitted-answered s i p (sym given) in
    let own : p.index ≡ i = ap (λ q. q.index) same ∙ own_index i in
    (own, given ∙ ap (λ j. fitted s j) (sym own))
