-- Laws of squares, and how many records a section can have.
use Prim.Native.Nat.{ℕ, zero, suc, ◌+◌, ◌-◌, ◌*◌, ◌^◌, ◌≤◌, ◌<◌}
use native.Mathlib.Nat.{mul-add, add-mul, mul_comm, mul_assoc, mul-le-mul}
use mathlib.Core.Path.{◌≡◌, refl, sym, ap}
use native.Mathlib.Omega.{arith}
use mathlib.Core.List.{List}
use Rattle.std.specs.Prelude.{Some, None}
use lib.ListN.{length}
use Rattle.reader.specs.Outcome.{Outcome, answered, refused, ◌>>=◌, refuse_if}
use Rattle.reader.specs.Errors.{longest}
use Rattle.reader.proofs.ErrorLaws.{longest_most}
use Rattle.reader.specs.Listing.{Listing, listed, or_broken, followed_by, items}
use Rattle.reader.specs.declared.endianity.RunTimeEndian.{RunTimeEndian}
use Rattle.reader.proofs.ListingLaws.{followed-items}
use Rattle.headers.specs.declared.header.NameIndexHeader.{NameIndexHeader}
use Rattle.headers.specs.Header.{header}
use Rattle.headers.specs.Headers.{header_at, headers_from}
use Rattle.headers.proofs.HeaderLaws.{header-fits, header-begins, headers_step}
use Rattle.index.specs.declared.layout.NameIndex.{NameIndex}
use Rattle.index.specs.Words.{word_bytes}
use Rattle.index.specs.Layout.{parts, place, sizes}
use Rattle.index.specs.declared.layout.Parts.{Parts}
use Rattle.index.specs.Open.{index_of, opened}
use Rattle.index.proofs.LayoutLaws.{words_least, parts-follow, places_ascend, own_index, fitted-answered}
use Rattle.index.proofs.OpenLaws.{opened_fitted}
use Rattle.records.specs.declared.record.Record.{Record}
use Rattle.index_query.specs.Records.{index_records}
use Rattle.index_query.proofs.RecordLaws.{index-items}
use Rattle.section_records.specs.Records.{header_records, headers_left, section_records}
use Rattle.section_records.specs.Sanity.{TotalsBounded}
use mathlib.Core.Bool.{Bool, true, false, cond}
use lib.Dec.{ltb, leb}
use borrow.Author.Tests.{leb-true, leb-false}

-- four times a product is at most the square of the sum
ordered_products : (a d : ℕ) → 4 * (a * (a + d)) ≤ (a + (a + d)) * (a + (a + d))
ordered_products a d =
    omega (
      arith,
      mul-add a a d,
      add-mul a (a + d) (a + (a + d)),
      mul-add a a (a + d),
      mul-add (a + d) a (a + d),
      add-mul a d a,
      add-mul a d (a + d),
      mul-add d a d,
      mul_comm d a,
    )

-- the squares of two numbers are together at most the square of their sum
pub squares_sum : (a b : ℕ) → a * a + b * b ≤ (a + b) * (a + b)
squares_sum a b = omega (arith, add-mul a b (a + b), mul-add a a b, mul-add b a b)

products_square : (a b : ℕ) → 4 * (a * b) ≤ (a + b) * (a + b)
products_square a b = by_order (leb a b) refl
  where
    by_order : (t : Bool) → leb a b ≡ t → 4 * (a * b) ≤ (a + b) * (a + b)
    by_order true e =
        let below = leb-true a b e in
        let same : a + (b - a) ≡ b = omega arith in
        rw same at (ordered_products a (b - a))
    by_order false e =
        let below = leb-false a b e in
        let same : b + (a - b) ≡ a = omega arith in
        let other = rw same at (ordered_products b (a - b)) in
        let turned : (b + a) * (b + a) ≡ (a + b) * (a + b) = ap (λ n. n * n) (omega arith) in
        omega (arith, other, turned, mul_comm a b)

-- the strings, the entry offsets and the pool of an index lie beside one another: with N names and a pool of P bytes, 8 N + P is at most
-- the length of its parts
names_and_pool : (i : NameIndex) → (parts i).entry_pool ≤ i.end → 8 * i.name_count + ((parts i).end - (parts i).entry_pool) ≤ i.end - i.begin
unfolding parts sizes
names_and_pool i inside =
    let (first, follow) = parts-follow i in
    let strings : place i 6 ≡ place i 5 + word_bytes i.format i.name_count = follow 5 (omega arith) in
    let offsets : place i 7 ≡ place i 6 + word_bytes i.format i.name_count = follow 6 (omega arith) in
    let begins = places_ascend i 0 5 (omega arith) (omega arith) in
    let ends = places_ascend i 7 8 (omega arith) (omega arith) in
    let words = words_least i.format i.name_count in
    omega (arith, first, strings, offsets, begins, ends, words)

-- so its records are bounded by the square of that length
index_square : (order : RunTimeEndian) (s strs : List ℕ) (hash : ℕ) (text : List ℕ) (offset : ℕ) (i : NameIndex) → (parts i).entry_pool ≤ i.end
    → 32 * items (index_records order s strs hash text offset (parts i)) ≤ (i.end - i.begin) * (i.end - i.begin)
index_square order s strs hash text offset i inside =
    let most = names_and_pool i inside in
    let square = mul-le-mul most most in
    let few = index-items order s strs hash text offset (parts i) in
    let own : (parts i).index.name_count * ((parts i).end - (parts i).entry_pool) ≡ i.name_count * ((parts i).end - (parts i).entry_pool) =
    ap (λ j. j.name_count * ((parts i).end - (parts i).entry_pool)) (own_index i) in
    omega (
      arith,
      few,
      own,
      products_square (8 * i.name_count) ((parts i).end - (parts i).entry_pool),
      mul_assoc 8 i.name_count ((parts i).end - (parts i).entry_pool),
      square,
    )

module _ (order : RunTimeEndian) (s strs : List ℕ) (hash : ℕ) (text : List ℕ) where
  -- the records of a header, and of those after it, where these are bounded
  opened_square : (at : ℕ) (h : NameIndexHeader) → header order s at ≡ answered h → (rest : Listing Record) → 32 * items rest ≤ (length s - h.content.end) * (length s - h.content.end)
      → 32 * items (followed_by (or_broken (opened s (index_of h)) (index_records order s strs hash text h.offset.0)) rest) ≤ (length s - at) * (length s - at)
  unfolding items followed_by index_of
  opened_square at h read rest more = by_index (opened s (index_of h)) refl
    where
      by_index : (o : Outcome Parts) → opened s (index_of h) ≡ o → 32 * items (followed_by (or_broken o (index_records order s strs hash text h.offset.0)) rest) ≤ (length s - at) * (length s - at)
      by_index (answered p) opens =
          let given = opened_fitted s (index_of h) p (sym opens) in
          let (short, (pool, inside), same) = fitted-answered s (index_of h) p (sym given) in
          let (ahead, begins, ends) = header-fits order s at h read in
          let past = header-begins order s at h read in
          let within : (index_of h).end - (index_of h).begin ≤ h.content.end - at = omega arith in
          let sum : (h.content.end - at) + (length s - h.content.end) ≡ length s - at = omega arith in
          rw same
          (omega (
            arith,
            followed-items (index_records order s strs hash text h.offset.0 (parts (index_of h))) rest,
            index_square order s strs hash text h.offset.0 (index_of h) pool,
            mul-le-mul within within,
            squares_sum (h.content.end - at) (length s - h.content.end),
            ap (λ n. n * n) sum,
            more,
          ))
      by_index (refused n v) opens = omega arith

  -- the headers from a place on, by what is left of the section
  headers_decided : (at : ℕ) → ((h : NameIndexHeader) → header order s at ≡ answered h → 32 * items (headers_left order s strs hash text h.content.end) ≤ (length s - h.content.end) * (length s - h.content.end))
      → 32 * items (headers_left order s strs hash text at) ≤ (length s - at) * (length s - at)
  unfolding headers_left header_records items header_at
  headers_decided at more = rw (headers_step order s at) (by_place (leb (length s) at) (header order s at) refl)
    where
      by_place : (t : Bool) (o : Outcome NameIndexHeader) → header order s at ≡ o
          → 32 * items (header_records order s strs hash text (listed (cond t (answered None) (o >>= λ h. answered (Some h))) λ h. headers_from order s h.content.end)) ≤ (length s - at) * (length s - at)
      by_place true o read = omega arith
      by_place false (answered h) read = opened_square at h read (headers_left order s strs hash text h.content.end) (more h read)
      by_place false (refused n v) read = omega arith

  headers_square : (turns at : ℕ) → length s - at ≤ turns → 32 * items (headers_left order s strs hash text at) ≤ (length s - at) * (length s - at)
  headers_square zero at enough = headers_decided at λ h read.
      let (ahead, begins, ends) = header-fits order s at h read in
      absurd (omega arith)
  headers_square (suc turns) at enough = headers_decided at λ h read.
      let (ahead, begins, ends) = header-fits order s at h read in
      headers_square turns h.content.end (omega arith)

pub totals_bounded : TotalsBounded
unfolding section_records items
totals_bounded order s strs hash text = by_limits (ltb longest (length s)) (ltb longest (length strs))
  where
    by_limits : (t u : Bool) → 32 * items (or_broken (refuse_if t 13 0) λ x. or_broken (refuse_if u 13 0) λ y. headers_left order s strs hash text 0) ≤ length s * length s
    by_limits true u = omega arith
    by_limits false true = omega arith
    by_limits false false =
        let whole : length s - 0 ≡ length s = omega arith in
        omega (arith, headers_square order s strs hash text (length s) 0 (omega arith), ap (λ n. n * n) whole)

-- so the number of records has 64 bits
pub total_small : (order : RunTimeEndian) (s strs : List ℕ) (hash : ℕ) (text : List ℕ) → length s ≤ longest → items (section_records order s strs hash text) < 2 ^ 64
total_small order s strs hash text short =
    let most : length s ≤ 17179869184 = omega (arith, longest_most) in
    omega (arith, totals_bounded order s strs hash text, mul-le-mul most most)
