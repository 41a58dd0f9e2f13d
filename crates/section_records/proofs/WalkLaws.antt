-- Laws of the walk over the headers of a section.
use Prim.Native.Nat.{ℕ, ◌^◌, ◌≤◌, ◌<◌}
use mathlib.Core.Path.{◌≡◌, refl, sym, ap, subst, ◌∙◌}
use mathlib.Core.Bool.{Bool, true, false, cond}
use mathlib.Core.List.{List}
use Rattle.std.specs.Prelude.{Some, None}
use native.Mathlib.Omega.{arith}
use lib.ListN.{length}
use lib.Dec.{leb}
use borrow.Author.Tests.{le-ltb, le-leb, lt-leb}
use Rattle.reader.specs.Outcome.{Outcome, answered, refused, ◌>>=◌}
use Rattle.reader.specs.Errors.{longest}
use Rattle.reader.specs.Lists.{numbers_from}
use Rattle.reader.specs.Listing.{Listing, ended, broken, listed, or_broken, followed_by}
use Rattle.reader.specs.declared.endianity.RunTimeEndian.{RunTimeEndian}
use Rattle.headers.specs.declared.header.HeaderCut.{HeaderCut}
use Rattle.headers.specs.declared.header.NameIndexHeader.{NameIndexHeader}
use Rattle.headers.specs.Header.{header_cut, header_body, header}
use Rattle.headers.specs.Headers.{header_at, headers_from}
use Rattle.headers.proofs.HeaderLaws.{cut-forward, cut-offset, body_answered, headers_step}
use Rattle.index.specs.Words.{word_bytes}
use Rattle.index.specs.Layout.{no_index, parts, place, places_from, sizes, hash_bytes}
use Rattle.index.specs.Inner.{PartsFit}
use Rattle.index.specs.declared.layout.NameIndex.{NameIndex}
use Rattle.index.specs.declared.layout.Parts.{Parts}
use Rattle.index.specs.Open.{index_of, opened}
use Rattle.index.proofs.LayoutLaws.{fitted-fits, fitted-answered, own_index, parts_own, parts-follow, places_ascend}
use Rattle.index.proofs.OpenLaws.{opened_own}
use Rattle.hashes.specs.Table.{names_from}
use Rattle.records.specs.declared.record.Record.{Record}
use Rattle.entries.proofs.EntryLaws.{pool_end}
use Rattle.index_query.specs.declared.series.IndexIter.{IndexIter}
use Rattle.index_query.specs.Matching.{matching}
use Rattle.index_query.specs.Inner.{candidates_from, matches_from}
use Rattle.index_query.specs.Records.{all_series, index_records}
use Rattle.index_query.specs.Inner.{index_left}
use Rattle.index_query.proofs.RecordLaws.{places_small, records-ended, short_fits}
use Rattle.section_records.specs.declared.QueryIter.{QueryIter}
use Rattle.section_records.specs.Records.{header_records, headers_left, section_records}
use Rattle.section_records.specs.Inner.{query_left, first_record}

-- what a header that was read says: its offset is its place, and its index ends past it, inside the section
pub header_read : (order : RunTimeEndian) (s : List ℕ) (at : ℕ) (c : HeaderCut) (h : NameIndexHeader) → answered c ≡ header_cut order s at → answered h ≡ header_body order s c
    → (h.offset.0 ≡ at) × (at < h.content.end) × (h.content.end ≤ length s)
header_read order s at c h split body =
    let (past, begins, inside) = cut-forward order s at c (sym split) in
    let (offset, ends, first, within) = body_answered order s c h (sym body) in
    (offset ∙ cut-offset order s at c (sym split), omega arith, omega arith)

-- and where its index opens, the place has 32 bits
pub offset_small : (order : RunTimeEndian) (s : List ℕ) (at : ℕ) (c : HeaderCut) (h : NameIndexHeader) (p : Parts) → answered c ≡ header_cut order s at → answered h ≡ header_body order s c
    → answered p ≡ opened s (index_of h) → h.offset.0 < 2 ^ 32
offset_small order s at c h p split body opened =
    let (here, past, inside) = header_read order s at c h split body in
    let short = short_fits s p (opened_own s (index_of h) p opened) in
    omega (arith, places_small)

-- the index that is open before the first header has no parts, and no records
pub no_parts : parts no_index ≡ record {
  index = no_index;
  compile_unit_list = 0;
  local_type_unit_list = 0;
  foreign_type_unit_list = 0;
  bucket_data = 0;
  hash_table_data = 0;
  name_table_data = 0;
  entry_offset_data = 0;
  abbreviation_table = 0;
  entry_pool = 0;
  end = 0;
}
unfolding no_index parts place places_from sizes word_bytes hash_bytes
no_parts = refl

-- an index that fits begins in the first bytes that a section may have
pub begins_small : (s : List ℕ) (i : NameIndex) → PartsFit s (parts i) → i.begin ≤ longest
unfolding parts
begins_small s i given =
    let (short, (pool, ends), same) = fitted-answered s i (parts i) (sym given) in
    let (first, follow) = parts-follow i in
    omega (arith, first, places_ascend i 0 8 (omega arith) (omega arith))

-- the parts of an index that was opened are those that are worked out of it
pub opened_fits : (s : List ℕ) (i : NameIndex) (p : Parts) → answered p ≡ opened s i → PartsFit s (parts p.index)
opened_fits s i p is =
    let fits = opened_own s i p is in
    subst (PartsFit s) (parts_own s p fits) fits

-- before the first header an index is open that has no names, and fits
pub first_fits : (s : List ℕ) → length s ≤ longest → PartsFit s (parts first_record.index)
unfolding first_record no_index parts place places_from sizes word_bytes hash_bytes
first_fits s short = sym (fitted-fits s no_index short (omega arith, omega arith))

no_index_left : (order : RunTimeEndian) (s strs : List ℕ) (hash : ℕ) (text : List ℕ) (c : IndexIter) → c.at ≡ 0 → c.next ≡ 0 → index_left order s strs hash text 0 (parts no_index) c ≡ ended
unfolding index_left no_index matches_from candidates_from names_from numbers_from all_series matching followed_by
no_index_left order s strs hash text c at next = rw (at ∙ sym (pool_end no_index), records-ended order s 0 (parts no_index) c.name.0, next, own_index no_index)

module _ (order : RunTimeEndian) (s strs : List ℕ) (hash : ℕ) (text : List ℕ) where
  -- the records of a header that was read, and of those after it
  abbrev pub opened_then : NameIndexHeader → Listing Record
  opened_then h = followed_by (or_broken (opened s (index_of h)) (index_records order s strs hash text h.offset.0)) (headers_left order s strs hash text h.content.end)

  -- the records of the headers from a place on, in the order of the code
  pub headers_left_step : (at : ℕ) → headers_left order s strs hash text at ≡ cond (leb (length s) at) ended (or_broken (header_cut order s at) λ c. or_broken (header_body order s c) opened_then)
  unfolding headers_left header_records header_at header
  headers_left_step at = rw (headers_step order s at) (tested (leb (length s) at) (header_cut order s at))
    where
      by_body : (o : Outcome NameIndexHeader)
          → header_records order s strs hash text (listed (o >>= λ h. answered (Some h)) λ h. headers_from order s h.content.end) ≡ or_broken o opened_then
      by_body (answered h) = refl
      by_body (refused n v) = refl

      tested : (t : Bool) (o : Outcome HeaderCut)
          → header_records order s strs hash text (listed (cond t (answered None) ((o >>= λ c. header_body order s c) >>= λ h. answered (Some h))) λ h. headers_from order s h.content.end)
          ≡ cond t ended (or_broken o λ c. or_broken (header_body order s c) opened_then)
      tested true o = refl
      tested false (answered c) = by_body (header_body order s c)
      tested false (refused n v) = refl

  -- at the section's end there are none; else they are those of the header that is read there, and of those after it
  pub headers_ended : (at : ℕ) → length s ≤ at → headers_left order s strs hash text at ≡ ended
  headers_ended at past = rw (headers_left_step at, le-leb (length s) at past)

  pub headers_opened : (at : ℕ) → at < length s → headers_left order s strs hash text at ≡ or_broken (header_cut order s at) λ c. or_broken (header_body order s c) opened_then
  headers_opened at inside = rw (headers_left_step at, lt-leb (length s) at inside)

  -- a list that is broken off is not gone on with
  pub none_opened : (n v : ℕ) (rest : Listing Record) → followed_by (broken n v) rest ≡ broken n v
  unfolding followed_by
  none_opened n v rest = refl

  -- what a cursor has left
  pub cursor_left : (c : QueryIter) → query_left order s strs hash text c ≡ followed_by (index_left order s strs hash text c.offset (parts c.index) c.records) (headers_left order s strs hash text c.at)
  unfolding query_left
  cursor_left c = refl

  -- and where its index was opened, by the parts that were answered
  pub opened_left : (i : NameIndex) (p : Parts) (at offset : ℕ) (r : IndexIter) → answered p ≡ opened s i
      → query_left order s strs hash text (record { at = at; offset = offset; index = p.index; records = r }) ≡ followed_by (index_left order s strs hash text offset p r) (headers_left order s strs hash text at)
  unfolding query_left
  opened_left i p at offset r is =
      ap (λ q. followed_by (index_left order s strs hash text offset q r) (headers_left order s strs hash text at)) (sym (parts_own s p (opened_own s i p is)))

  -- before the first header the empty index has no records
  first-left : query_left order s strs hash text first_record ≡ headers_left order s strs hash text 0
  unfolding query_left first_record followed_by
  first-left = rw (no_index_left order s strs hash text (record { name = record { 0 = 0 }; at = 0; next = 0 }) refl refl)

  pub section_left : length s ≤ longest → length strs ≤ longest → section_records order s strs hash text ≡ query_left order s strs hash text first_record
  unfolding section_records
  section_left short short-strs = rw (le-ltb longest (length s) short, le-ltb longest (length strs) short-strs) (sym first-left)
