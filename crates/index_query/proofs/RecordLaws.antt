-- Laws of the records of an index: one entry at a time, one name at a time, and how many they can be.
use Prim.Native.Nat.{ℕ, suc, ◌+◌, ◌-◌, ◌*◌, ◌^◌, ◌≤◌, ◌<◌}
use mathlib.Core.Path.{◌≡◌, refl, sym, ap, ◌∙◌}
use mathlib.Core.Bool.{Bool, true, false, cond}
use mathlib.Core.List.{List, [], ◌∷◌}
use Rattle.std.specs.Prelude.{Option, Some, None}
use native.Mathlib.Omega.{arith}
use native.Mathlib.Nat.{suc-mul, mul-le-mul_right}
use lib.ListN.{length}
use lib.Dec.{eqb}
use Rattle.reader.specs.Outcome.{Outcome, answered, refused, ◌>>=◌, ◌>>◌}
use Rattle.reader.specs.Errors.{longest}
use Rattle.reader.specs.Listing.{Listing, ended, broken, item, listed, or_broken, followed_by, shown_by, items}
use Rattle.reader.specs.declared.endianity.RunTimeEndian.{RunTimeEndian}
use Rattle.reader.specs.declared.common.NameTableIndex.{NameTableIndex}
use Rattle.reader.proofs.OutcomeLaws.{then_answered, refused-answered, same_answer, none-ne-some}
use Rattle.reader.specs.Lists.{numbers_from}
use Rattle.reader.proofs.ListLaws.{numbers_length}
use Rattle.reader.proofs.ListingLaws.{followed-items, shown-items}
use Rattle.index.specs.declared.layout.Parts.{Parts}
use Rattle.index.specs.Inner.{PartsFit}
use Rattle.index.proofs.LayoutLaws.{fitted-answered}
use Rattle.entries.specs.declared.entry.WholeEntry.{WholeEntry}
use Rattle.entries.specs.Entries.{Entry}
use Rattle.entries.specs.Inner.{series_read, whole_of}
use Rattle.entries.specs.Series.{first_entry, series_entry, entries_from, entries_of}
use Rattle.entries.proofs.EntryLaws.{entries_forward}
use Rattle.entries.proofs.SeriesLaws.{series_step, series-ended, series-entry, series-offset, entries-short}
use Rattle.hashes.specs.Table.{bucket_of, names_from, names_of_hash}
use Rattle.hashes.specs.Lookups.{first_in_bucket}
use Rattle.hashes.proofs.TableLaws.{hash-names-length}
use Rattle.records.specs.declared.record.Record.{Record}
use Rattle.records.specs.Records.{entry_record}
use Rattle.index_query.specs.declared.series.IndexIter.{IndexIter}
use Rattle.index_query.specs.Candidates.{candidates}
use Rattle.index_query.specs.Matching.{name_matches, matching}
use Rattle.index_query.specs.Series.{record_of_entry, series_records}
use Rattle.index_query.specs.Records.{all_series, index_records}
use Rattle.index_query.specs.Inner.{candidates_from, matches_from, entry_records, index_left}

-- a section within the limit of refusal 13 has places of 32 bits
pub places_small : longest < 2 ^ 32
unfolding longest
places_small = omega arith

-- and one whose index fits is within it
pub short_fits : (s : List ℕ) (p : Parts) → PartsFit s p → length s ≤ longest
short_fits s p given =
    let (short, fits, same) = fitted-answered s p.index p (sym given) in
    short

-- an entry that was read stands inside the section
pub read_inside : (order : RunTimeEndian) (s : List ℕ) (p : Parts) (at : ℕ) (w : WholeEntry) → answered (Some w) ≡ series_read order s p at → at < length s
unfolding series_read
read_inside order s p at w read = by_entry (series_entry order s p at) refl (sym read)
  where
    by_entry : (o : Outcome (Option Entry)) → series_entry order s p at ≡ o → (o >>= λ e. answered (whole_of e)) ≡ answered (Some w) → at < length s
    by_entry (answered (Some e)) there same =
        let (ahead, inside) = entries_forward order s p at e (series-entry order s p at e there) in
        omega (arith, ahead, inside)
    by_entry (answered None) there same = absurd (none-ne-some _ (same_answer same))
    by_entry (refused n v) there same = absurd (refused-answered same)

module _ (order : RunTimeEndian) (s : List ℕ) (offset : ℕ) (p : Parts) where
  -- what follows from an entry that was read at a place: its record, and those of the entries past it
  unfoldable pub entry_after : ℕ → ℕ → Outcome (Option WholeEntry) → Listing Record
  entry_after name at (answered None) = ended
  entry_after name at (answered (Some w)) =
      or_broken (entry_record order s p (record { index = offset; name = name; entry = at - p.entry_pool }) w.tag w.facts) λ r. item r (entry_records order s offset p name w.next)
  entry_after name at (refused n v) = broken n v

  -- the records of the entries from a place on, in the order of the code
  pub entry_records_step : (name at : ℕ) → entry_records order s offset p name at ≡ entry_after name at (series_read order s p at)
  unfolding entry_records shown_by record_of_entry series_read entry_after
  entry_records_step name at = rw (series_step order s p at) (by_entry (series_entry order s p at) refl)
    where
      by_entry : (o : Outcome (Option Entry)) → series_entry order s p at ≡ o
          → shown_by (record_of_entry order s offset p name) (listed o λ e. entries_from order s p e.next) ≡ entry_after name at (o >>= λ e. answered (whole_of e))
      by_entry (answered None) read = refl
      by_entry (answered (Some e)) read = rw (series-offset order s p at e read)
      by_entry (refused n v) read = refl

  -- at the pool's end there are none
  pub records-ended : (name : ℕ) → entry_records order s offset p name p.end ≡ ended
  unfolding entry_records shown_by
  records-ended name = rw (series-ended order s p)

  -- the records of a name, from its first entry on
  series-from : (name : NameTableIndex) (at : ℕ) → answered at ≡ first_entry order s p name → series_records order s offset p name.0 ≡ entry_records order s offset p name.0 at
  unfolding series_records entry_records entries_of
  series-from name at e = rw (sym e)

  series-broken : (name : NameTableIndex) (n v : ℕ) → refused n v ≡ first_entry order s p name → series_records order s offset p name.0 ≡ broken n v
  unfolding series_records entries_of shown_by
  series-broken name n v e = rw (sym e)

module _ (order : RunTimeEndian) (s strs : List ℕ) (hash : ℕ) (text : List ℕ) (offset : ℕ) (p : Parts) where
  -- before the first record nothing is read yet
  pub start_left : (from : ℕ) (c : IndexIter) → c.at ≡ p.end → c.next ≡ from → answered (candidates_from order s hash p from) ≡ candidates order s hash p
      → index_left order s strs hash text offset p c ≡ index_records order s strs hash text offset p
  unfolding index_left index_records matches_from followed_by
  start_left from c at next given = rw (at, records-ended order s offset p c.name.0, next, sym given)

  -- Where no entry is left of a cursor's name, the next name that matches decides: none does;
  module _ (c : IndexIter) (over : ended ≡ entry_records order s offset p c.name.0 c.at) where
    left_over : index_left order s strs hash text offset p c ≡ all_series order s strs hash text offset p (matches_from order s strs hash text p c.next)
    unfolding index_left followed_by
    left_over = rw (sym over)

    pub none_left : ended ≡ matches_from order s strs hash text p c.next → index_left order s strs hash text offset p c ≡ ended
    unfolding all_series
    none_left e = left_over ∙ rw (sym e)

    -- the search is refused;
    pub match_refused : (n v : ℕ) → broken n v ≡ matches_from order s strs hash text p c.next → index_left order s strs hash text offset p c ≡ broken n v
    unfolding all_series
    match_refused n v e = left_over ∙ rw (sym e)

    module _ (name : NameTableIndex) (after : ℕ) (found : item name.0 (matches_from order s strs hash text p after) ≡ matches_from order s strs hash text p c.next) where
      next-name : index_left order s strs hash text offset p c ≡ followed_by (series_records order s offset p name.0) (all_series order s strs hash text offset p (matches_from order s strs hash text p after))
      unfolding all_series
      next-name = left_over ∙ rw (sym found)

      -- its entries begin there;
      pub next_series : (at : ℕ) → answered at ≡ first_entry order s p name
          → index_left order s strs hash text offset p c ≡ index_left order s strs hash text offset p (record { name = name; at = at; next = after })
      unfolding index_left
      next_series at e = next-name ∙ rw (series-from order s offset p name at e)

      -- or they have no beginning
      pub series_refused : (n v : ℕ) → refused n v ≡ first_entry order s p name → index_left order s strs hash text offset p c ≡ broken n v
      unfolding followed_by
      series_refused n v e = next-name ∙ rw (series-broken order s offset p name n v e)

-- after a name that matches there is one fewer
pub fewer_matches : (order : RunTimeEndian) (s strs : List ℕ) (hash : ℕ) (text : List ℕ) (p : Parts) (from after : ℕ) (name : NameTableIndex)
    → item name.0 (matches_from order s strs hash text p after) ≡ matches_from order s strs hash text p from → items (matches_from order s strs hash text p after) < items (matches_from order s strs hash text p from)
unfolding items
fewer_matches order s strs hash text p from after name e =
    let long = ap items e in
    omega arith

-- How many records there can be: each name that matches has no more entries than the pool has bytes.
module _ (order : RunTimeEndian) (s strs : List ℕ) (hash : ℕ) (text : List ℕ) (offset : ℕ) (p : Parts) where
  series-items : (name : ℕ) → items (series_records order s offset p name) ≤ p.end - p.entry_pool
  unfolding series_records
  series-items name = omega (arith, shown-items (record_of_entry order s offset p name) (entries_of order s p (record { 0 = name })), entries-short order s p (record { 0 = name }))

  all-items : (names : List ℕ) → items (all_series order s strs hash text offset p (matching (name_matches order s strs text p) names)) ≤ length names * (p.end - p.entry_pool)
  unfolding matching all_series items
  all-items [] = omega arith
  all-items (name ∷ names) = by_test (name_matches order s strs text p name) (all-items names)
    where
      one_more_lem : suc (length names) * (p.end - p.entry_pool) ≡ length names * (p.end - p.entry_pool) + (p.end - p.entry_pool)
      one_more_lem = suc-mul (length names) (p.end - p.entry_pool)

      by_test : (o : Outcome Bool) → items (all_series order s strs hash text offset p (matching (name_matches order s strs text p) names)) ≤ length names * (p.end - p.entry_pool)
          → items (all_series order s strs hash text offset p (or_broken o λ holds. cond holds (item name (matching (name_matches order s strs text p) names)) (matching (name_matches order s strs text p) names)))
          ≤ suc (length names) * (p.end - p.entry_pool)
      by_test (answered true) more =
          omega (arith, one_more_lem, more, series-items name, followed-items (series_records order s offset p name) (all_series order s strs hash text offset p (matching (name_matches order s strs text p) names)))
      by_test (answered false) more = omega (arith, one_more_lem, more)
      by_test (refused n v) more = omega arith

  -- there are no more candidates than names
  few_candidates : (names : List ℕ) → candidates order s hash p ≡ answered names → length names ≤ p.index.name_count
  unfolding candidates names_from
  few_candidates names e = by_table (eqb p.index.bucket_count 0) e
    where
      by_table : (t : Bool) → cond t (answered (numbers_from 0 (p.index.name_count - 0))) (first_in_bucket order s p (bucket_of p.index hash) >> answered (names_of_hash order s p.index hash)) ≡ answered names → length names ≤ p.index.name_count
      by_table true same =
          let is = ap (λ l. length l) (same_answer same) in
          omega (arith, numbers_length 0 (p.index.name_count - 0))
      by_table false same =
          let (first, found, is) = then_answered (first_in_bucket order s p (bucket_of p.index hash)) _ names same in
          rw (sym (same_answer is)) (hash-names-length order s p.index hash)

  pub index-items : items (index_records order s strs hash text offset p) ≤ p.index.name_count * (p.end - p.entry_pool)
  unfolding index_records items
  index-items = by_candidates (candidates order s hash p) refl
    where
      by_candidates : (o : Outcome (List ℕ)) → candidates order s hash p ≡ o
          → items (or_broken o λ names. all_series order s strs hash text offset p (matching (name_matches order s strs text p) names)) ≤ p.index.name_count * (p.end - p.entry_pool)
      by_candidates (answered names) e = omega (arith, all-items names, mul-le-mul_right (p.end - p.entry_pool) (few_candidates names e))
      by_candidates (refused n v) e = omega arith
