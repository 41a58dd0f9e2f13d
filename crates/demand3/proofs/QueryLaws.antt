-- Demand 3: a query that is not refused finds what is expected; and the whole. In a complete table the candidates are all names that store
-- the hash, and without a table all names; so those that match are the matching names, and where all can be counted nothing was left out.
use Prim.Native.Nat.{ℕ, ◌-◌, ◌≤◌}
use mathlib.Core.Path.{◌≡◌, refl, sym, ap, ◌∙◌}
use mathlib.Core.Bool.{Bool, true, false, cond}
use mathlib.Core.Logic.{inl, inr}
use mathlib.Core.List.{List, [], ◌∷◌, ◌++◌, map, map-append, flat_map}
use native.Mathlib.Omega.{arith}
use lib.ListN.{length, take, length-map}
use lib.Dec.{ltb, eqb}
use borrow.Author.Tests.{ltb-false, le-ltb, eq-eqb, ne_eqb}
use Rattle.reader.specs.Outcome.{Outcome, answered, refused, ◌>>=◌, ◌>>◌, refuse_if}
use Rattle.reader.specs.Errors.{longest}
use Rattle.reader.specs.Lists.{numbers_from, filterb}
use Rattle.reader.specs.Listing.{Listing, item, or_broken, items_of, counted}
use Rattle.reader.specs.declared.endianity.RunTimeEndian.{RunTimeEndian}
use Rattle.reader.proofs.OutcomeLaws.{refused-answered, same_answer, then_answered}
use Rattle.reader.proofs.ListingLaws.{counted-items, items-length, followed-counted}
use Rattle.index.specs.Layout.{parts, fitted}
use Rattle.index.specs.declared.layout.NameIndex.{NameIndex}
use Rattle.index.specs.Open.{name_index}
use Rattle.index.proofs.LayoutLaws.{own_index}
use Rattle.index.proofs.OpenLaws.{name_opened}
use Rattle.strings.specs.declared.Str.{Str}
use Rattle.names.specs.Names.{name_string, name_string_in}
use Rattle.entries.specs.Series.{entries_of}
use Rattle.entries.proofs.SeriesLaws.{entry-lookups, series-fits}
use Rattle.hashes.specs.Table.{stored_hash, bucket_of, names_from, storing, names_of_hash, all_storing}
use Rattle.hashes.specs.Lookups.{first_in_bucket}
use Rattle.hashes.proofs.LookupLaws.{bucket-lookups, hash-lookups}
use Rattle.tables.proofs.CompleteLaws.{complete-names, no_table_buckets, complete_exactly}
use Rattle.records.specs.declared.record.Record.{Record}
use Rattle.index_query.specs.Candidates.{candidates}
use Rattle.index_query.specs.Matching.{text_is, name_matches, matching}
use Rattle.index_query.specs.Series.{record_of_entry, series_records}
use Rattle.index_query.specs.Records.{all_series, index_records}
use Rattle.section_records.specs.Records.{header_records, headers_left, section_records}
use Rattle.query_plan.specs.Plans.{unless_refused, queried}
use Rattle.query.specs.Query.{overlaid, section_query}
use Rattle.query.proofs.Runs.{overlaid_is}
use Rattle.demand3.specs.Expected.{OpenIndex, reads_as, string_matches, hash_matches, name_is_match, matching_names, records_of_name, records_of_index, expected}
use Rattle.demand3.specs.Demand3.{Each, and_then, CompleteOrNoTable, QueryFinds, Demand3}
use Rattle.demand3.proofs.HeaderLaws.{all_of, headers_all}
use Rattle.demand3.proofs.ListLaws.{shown-all, map-take, filter-both, filter-all}
use Rattle.reader.specs.Answers.{outcome}
use Rattle.reader.specs.Steps.{answers}
use Rattle.std.specs.Prelude.{Ok}

module _ (order : RunTimeEndian) (s strs : List ℕ) (hash : ℕ) (text : List ℕ) where
  -- an index that fits, as the query has it: with its place and its parts
  module _ (o : OpenIndex) (fits : fitted s o.index ≡ answered (parts o.index)) where
    abbrev offset : ℕ
    offset = o.header.offset.0

    abbrev test : ℕ → Outcome Bool
    test = name_matches order s strs text (parts o.index)

    -- the names that the query looks at are those whose hash matches
    candidates_match : (names : List ℕ) → CompleteOrNoTable order s o → candidates order s hash (parts o.index) ≡ answered names
        → names ≡ filterb (hash_matches order s strs hash text o.index) (numbers_from 0 o.index.name_count)
    unfolding candidates hash_matches names_from all_storing storing
    candidates_match names check given = by_check check (with_index (parts o.index).index (own_index o.index) given)
      where
        -- the candidates of an index, whose hash table lies in the parts of this one
        looked-at : NameIndex → Outcome (List ℕ)
        looked-at i = cond (eqb i.bucket_count 0) (answered (numbers_from 0 (i.name_count - 0))) (first_in_bucket order s (parts o.index) (bucket_of i hash) >> answered (names_of_hash order s i hash))

        with_index : (i : NameIndex) → i ≡ o.index → looked-at i ≡ answered names → looked-at o.index ≡ answered names
        with_index i same e = ap looked-at (sym same) ∙ e

        none_left_out : o.index.name_count - 0 ≡ o.index.name_count
        none_left_out = omega arith

        by_check : CompleteOrNoTable order s o
            → looked-at o.index ≡ answered names
            → names ≡ filterb (λ name. cond (eqb o.index.bucket_count 0) true (eqb (stored_hash order s (parts o.index) name) hash)) (numbers_from 0 o.index.name_count)
        by_check (inl e) rest =
            let (buckets, names-all) = complete-names order s o.index (sym e) in
            let some-bucket = ne_eqb o.index.bucket_count 0 (λ h. omega arith) in
            let (first, found, same) = then_answered (first_in_bucket order s (parts o.index) (bucket_of o.index hash)) _ names (rw some-bucket at rest) in
            sym (same_answer same) ∙ names-all hash ∙ rw (some-bucket, none_left_out)
        by_check (inr e) rest =
            let no-bucket = eq-eqb o.index.bucket_count 0 (no_table_buckets order s o.index (sym e)) in
            sym (same_answer (rw no-bucket at rest)) ∙ rw (no-bucket, none_left_out, filter-all)

    -- a test that is answered says whether the string matches
    test-answered : length s ≤ longest → length strs ≤ longest → (name : ℕ) (b : Bool) → test name ≡ answered b → string_matches order s strs hash text o.index name ≡ b
    unfolding name_matches string_matches name_string
    test-answered short short-strs name b e =
        rw (le-ltb longest (length s) short, le-ltb longest (length strs) short-strs, fits) (by_string (name_string_in order s strs (parts o.index) (record { 0 = name })) e)
      where
        by_string : (t : Outcome Str) → (t >>= λ t. answered (text_is strs text t)) ≡ answered b → reads_as strs text t ≡ b
        by_string (answered t) e = same_answer e
        by_string (refused n v) e = absurd (refused-answered e)

    -- the records of a name that can all be counted are those of its series
    name-all : (name n : ℕ) → counted (series_records order s offset (parts o.index) name) ≡ answered n → map answered (items_of (series_records order s offset (parts o.index) name)) ≡ records_of_name order s strs hash text o name
    unfolding series_records records_of_name
    name-all name n e =
        shown-all (record_of_entry order s offset (parts o.index) name) (entries_of order s (parts o.index) (record { 0 = name })) n e
        ∙ ap (λ l. map (record_of_entry order s offset (parts o.index) name) (items_of l)) (sym (series-fits order s o.index (record { 0 = name }) (parts o.index) (sym fits)))

    -- the records of names that can all be counted are those of the names whose string matches
    series-all : length s ≤ longest → length strs ≤ longest → (names : List ℕ) (n : ℕ) → counted (all_series order s strs hash text offset (parts o.index) (matching test names)) ≡ answered n
        → map answered (items_of (all_series order s strs hash text offset (parts o.index) (matching test names))) ≡ flat_map (records_of_name order s strs hash text o) (filterb (string_matches order s strs hash text o.index) names)
    unfolding counted items_of matching all_series filterb flat_map
    series-all short short-strs [] n e = refl
    series-all short short-strs (name ∷ names) n e = by_test (test name) refl (λ k f. series-all short short-strs names k f) e
      where
        wanted : List (Outcome Record)
        wanted = flat_map (records_of_name order s strs hash text o) (filterb (string_matches order s strs hash text o.index) names)

        rest : Listing Record
        rest = all_series order s strs hash text offset (parts o.index) (matching test names)

        by_test : (b : Outcome Bool) → test name ≡ b
            → ((k : ℕ) → counted (all_series order s strs hash text offset (parts o.index) (matching test names)) ≡ answered k → map answered (items_of (all_series order s strs hash text offset (parts o.index) (matching test names))) ≡ wanted)
            → counted (all_series order s strs hash text offset (parts o.index) (or_broken b λ holds. cond holds (item name (matching test names)) (matching test names))) ≡ answered n
            → map answered (items_of (all_series order s strs hash text offset (parts o.index) (or_broken b λ holds. cond holds (item name (matching test names)) (matching test names))))
            ≡ flat_map (records_of_name order s strs hash text o) (cond (string_matches order s strs hash text o.index name) (name ∷ filterb (string_matches order s strs hash text o.index) names) (filterb (string_matches order s strs hash text o.index) names))
        by_test (answered true) is more e =
            let (j, k, first, second, sum, both) = followed-counted (series_records order s offset (parts o.index) name) rest n e in
            rw (
              test-answered short short-strs name true is,
              both,
              map-append answered (items_of (series_records order s offset (parts o.index) name)) (items_of rest),
              more k second,
            )
            (ap (λ l. l ++ wanted) (name-all name j first))
        by_test (answered false) is more e = rw (test-answered short short-strs name false is) (more n e)
        by_test (refused m v) is more e = absurd (refused-answered e)

    -- the records of an index that can all be counted are those expected
    index-all : length s ≤ longest → length strs ≤ longest → (n : ℕ) → CompleteOrNoTable order s o → counted (index_records order s strs hash text offset (parts o.index)) ≡ answered n
        → map answered (items_of (index_records order s strs hash text offset (parts o.index))) ≡ records_of_index order s strs hash text o
    unfolding index_records counted records_of_index matching_names name_is_match
    index-all short short-strs n check e = by_candidates (candidates order s hash (parts o.index)) refl e
      where
        by_candidates : (c : Outcome (List ℕ)) → candidates order s hash (parts o.index) ≡ c
            → counted (or_broken c λ names. all_series order s strs hash text offset (parts o.index) (matching test names)) ≡ answered n
            → map answered (items_of (or_broken c λ names. all_series order s strs hash text offset (parts o.index) (matching test names)))
            ≡ flat_map (records_of_name order s strs hash text o) (filterb (λ name. cond (hash_matches order s strs hash text o.index name) (string_matches order s strs hash text o.index name) false) (numbers_from 0 o.index.name_count))
        by_candidates (answered names) given e =
            series-all short short-strs names n e
            ∙ rw (filter-both (hash_matches order s strs hash text o.index) (string_matches order s strs hash text o.index) (numbers_from 0 o.index.name_count), candidates_match names check given)
        by_candidates (refused m v) given e = absurd (refused-answered e)

  -- the same for all indexes
  headers_all_found : length s ≤ longest → length strs ≤ longest → (opened : List OpenIndex) (n : ℕ) → Each (λ o. outcome (Ok o.index) ≡ name_index s o.header) opened → Each (CompleteOrNoTable order s) opened
      → counted (header_records order s strs hash text (all_of (map (λ o. o.header) opened))) ≡ answered n
      → map answered (items_of (header_records order s strs hash text (all_of (map (λ o. o.header) opened)))) ≡ expected order s strs hash text opened
  unfolding header_records items_of expected flat_map all_of
  headers_all_found short short-strs [] n opens checks e = refl
  headers_all_found short short-strs (o ∷ opened) n (and_then opens-o opens) (and_then check checks) e =
      let rest : Listing Record = header_records order s strs hash text (all_of (map (λ o. o.header) opened)) in
      let (opens-p, fits) = name_opened s o.header o.index (sym opens-o) in
      let (j, k, first, second, sum, both) = followed-counted (index_records order s strs hash text o.header.offset.0 (parts o.index)) rest n (rw opens-p at e) in
      rw (
        opens-p,
        both,
        map-append answered (items_of (index_records order s strs hash text o.header.offset.0 (parts o.index))) (items_of rest),
        index-all o fits short short-strs j check first,
        headers_all_found short short-strs opened k opens checks second,
      )

  -- what an answered query says of its section
  section_counted : (total : ℕ) → counted (section_records order s strs hash text) ≡ answered total
      → (length s ≤ longest) × (length strs ≤ longest) × (section_records order s strs hash text ≡ headers_left order s strs hash text 0)
  unfolding section_records counted
  section_counted total = by_limits (ltb longest (length s)) (ltb longest (length strs)) refl refl
    where
      by_limits : (t u : Bool) → ltb longest (length s) ≡ t → ltb longest (length strs) ≡ u
          → counted (or_broken (refuse_if t 13 0) λ x. or_broken (refuse_if u 13 0) λ y. headers_left order s strs hash text 0) ≡ answered total
          → (length s ≤ longest) × (length strs ≤ longest)
          × (or_broken (refuse_if t 13 0) (λ x. or_broken (refuse_if u 13 0) λ y. headers_left order s strs hash text 0) ≡ headers_left order s strs hash text 0)
      by_limits true u e f h = absurd (refused-answered h)
      by_limits false true e f h = absurd (refused-answered h)
      by_limits false false e f h = (ltb-false longest (length s) e, ltb-false longest (length strs) f, refl)

pub query_finds : QueryFinds
unfolding section_query queried headers_left
query_finds order s strs hash text lent after total opened ((steps, linked, reached, answers), opens) checks given =
    let count : counted (section_records order s strs hash text) ≡ answered total = sym (ap (λ q. q.answer) given) in
    let (short, short-strs, same) = section_counted order s strs hash text total count in
    let headers = headers_all order s short steps opened linked reached answers in
    let whole : section_records order s strs hash text ≡ header_records order s strs hash text (all_of (map (λ o. o.header) opened)) = same ∙ ap (header_records order s strs hash text) headers in
    let found : map answered (items_of (section_records order s strs hash text)) ≡ expected order s strs hash text opened
    = ap (λ l. map answered (items_of l)) whole ∙ headers_all_found order s strs hash text short short-strs opened total opens checks (ap counted (sym whole) ∙ count) in
    let size : length (map answered (items_of (section_records order s strs hash text))) ≡ length (items_of (section_records order s strs hash text)) = length-map (items_of (section_records order s strs hash text)) answered in (
      counted-items (section_records order s strs hash text) total count ∙ sym (items-length (section_records order s strs hash text)) ∙ sym size ∙ ap (λ l. length l) found,
      (
        take (length lent) (items_of (section_records order s strs hash text)),
        map-take answered (length lent) (items_of (section_records order s strs hash text)) ∙ ap (take (length lent)) found,
        ap (λ q. q.records) given ∙ ap (λ o. overlaid (unless_refused o (items_of (section_records order s strs hash text))) lent) count ∙ overlaid_is (items_of (section_records order s strs hash text)) lent,
      ),
    )

pub demand3 : Demand3
demand3 = record { lookups = (bucket-lookups, hash-lookups, entry-lookups); completeness = complete_exactly; query = query_finds }
