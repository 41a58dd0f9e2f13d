-- Laws of candidates: where they begin, and which is next.
use Prim.Native.Nat.{ℕ, ◌+◌, ◌-◌, ◌*◌, ◌≤◌, ◌<◌}
use mathlib.Core.Path.{◌≡◌, refl, sym, ap, ◌∙◌}
use mathlib.Core.Bool.{Bool, true, false, cond}
use mathlib.Core.List.{List, [], ◌∷◌}
use Rattle.std.specs.Prelude.{Option, Some, None}
use Rattle.std.specs.Option.{unwrap_or}
use native.Mathlib.Omega.{arith}
use lib.ListN.{length}
use lib.Dec.{leb, eqb}
use borrow.Author.Tests.{eq-eqb, ne_eqb, le-leb, lt-leb}
use Rattle.reader.specs.Outcome.{answered}
use Rattle.reader.specs.Lists.{numbers_from, filterb, take_while}
use Rattle.reader.specs.declared.endianity.RunTimeEndian.{RunTimeEndian}
use Rattle.reader.proofs.ListLaws.{numbers_length, filter-length, while_length, past-other}
use Rattle.index.specs.declared.layout.NameIndex.{NameIndex}
use Rattle.index.specs.declared.layout.Parts.{Parts}
use Rattle.index.specs.Layout.{parts}
use Rattle.index.specs.Inner.{PartsFit}
use Rattle.index.proofs.LayoutLaws.{own_index, parts_own}
use Rattle.hashes.specs.declared.hash.NameHashIter.{NameHashIter}
use Rattle.hashes.specs.declared.hash.Found.{Found}
use Rattle.hashes.specs.Table.{nth_of, stored_hash, stored_start, bucket_of, names_from, run_from, examined_from, from_start, run, storing, names_of_hash}
use Rattle.hashes.specs.Lookups.{bucket_cursor, first_in_bucket, cursor_before, find_by_bucket, find_by_hash, first_or, next_storing}
use Rattle.hashes.proofs.TableLaws.{names_step, storing_step, storing-rest, hashes_within}
use Rattle.hashes.proofs.LookupLaws.{started, find-answered, hash-answered}
use Rattle.index_query.specs.Inner.{candidates_from}
use Rattle.hashes.specs.declared.bucket.NameBucketIter.{NameBucketIter}

-- an index with a hash table has a bucket
pub has_buckets : (p : Parts) → (p.index.bucket_count ≡ 0 → ⊥) → 0 < p.index.bucket_count
has_buckets p buckets = past-other p.index.bucket_count 0 (omega arith) buckets

-- and its hashes lie inside the section
pub hashes_inside : (s : List ℕ) (p : Parts) → PartsFit s p → 0 < p.index.bucket_count → p.hash_table_data + 4 * p.index.name_count ≤ length s
hashes_inside s p given some = hashes_within s p.index p given some

module _ (order : RunTimeEndian) (s : List ℕ) (hash : ℕ) where
  -- the candidates from the name on that a cursor of the hash's bucket stands before
  abbrev held_names : Parts → Option NameBucketIter → List ℕ
  held_names p None = []
  held_names p (Some b) = candidates_from order s hash p b.name_table_index.0

  -- what `find_by_hash` gave stands for all names of the hash
  names_held : (i : NameIndex) (c : NameHashIter) → (i.bucket_count ≡ 0 → ⊥) → find_by_hash order s i hash ≡ answered c → names_of_hash order s i hash ≡ held_names (parts i) c.bucket_iter
  unfolding names_of_hash run from_start candidates_from started storing filterb
  names_held i c buckets found =
      let (given, same-hash) = hash-answered order s i hash c found in
      let (short, fits, below, inside, same) = find-answered order s i (bucket_of i hash) c.bucket_iter given in
      by_start c.bucket_iter (eqb (stored_start order s (parts i) (bucket_of i hash)) 0) same
    where
      hash_of : ℕ → ℕ
      hash_of = stored_hash order s (parts i)

      start : ℕ
      start = stored_start order s (parts i) (bucket_of i hash)

      by_start : (held : Option NameBucketIter) (t : Bool) → held ≡ cond t None (Some (bucket_cursor (bucket_of i hash) (start - 1)))
          → storing hash_of hash (cond t [] (run_from i hash_of (bucket_of i hash) (start - 1))) ≡ held_names (parts i) held
      by_start held true e = rw e
      by_start held false e = rw (e, own_index i, ne_eqb i.bucket_count 0 buckets)

  -- the first name of its bucket stands for all names of the hash, and none for no names
  abbrev first_names : Parts → Option ℕ → List ℕ
  first_names p None = []
  first_names p (Some name) = candidates_from order s hash p name

  names-first : (p : Parts) (first : Option ℕ) → PartsFit s p → (p.index.bucket_count ≡ 0 → ⊥) → first_in_bucket order s p (bucket_of p.index hash) ≡ answered first
      → names_of_hash order s p.index hash ≡ first_names p first
  unfolding find_by_hash find_by_bucket
  names-first p first given buckets began = names_held p.index (cursor first) buckets (found first began) ∙ same first
    where
      cursor : Option ℕ → NameHashIter
      cursor o = record { bucket_iter = cursor_before (bucket_of p.index hash) o; hash = hash }

      found : (o : Option ℕ) → first_in_bucket order s p (bucket_of p.index hash) ≡ answered o → find_by_hash order s p.index hash ≡ answered (cursor o)
      found o e = rw (sym given, e)

      same : (o : Option ℕ) → held_names (parts p.index) (cursor_before (bucket_of p.index hash) o) ≡ first_names p o
      same None = refl
      same (Some name) = ap (λ q. candidates_from order s hash q name) (sym (parts_own s p given))

  module _ (p : Parts) where
    -- from N on there are none
    none_past : candidates_from order s hash p p.index.name_count ≡ []
    unfolding candidates_from
    none_past = tested (eqb p.index.bucket_count 0)
      where
        tested : (t : Bool) → cond t (names_from p.index p.index.name_count) (storing (stored_hash order s p) hash (run_from p.index (stored_hash order s p) (bucket_of p.index hash) p.index.name_count)) ≡ []
        tested true = rw (names_step p.index p.index.name_count, le-leb p.index.name_count p.index.name_count (omega arith))
        tested false = rw (storing_step p.index (stored_hash order s p) (bucket_of p.index hash) hash p.index.name_count, le-leb p.index.name_count p.index.name_count (omega arith))

    -- so the candidates begin with the first name of the bucket, or past the last name
    pub first_from : (first : Option ℕ) → PartsFit s p → (p.index.bucket_count ≡ 0 → ⊥) → first_in_bucket order s p (bucket_of p.index hash) ≡ answered first
        → candidates_from order s hash p (unwrap_or first p.index.name_count) ≡ names_of_hash order s p.index hash
    first_from first given buckets began = same first ∙ sym (names-first p first given buckets began)
      where
        same : (o : Option ℕ) → candidates_from order s hash p (unwrap_or o p.index.name_count) ≡ first_names p o
        same None = none_past
        same (Some name) = refl

    -- without a hash table the names follow one another
    all_step : (from : ℕ) → p.index.bucket_count ≡ 0 → candidates_from order s hash p from ≡ cond (leb p.index.name_count from) [] (from ∷ candidates_from order s hash p (from + 1))
    unfolding candidates_from
    all_step from none_there = rw (eq-eqb p.index.bucket_count 0 none_there) (names_step p.index from)

    -- so from N on there is none, and below it the number is the next
    pub no_name : (from : ℕ) → p.index.bucket_count ≡ 0 → p.index.name_count ≤ from → candidates_from order s hash p from ≡ []
    no_name from none_there past = rw (all_step from none_there, le-leb p.index.name_count from past)

    pub next_name : (from : ℕ) → p.index.bucket_count ≡ 0 → from < p.index.name_count → candidates_from order s hash p from ≡ from ∷ candidates_from order s hash p (from + 1)
    next_name from none_there below = rw (all_step from none_there, lt-leb p.index.name_count from below)

    pub all_names : p.index.bucket_count ≡ 0 → candidates_from order s hash p 0 ≡ names_from p.index 0
    unfolding candidates_from
    all_names none_there = rw (eq-eqb p.index.bucket_count 0 none_there)

    -- with one, the next is the next name of the bucket that stores the hash
    abbrev found_names : Found → List ℕ
    found_names f = names_of f.name
      where
        names_of : Option ℕ → List ℕ
        names_of None = []
        names_of (Some name) = name ∷ candidates_from order s hash p f.next

    module _ (from : ℕ) (buckets : p.index.bucket_count ≡ 0 → ⊥) where
      abbrev stored : List ℕ
      stored = storing (stored_hash order s p) hash (run_from p.index (stored_hash order s p) (bucket_of p.index hash) from)

      next-stored : candidates_from order s hash p from ≡ found_names (next_storing p.index (nth_of order s p.hash_table_data) (bucket_of p.index hash) hash from)
      unfolding next_storing first_or candidates_from stored_hash
      next-stored = rw (ne_eqb p.index.bucket_count 0 buckets) (by_names stored refl)
        where
          by_names : (names : List ℕ) → stored ≡ names
              → stored ≡ found_names (first_or names (from + length (examined_from p.index (stored_hash order s p) (bucket_of p.index hash) from)))
          by_names [] e = e
          by_names (first ∷ rest) e = rw (e, ne_eqb p.index.bucket_count 0 buckets) (ap (λ l. first ∷ l) (sym (storing-rest p.index (stored_hash order s p) (bucket_of p.index hash) hash from first rest e)))

      -- so where a search from a number on found a name, that is the next candidate, and where it found none there is none
      pub stored_name : (f : Found) (name : ℕ) → f ≡ next_storing p.index (nth_of order s p.hash_table_data) (bucket_of p.index hash) hash from → f.name ≡ Some name
          → candidates_from order s hash p from ≡ name ∷ candidates_from order s hash p f.next
      stored_name f name found is = rw (next-stored, sym found, is)

      pub stored_none : (f : Found) → f ≡ next_storing p.index (nth_of order s p.hash_table_data) (bucket_of p.index hash) hash from → f.name ≡ None
          → candidates_from order s hash p from ≡ []
      stored_none f found is = rw (next-stored, sym found, is)

  -- there are no more candidates than names
  pub candidates-length : (p : Parts) (from : ℕ) → length (candidates_from order s hash p from) ≤ p.index.name_count
  unfolding candidates_from storing run_from names_from
  candidates-length p from = tested (eqb p.index.bucket_count 0)
    where
      same_bucket : ℕ → Bool
      same_bucket n = eqb (bucket_of p.index (stored_hash order s p n)) (bucket_of p.index hash)

      run-names : List ℕ
      run-names = take_while same_bucket (numbers_from from (p.index.name_count - from))

      tested : (t : Bool) → length (cond t (numbers_from from (p.index.name_count - from)) (filterb (λ n. eqb (stored_hash order s p n) hash) run-names)) ≤ p.index.name_count
      tested true = omega (arith, numbers_length from (p.index.name_count - from))
      tested false =
          omega (
            arith,
            numbers_length from (p.index.name_count - from),
            while_length same_bucket (numbers_from from (p.index.name_count - from)),
            filter-length (λ n. eqb (stored_hash order s p n) hash) run-names,
          )
