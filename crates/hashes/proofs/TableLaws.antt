-- Laws of the hash table: where its numbers stand; a run, and the search for the next name, a name at a time.
use Prim.Native.Nat.{ℕ, zero, suc, ◌+◌, ◌-◌, ◌*◌, ◌≤◌, ◌<◌}
use mathlib.Core.Path.{◌≡◌, refl, sym, ap, ◌∙◌}
use mathlib.Core.Bool.{Bool, true, false, cond}
use mathlib.Core.List.{List, [], ◌∷◌}
use native.Mathlib.Omega.{arith}
use native.Mathlib.Nat.{mod-lt, mod-eq_of_lt}
use lib.ListN.{length, take, length-take}
use lib.Dec.{leb, eqb}
use borrow.Author.Tests.{leb-true, leb-false, le-leb, lt-leb, eqb-true, eqb-false, eq-eqb, ne_eqb}
use Rattle.index.specs.declared.layout.NameIndex.{NameIndex}
use Rattle.reader.specs.Outcome.{answered}
use Rattle.index.specs.declared.layout.Parts.{Parts}
use Rattle.index.specs.Layout.{parts, place, places_from, sizes, hash_bytes, Fits, fitted}
use Rattle.index.proofs.LayoutLaws.{places_ascend, fitted-answered}
use Rattle.reader.specs.Lists.{numbers_from, filterb, take_while, memberb}
use Rattle.reader.proofs.ListLaws.{past-other, false_true, numbers_length, while_length, while_take, take_shorter, filter-length, nil_cons, head-same, tail_same}
use Rattle.reader.specs.declared.endianity.RunTimeEndian.{RunTimeEndian}
use Rattle.hashes.specs.Table.{stored_start, stored_hash, bucket_of, names_from, run_from, examined_from, from_start, run, examined, storing, names_of_hash}
use Rattle.hashes.specs.Sanity.{ExaminedRun}
use Rattle.hashes.specs.Lookups.{first_or, found_at, no_more, next_in_bucket, next_storing}

-- the hashes of an index with buckets end where its strings begin
pub hashes_end : (i : NameIndex) → 0 < i.bucket_count → (parts i).name_table_data ≡ (parts i).hash_table_data + 4 * i.name_count
unfolding parts place places_from sizes hash_bytes
hashes_end i some = rw (ne_eqb i.bucket_count 0 (λ e. omega (arith, e)))

-- and its starts where its hashes begin
pub buckets-end : (i : NameIndex) → (parts i).hash_table_data ≡ (parts i).bucket_data + 4 * i.bucket_count
unfolding parts place places_from sizes
buckets-end i = refl

-- the strings begin inside a section that the index fits
pub strings_inside : (s : List ℕ) (i : NameIndex) → Fits s i → (parts i).name_table_data ≤ length s
unfolding parts
strings_inside s i (pool, ends) =
    let before : place i 5 ≤ place i 8 = places_ascend i 5 8 (omega arith) (omega arith) in
    omega arith

-- so all hashes lie inside it
pub hashes_inside : (s : List ℕ) (i : NameIndex) → Fits s i → 0 < i.bucket_count → (parts i).hash_table_data + 4 * i.name_count ≤ length s
hashes_inside s i fits some = omega (arith, hashes_end i some, strings_inside s i fits)

-- the same of the parts that `fitted` gives
pub hashes_within : (s : List ℕ) (i : NameIndex) (p : Parts) → answered p ≡ fitted s i → 0 < i.bucket_count → p.hash_table_data + 4 * i.name_count ≤ length s
hashes_within s i p given some =
    let (short, fits, same) = fitted-answered s i p (sym given) in
    let begins = ap (λ q. q.hash_table_data) same in
    let all = hashes_inside s i fits some in
    omega arith

pub starts_within : (s : List ℕ) (i : NameIndex) (p : Parts) → answered p ≡ fitted s i → p.bucket_data + 4 * i.bucket_count ≤ length s
unfolding parts
starts_within s i p given =
    let (short, (pool, ends), same) = fitted-answered s i p (sym given) in
    let begins = ap (λ q. q.bucket_data) same in
    let after : place i 4 ≡ place i 3 + 4 * i.bucket_count = buckets-end i in
    let before : place i 4 ≤ place i 8 = places_ascend i 4 8 (omega arith) (omega arith) in
    omega arith

-- every hash has a bucket of the index
pub bucket-below : (i : NameIndex) (hash : ℕ) → 0 < i.bucket_count → bucket_of i hash < i.bucket_count
unfolding bucket_of
bucket-below i hash some = rw (ne_eqb i.bucket_count 0 (λ e. omega (arith, e))) (mod-lt hash some)

-- and a bucket's number is a hash of that bucket
pub bucket_itself : (i : NameIndex) (bucket : ℕ) → bucket < i.bucket_count → bucket_of i bucket ≡ bucket
unfolding bucket_of
bucket_itself i bucket below = rw (ne_eqb i.bucket_count 0 (λ e. omega (arith, e)), mod-eq_of_lt below)

module _ (i : NameIndex) where
  -- the names from a number on: it and those after it, or none at N and above
  pub names_step : (name : ℕ) → names_from i name ≡ cond (leb i.name_count name) [] (name ∷ names_from i (name + 1))
  unfolding names_from numbers_from
  names_step name = tested (leb i.name_count name) refl
    where
      tested : (t : Bool) → leb i.name_count name ≡ t → numbers_from name (i.name_count - name) ≡ cond t [] (name ∷ numbers_from (name + 1) (i.name_count - (name + 1)))
      tested true e =
          let above = leb-true i.name_count name e in
          let none_left : i.name_count - name ≡ 0 = omega arith in
          rw none_left
      tested false e =
          let below = leb-false i.name_count name e in
          let one_more_lem : i.name_count - name ≡ suc (i.name_count - (name + 1)) = omega arith in
          rw one_more_lem

  module _ (hash_of : ℕ → ℕ) (bucket : ℕ) where
    -- whether a name belongs to the bucket
    abbrev inside : ℕ → Bool
    inside n = eqb (bucket_of i (hash_of n)) bucket

    pub run_step : (name : ℕ) → run_from i hash_of bucket name ≡ cond (leb i.name_count name) [] (cond (eqb (bucket_of i (hash_of name)) bucket) (name ∷ run_from i hash_of bucket (name + 1)) [])
    unfolding run_from take_while
    run_step name = rw (names_step name) (tested (leb i.name_count name))
      where
        tested : (t : Bool) → take_while inside (cond t [] (name ∷ names_from i (name + 1))) ≡ cond t [] (cond (inside name) (name ∷ take_while inside (names_from i (name + 1))) [])
        tested true = refl
        tested false = refl

    pub examined_step : (name : ℕ) → examined_from i hash_of bucket name ≡ cond (leb i.name_count name) [] (name ∷ cond (eqb (bucket_of i (hash_of name)) bucket) (examined_from i hash_of bucket (name + 1)) [])
    unfolding examined_from
    examined_step name = rw (run_step name, names_step name) (tested (leb i.name_count name) (inside name))
      where
        after : List ℕ
        after = names_from i (name + 1)

        tested : (t u : Bool) → take (suc (length (cond t [] (cond u (name ∷ run_from i hash_of bucket (name + 1)) [])))) (cond t [] (name ∷ after))
            ≡ cond t [] (name ∷ cond u (take (suc (length (run_from i hash_of bucket (name + 1)))) after) [])
        tested true u = refl
        tested false true = refl
        tested false false = refl

    -- the next name of the bucket, in the order of the code
    pub next_in_step : (name : ℕ) → next_in_bucket i hash_of bucket name ≡ cond (leb i.name_count name) (no_more name) (cond (eqb (bucket_of i (hash_of name)) bucket) (found_at name) (no_more (name + 1)))
    unfolding next_in_bucket first_or
    next_in_step name = rw (run_step name, examined_step name) (tested (leb i.name_count name) (inside name))
      where
        tested : (t u : Bool) → first_or (cond t [] (cond u (name ∷ run_from i hash_of bucket (name + 1)) [])) (name + length (cond t [] (name ∷ cond u (examined_from i hash_of bucket (name + 1)) [])))
            ≡ cond t (no_more name) (cond u (found_at name) (no_more (name + 1)))
        tested true u = ap (λ n. no_more n) (omega arith)
        tested false true = refl
        tested false false = ap (λ n. no_more n) (omega arith)

    -- the next name that stores the hash, in the order of the code
    pub next_storing_step : (hash name : ℕ) → next_storing i hash_of bucket hash name
        ≡ cond (leb i.name_count name)
        (no_more name)
        (cond (eqb (bucket_of i (hash_of name)) bucket)
        (cond (eqb (hash_of name) hash) (found_at name) (next_storing i hash_of bucket hash (name + 1)))
        (no_more (name + 1)))
    unfolding next_storing storing filterb first_or
    next_storing_step hash name = rw (run_step name, examined_step name) (tested (leb i.name_count name) (inside name) (eqb (hash_of name) hash) refl)
      where
        run-after : List ℕ
        run-after = run_from i hash_of bucket (name + 1)

        further : ℕ
        further = length (examined_from i hash_of bucket (name + 1))

        tested : (t u v : Bool) → eqb (hash_of name) hash ≡ v → first_or (storing hash_of hash (cond t [] (cond u (name ∷ run-after) []))) (name + length (cond t [] (name ∷ cond u (examined_from i hash_of bucket (name + 1)) [])))
            ≡ cond t (no_more name) (cond u (cond v (found_at name) (first_or (storing hash_of hash run-after) ((name + 1) + further))) (no_more (name + 1)))
        tested true u v e = ap (λ n. no_more n) (omega arith)
        tested false true true e = rw e
        tested false true false e = rw e (ap (λ n. first_or (storing hash_of hash run-after) n) (omega arith))
        tested false false v e = ap (λ n. no_more n) (omega arith)

    -- the same by what is known of the name, for the search past the names with other hashes
    pub search_past : (hash name : ℕ) → i.name_count ≤ name → next_storing i hash_of bucket hash name ≡ no_more name
    search_past hash name past = rw (next_storing_step hash name, le-leb i.name_count name past)

    pub search_ends : (hash name stored : ℕ) → stored ≡ hash_of name → name < i.name_count → (bucket_of i stored ≡ bucket → ⊥) → next_storing i hash_of bucket hash name ≡ no_more (name + 1)
    search_ends hash name stored is below other = rw (next_storing_step hash name, lt-leb i.name_count name below, sym is, ne_eqb (bucket_of i stored) bucket other)

    pub search_finds : (hash name stored : ℕ) → stored ≡ hash_of name → name < i.name_count → bucket_of i stored ≡ bucket → stored ≡ hash → next_storing i hash_of bucket hash name ≡ found_at name
    search_finds hash name stored is below own same =
        rw (next_storing_step hash name, lt-leb i.name_count name below, sym is, eq-eqb (bucket_of i stored) bucket own, eq-eqb stored hash same)

    pub search_on : (hash name stored : ℕ) → stored ≡ hash_of name → name < i.name_count → bucket_of i stored ≡ bucket → (stored ≡ hash → ⊥)
        → next_storing i hash_of bucket hash name ≡ next_storing i hash_of bucket hash (name + 1)
    search_on hash name stored is below own other =
        rw (next_storing_step hash name, lt-leb i.name_count name below, sym is, eq-eqb (bucket_of i stored) bucket own, ne_eqb stored hash other)

    -- the names of the run that store the hash, in the order of the code
    pub storing_step : (hash name : ℕ) → storing hash_of hash (run_from i hash_of bucket name)
        ≡ cond (leb i.name_count name)
        []
        (cond (eqb (bucket_of i (hash_of name)) bucket)
        (cond (eqb (hash_of name) hash) (name ∷ storing hash_of hash (run_from i hash_of bucket (name + 1))) (storing hash_of hash (run_from i hash_of bucket (name + 1))))
        [])
    unfolding storing filterb
    storing_step hash name = rw (run_step name) (tested (leb i.name_count name) (inside name))
      where
        run-after : List ℕ
        run-after = run_from i hash_of bucket (name + 1)

        tested : (t u : Bool) → storing hash_of hash (cond t [] (cond u (name ∷ run-after) []))
            ≡ cond t [] (cond u (cond (eqb (hash_of name) hash) (name ∷ storing hash_of hash run-after) (storing hash_of hash run-after)) [])
        tested true u = refl
        tested false true = refl
        tested false false = refl

    -- after the first of them come those from the next name on
    rest_decided : (hash first : ℕ) (rest : List ℕ) (name : ℕ) → storing hash_of hash (run_from i hash_of bucket name) ≡ first ∷ rest
        → (name < i.name_count → storing hash_of hash (run_from i hash_of bucket (name + 1)) ≡ first ∷ rest → storing hash_of hash (run_from i hash_of bucket (first + 1)) ≡ rest)
        → storing hash_of hash (run_from i hash_of bucket (first + 1)) ≡ rest
    rest_decided hash first rest name e more = tested (leb i.name_count name) (inside name) (eqb (hash_of name) hash) refl (sym (storing_step hash name) ∙ e)
      where
        after : List ℕ
        after = storing hash_of hash (run_from i hash_of bucket (name + 1))

        tested : (t u v : Bool) → leb i.name_count name ≡ t → cond t [] (cond u (cond v (name ∷ after) after) []) ≡ first ∷ rest
            → storing hash_of hash (run_from i hash_of bucket (first + 1)) ≡ rest
        tested true u v e h = absurd (nil_cons h)
        tested false false v e h = absurd (nil_cons h)
        tested false true true e h = rw (sym (head-same h)) (tail_same h)
        tested false true false e h = more (leb-false i.name_count name e) h

    rest-within : (hash first : ℕ) (rest : List ℕ) (turns name : ℕ) → i.name_count - name ≤ turns → storing hash_of hash (run_from i hash_of bucket name) ≡ first ∷ rest
        → storing hash_of hash (run_from i hash_of bucket (first + 1)) ≡ rest
    rest-within hash first rest zero name enough e = rest_decided hash first rest name e (λ below h. absurd (omega arith))
    rest-within hash first rest (suc turns) name enough e = rest_decided hash first rest name e (λ below h. rest-within hash first rest turns (name + 1) (omega arith) h)

    pub storing-rest : (hash name first : ℕ) (rest : List ℕ) → storing hash_of hash (run_from i hash_of bucket name) ≡ first ∷ rest → storing hash_of hash (run_from i hash_of bucket (first + 1)) ≡ rest
    storing-rest hash name first rest e = rest-within hash first rest i.name_count name (omega arith) e

    -- a run is no longer than the names from its start on
    run-from-length : (name : ℕ) → length (run_from i hash_of bucket name) ≤ i.name_count
    unfolding run_from names_from
    run-from-length name = omega (arith, while_length inside (numbers_from name (i.name_count - name)), numbers_length name (i.name_count - name))

    -- the names examined from a number on begin with those of the run, and are at most one more
    examined-from : (name : ℕ) → (take (length (run_from i hash_of bucket name)) (examined_from i hash_of bucket name) ≡ run_from i hash_of bucket name)
        × (length (examined_from i hash_of bucket name) ≤ length (run_from i hash_of bucket name) + 1)
    unfolding examined_from run_from
    examined-from name = (
      take_shorter (length (take_while inside (names_from i name))) (names_from i name) ∙ while_take inside (names_from i name),
      rw length-take (omega arith),
    )

    -- a name is in the run from a number on if it and all names from that number up to it belong to the bucket
    pub in_run : (name k from : ℕ) → name ≡ from + k → name < i.name_count → ((m : ℕ) → from ≤ m → m ≤ name → bucket_of i (hash_of m) ≡ bucket) → memberb name (run_from i hash_of bucket from) ≡ true
    unfolding memberb
    in_run name zero from there below all =
        rw (run_step from, lt-leb i.name_count from (omega arith), eq-eqb (bucket_of i (hash_of from)) bucket (all from (omega arith) (omega arith)), eq-eqb name from (omega arith))
    in_run name (suc k) from there below all =
        rw (run_step from, lt-leb i.name_count from (omega arith), eq-eqb (bucket_of i (hash_of from)) bucket (all from (omega arith) (omega arith)))
        (passed (eqb name from) (in_run name k (from + 1) (omega arith) below (λ m h e. all m (omega arith) e)))
      where
        passed : (t : Bool) → memberb name (run_from i hash_of bucket (from + 1)) ≡ true → cond t true (memberb name (run_from i hash_of bucket (from + 1))) ≡ true
        passed true h = refl
        passed false h = h

    -- and only then
    abbrev AllTo : ℕ → ℕ → Type 0
    AllTo from name = (from ≤ name) × (name < i.name_count) × ((m : ℕ) → from ≤ m → m ≤ name → bucket_of i (hash_of m) ≡ bucket)

    run_decided : (name from : ℕ) → memberb name (run_from i hash_of bucket from) ≡ true → (from < i.name_count → memberb name (run_from i hash_of bucket (from + 1)) ≡ true → AllTo (from + 1) name) → AllTo from name
    unfolding memberb
    run_decided name from h more = tested (leb i.name_count from) (inside from) (eqb name from) refl refl refl (rw (run_step from) at h)
      where
        after : List ℕ
        after = run_from i hash_of bucket (from + 1)

        tested : (t u v : Bool) → leb i.name_count from ≡ t → inside from ≡ u → eqb name from ≡ v → memberb name (cond t [] (cond u (from ∷ after) [])) ≡ true → AllTo from name
        tested true u v e f g h = absurd (false_true h)
        tested false false v e f g h = absurd (false_true h)
        tested false true true e f g h =
            let below = leb-false i.name_count from e in
            let same = eqb-true name from g in
            (omega arith, omega arith, λ m k l. let here : m ≡ from = omega arith in rw here (eqb-true (bucket_of i (hash_of from)) bucket f))
        tested false true false e f g h =
            let (above, below, all) = more (leb-false i.name_count from e) (rw g at h) in
            (omega arith, below, λ m k l. from-or-after m (eqb m from) refl k l all)
          where
            from-or-after : (m : ℕ) (t : Bool) → eqb m from ≡ t → from ≤ m → m ≤ name → ((m : ℕ) → from + 1 ≤ m → m ≤ name → bucket_of i (hash_of m) ≡ bucket) → bucket_of i (hash_of m) ≡ bucket
            from-or-after m true same k l all = rw (eqb-true m from same) (eqb-true (bucket_of i (hash_of from)) bucket f)
            from-or-after m false other k l all = all m (past-other m from k (eqb-false m from other)) l

    run-within : (name turns from : ℕ) → i.name_count - from ≤ turns → memberb name (run_from i hash_of bucket from) ≡ true → AllTo from name
    run-within name zero from enough h = run_decided name from h (λ below more. absurd (omega arith))
    run-within name (suc turns) from enough h = run_decided name from h (λ below more. run-within name turns (from + 1) (omega arith) more)

    pub of_run : (name from : ℕ) → memberb name (run_from i hash_of bucket from) ≡ true → AllTo from name
    of_run name from h = run-within name i.name_count from (omega arith) h

-- a run has no more names than the index
pub run_length : (order : RunTimeEndian) (s : List ℕ) (i : NameIndex) (bucket : ℕ) → length (run order s i bucket) ≤ i.name_count
unfolding run from_start
run_length order s i bucket = chosen (eqb (stored_start order s (parts i) bucket) 0)
  where
    chosen : (t : Bool) → length (cond t [] (run_from i (stored_hash order s (parts i)) bucket (stored_start order s (parts i) bucket - 1))) ≤ i.name_count
    chosen true = omega arith
    chosen false = run-from-length i (stored_hash order s (parts i)) bucket (stored_start order s (parts i) bucket - 1)

-- so has what a hash lists
pub hash-names-length : (order : RunTimeEndian) (s : List ℕ) (i : NameIndex) (hash : ℕ) → length (names_of_hash order s i hash) ≤ i.name_count
unfolding names_of_hash storing
hash-names-length order s i hash =
    omega (arith, filter-length (λ n. eqb (stored_hash order s (parts i) n) hash) (run order s i (bucket_of i hash)), run_length order s i (bucket_of i hash))

pub examined-run : ExaminedRun
unfolding run examined from_start
examined-run order s i bucket = chosen (eqb (stored_start order s (parts i) bucket) 0)
  where
    hash_of : ℕ → ℕ
    hash_of = stored_hash order s (parts i)

    first : ℕ
    first = stored_start order s (parts i) bucket - 1

    chosen : (t : Bool) → (take (length (cond t [] (run_from i hash_of bucket first))) (cond t [] (examined_from i hash_of bucket first)) ≡ cond t [] (run_from i hash_of bucket first))
        × (length (cond t [] (examined_from i hash_of bucket first)) ≤ length (cond t [] (run_from i hash_of bucket first)) + 1)
    chosen true = (refl, omega arith)
    chosen false = examined-from i hash_of bucket first
