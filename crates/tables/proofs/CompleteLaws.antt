-- Demand 3 for completeness: the check says complete exactly when the lookup of every hash lists all names that store it.
use Prim.Native.Nat.{ℕ, zero, suc, ◌+◌, ◌-◌, ◌*◌, ◌^◌, ◌≤◌, ◌<◌}
use mathlib.Core.Path.{◌≡◌, refl, sym, ap, ◌∙◌}
use mathlib.Core.Bool.{Bool, true, false, not, cond}
use mathlib.Core.Logic.{⊎_elim}
use mathlib.Core.List.{List, [], ◌∷◌, map}
use Rattle.std.specs.Prelude.{Option, Some, None, Ok}
use native.Mathlib.Omega.{arith}
use lib.ListN.{length}
use lib.Seq.{take_all}
use lib.Dec.{ltb, leb, eqb}
use borrow.Author.Tests.{ltb-true, ltb-false, le-ltb, leb-true, leb-false, eqb-true, eqb-false, eq-eqb, ne_eqb}
use Rattle.reader.specs.Outcome.{Outcome, answered, refused}
use Rattle.reader.specs.Errors.{longest}
use Rattle.reader.specs.Numbers.{Bytes}
use Rattle.reader.specs.Steps.{Linked, has_end, up_to_end, Taken}
use Rattle.reader.specs.declared.endianity.RunTimeEndian.{RunTimeEndian}
use Rattle.reader.specs.declared.common.NameTableIndex.{NameTableIndex}
use Rattle.reader.proofs.NumberLaws.{number_read, read_below}
use Rattle.index.specs.declared.layout.NameIndex.{NameIndex}
use Rattle.index.specs.Layout.{parts, Fits}
use Rattle.index.proofs.LayoutLaws.{fitted-fits}
use Rattle.hashes.specs.declared.hash.NameHashIter.{NameHashIter}
use Rattle.reader.specs.Lists.{numbers_from, filterb, memberb}
use Rattle.hashes.specs.Table.{nth_of, stored_start, stored_hash, bucket_of, names_from, run_from, from_start, run, storing, names_of_hash, all_storing}
use Rattle.hashes.specs.Lookups.{find_by_hash, hash_step}
use Rattle.hashes.specs.Demand3.{hash_answers, hash_names}
use Rattle.reader.proofs.ListLaws.{false_true, never_true, filter_step, filter_none, filter-later, member_filter, filter-below, no_members}
use Rattle.hashes.proofs.TableLaws.{bucket-below, bucket_itself, storing_step, of_run, hashes_inside}
use Rattle.hashes.proofs.LookupLaws.{started, find-fits, find-answered, hash-answered, hash-lookups, hashes_have_end, steps_follow}
use Rattle.tables.specs.declared.TableCheck.{TableCheck}
use Rattle.tables.specs.Check.{start_above, any_above, is_missed, missed_names, verdict, table_check}
use Rattle.tables.specs.Demand3.{ListsAll, CompleteExactly}
use Rattle.tables.proofs.CheckLaws.{missed_exactly, no_table_complete, verdict-complete, verdict-table, IsTaken, check-answered}
use Rattle.reader.specs.Answers.{outcome}

-- Where all names that store the hash belong to the run from a number on, the run's names that store it are all names from there on that do.
module _ (i : NameIndex) (hash_of : ℕ → ℕ) (bucket hash : ℕ) where
  abbrev Together : ℕ → Type 0
  Together from = (m : ℕ) → from ≤ m → m < i.name_count → eqb (hash_of m) hash ≡ true → (j : ℕ) → from ≤ j → j ≤ m → bucket_of i (hash_of j) ≡ bucket

  -- one name more
  storing_decided : (from : ℕ) → Together from
      → (from < i.name_count → storing hash_of hash (run_from i hash_of bucket (from + 1)) ≡ storing hash_of hash (names_from i (from + 1)))
      → storing hash_of hash (run_from i hash_of bucket from) ≡ storing hash_of hash (names_from i from)
  unfolding storing names_from
  storing_decided from all more =
      rw (storing_step i hash_of bucket hash from, filter_step (λ n. eqb (hash_of n) hash) i.name_count from)
      (tested (leb i.name_count from) (eqb (bucket_of i (hash_of from)) bucket) (ltb from i.name_count) (eqb (hash_of from) hash) refl refl refl refl)
    where
      left : List ℕ
      left = storing hash_of hash (run_from i hash_of bucket (from + 1))

      right : List ℕ
      right = filterb (λ n. eqb (hash_of n) hash) (numbers_from (from + 1) (i.name_count - (from + 1)))

      -- after a name of another bucket none stores the hash
      never : eqb (bucket_of i (hash_of from)) bucket ≡ false → (m : ℕ) → from ≤ m → m < i.name_count → eqb (hash_of m) hash ≡ false
      never other m h l = never_true (eqb (hash_of m) hash) (λ e. eqb-false _ _ other (all m h l e from (omega arith) h))

      tested : (t u v w : Bool) → leb i.name_count from ≡ t → eqb (bucket_of i (hash_of from)) bucket ≡ u → ltb from i.name_count ≡ v → eqb (hash_of from) hash ≡ w
          → cond t [] (cond u (cond w (from ∷ left) left) []) ≡ cond v (cond w (from ∷ right) right) []
      tested true u true w e f g h = absurd (omega (arith, leb-true i.name_count from e, ltb-true from i.name_count g))
      tested true u false w e f g h = refl
      tested false u false w e f g h = absurd (omega (arith, leb-false i.name_count from e, ltb-false from i.name_count g))
      tested false true true true e f g h = ap (λ l. from ∷ l) (more (ltb-true from i.name_count g))
      tested false true true false e f g h = more (ltb-true from i.name_count g)
      tested false false true true e f g h = absurd (false_true (sym (never f from (omega arith) (ltb-true from i.name_count g)) ∙ h))
      tested false false true false e f g h = sym (filter_none (λ n. eqb (hash_of n) hash) (from + 1) (i.name_count - (from + 1)) (λ m k l. never f m (omega arith) (omega arith)))

  storing-within : (turns from : ℕ) → i.name_count - from ≤ turns → Together from → storing hash_of hash (run_from i hash_of bucket from) ≡ storing hash_of hash (names_from i from)
  storing-within zero from enough all = storing_decided from all (λ below. absurd (omega arith))
  storing-within (suc turns) from enough all = storing_decided from all (λ below. storing-within turns (from + 1) (omega arith) (λ m h l e j k n. all m (omega arith) l e j (omega arith) n))

  pub storing-run : (from : ℕ) → Together from → storing hash_of hash (run_from i hash_of bucket from) ≡ storing hash_of hash (names_from i from)
  storing-run from all = storing-within i.name_count from (omega arith) all

module _ (order : RunTimeEndian) (s : List ℕ) (i : NameIndex) where
  abbrev hash_of : ℕ → ℕ
  hash_of = stored_hash order s (parts i)

  -- no name is missed
  abbrev NoneMissed : Type 0
  NoneMissed = (name : ℕ) → name < i.name_count → memberb name (run order s i (bucket_of i (stored_hash order s (parts i) name))) ≡ true

  -- then the names of a hash are all names that store it
  names-all : NoneMissed → (hash : ℕ) → names_of_hash order s i hash ≡ all_storing order s i hash
  unfolding names_of_hash all_storing run from_start storing filterb names_from memberb
  names-all reached hash = tested (eqb start 0) refl in_run_of
    where
      bucket : ℕ
      bucket = bucket_of i hash

      start : ℕ
      start = stored_start order s (parts i) (bucket_of i hash)

      -- a name that stores the hash is in the run of the hash's bucket
      in_run_of : (m : ℕ) → m < i.name_count → eqb (hash_of m) hash ≡ true → memberb m (cond (eqb start 0) [] (run_from i hash_of bucket (start - 1))) ≡ true
      in_run_of m l e = rw (eqb-true (stored_hash order s (parts i) m) hash e) at (reached m l)

      tested : (t : Bool) → eqb start 0 ≡ t → ((m : ℕ) → m < i.name_count → eqb (hash_of m) hash ≡ true → memberb m (cond t [] (run_from i hash_of bucket (start - 1))) ≡ true)
          → storing hash_of hash (cond t [] (run_from i hash_of bucket (start - 1))) ≡ storing hash_of hash (names_from i 0)
      tested true e within = sym (filter_none (λ n. eqb (hash_of n) hash) 0 (i.name_count - 0) (λ m h l. never_true (eqb (hash_of m) hash) (λ f. false_true (within m (omega arith) f))))
      tested false e within =
          let same : 0 + (start - 1) ≡ start - 1 = omega arith in
          storing-run i hash_of bucket hash (start - 1) (λ m h l f j k n. let (above, below, all) = of_run i hash_of bucket m (start - 1) (within m l f) in all j k n)
          ∙ sym (rw same at (filter-later (λ n. eqb (hash_of n) hash) i.name_count 0 (start - 1) (λ m h l g. never_true (eqb (hash_of m) hash) (λ f. let (above, below, all) = of_run i hash_of bucket m (start - 1) (within m g f) in omega arith))))

  -- what the two tests of the check say
  starts_inside : any_above i.name_count (stored_start order s (parts i)) i.bucket_count ≡ false → (bucket : ℕ) → bucket < i.bucket_count → stored_start order s (parts i) bucket ≤ i.name_count + 1
  unfolding any_above start_above
  starts_inside none_above bucket below =
      let none_there = ltb-false 0 (length (filterb (start_above i.name_count (stored_start order s (parts i))) (numbers_from 0 i.bucket_count))) none_above in
      ltb-false (i.name_count + 1) (stored_start order s (parts i) bucket)
      (never_true _ (λ e.
      no_members bucket (filterb (start_above i.name_count (stored_start order s (parts i))) (numbers_from 0 i.bucket_count)) (omega arith)
      (filter-below (start_above i.name_count (stored_start order s (parts i))) bucket i.bucket_count e below)))

  none_missed : missed_names order s i ≡ [] → NoneMissed
  none_missed nothing name below = reached (memberb name (run order s i (bucket_of i (stored_hash order s (parts i) name)))) refl
    where
      reached : (t : Bool) → memberb name (run order s i (bucket_of i (stored_hash order s (parts i) name))) ≡ t → t ≡ true
      reached true e = refl
      reached false e = absurd (no_members name (missed_names order s i) (ap length nothing) ((missed_exactly order s i name).1 (below, e)))

  -- what the check says where it says complete
  pub check-complete : table_check order s i ≡ answered TableCheck.Complete → IsTaken order s i × (missed_names order s i ≡ [])
  check-complete e =
      ⊎_elim
      (λ (no-buckets, same). absurd (no_table_complete same))
      (λ (taken, said). (taken, verdict-complete _ (missed_names order s i) said))
      (check-answered order s i TableCheck.Complete e)

  -- what linked steps list up to the first end
  abbrev given_by : NameHashIter → ℕ → Type 0
  given_by c hash = outcome (Ok c) ≡ find_by_hash order s i hash

  pub steps_name : (hash : ℕ) (c : NameHashIter) (steps : List (Taken NameTableIndex NameHashIter)) → given_by c hash → Linked (hash_step order s i) c steps → has_end (hash_answers steps) ≡ true
      → up_to_end (hash_answers steps) ≡ hash_names (names_of_hash order s i hash)
  steps_name hash c steps given linked ended =
      let (same, end) = hash-lookups order s i hash c steps given linked in
      let more = ltb-true (length (hash_names (names_of_hash order s i hash))) (length (hash_answers steps)) (sym end ∙ ended) in
      same ∙ take_all (length (hash_answers steps)) (hash_names (names_of_hash order s i hash)) (omega arith)

  -- in such a table each lookup gives a cursor, and its steps reach an end
  pub lookup_ends : IsTaken order s i → (hash : ℕ)
      → (c : NameHashIter) × given_by c hash × ((steps : List (Taken NameTableIndex NameHashIter)) × Linked (hash_step order s i) c steps × (has_end (hash_answers steps) ≡ true))
  unfolding find_by_hash
  lookup_ends taken hash =
      let below = bucket-below i hash taken.buckets in
      let inside = starts_inside taken.none_above (bucket_of i hash) below in
      let c : NameHashIter = record { bucket_iter = started (bucket_of i hash) (stored_start order s (parts i) (bucket_of i hash)); hash = hash } in
      let given : given_by c hash
      = rw (find-fits order s i (bucket_of i hash) taken.short taken.fits below, le-ltb (i.name_count + 1) (stored_start order s (parts i) (bucket_of i hash)) inside) in
      let (steps, count, linked) = steps_follow order s i hash c (i.name_count + 1) given in
      (c, given, (steps, linked, hashes_have_end order s i hash c steps given linked (omega arith)))

  -- a complete table lists all names of each hash
  complete-lists : table_check order s i ≡ answered TableCheck.Complete → (hash : ℕ) → ListsAll order s i hash
  complete-lists e hash =
      let (taken, nothing) = check-complete e in
      let (c, given, reaches) = lookup_ends taken hash in
      let all = names-all (none_missed nothing) hash in
      (c, given, reaches, λ steps linked ended. steps_name hash c steps given linked ended ∙ ap hash_names all)

  -- and where each hash lists all its names, no test of the check fails
  lists-inside : (hash : ℕ) → ListsAll order s i hash
      → (length s ≤ longest) × Fits s i × (bucket_of i hash < i.bucket_count) × (stored_start order s (parts i) (bucket_of i hash) ≤ i.name_count + 1)
  lists-inside hash (c, given, reaches, lists) =
      let (found, same) = hash-answered order s i hash c (sym given) in
      let (short, fits, below, inside, is) = find-answered order s i (bucket_of i hash) c.bucket_iter found in
      (short, fits, below, inside)

  -- the names back from the answers
  shown : Outcome (Option NameTableIndex) → ℕ
  shown (answered (Some name)) = name.0
  shown (answered None) = 0
  shown (refused n v) = 0

  names_back : (names : List ℕ) → map shown (hash_names names) ≡ names
  unfolding hash_names shown
  names_back [] = refl
  names_back (name ∷ names) = ap (λ l. name ∷ l) (names_back names)

  -- a name is one of all names that store its own hash, and what a hash lists is in the run of its bucket
  pub stores_own : (name : ℕ) → name < i.name_count → memberb name (all_storing order s i (stored_hash order s (parts i) name)) ≡ true
  unfolding all_storing storing names_from
  stores_own name below = filter-below (λ n. eqb (hash_of n) (hash_of name)) name (i.name_count - 0) (eq-eqb (hash_of name) (hash_of name) refl) (omega arith)

  pub listed-run : (name hash : ℕ) → memberb name (names_of_hash order s i hash) ≡ true → memberb name (run order s i (bucket_of i hash)) ≡ true
  unfolding names_of_hash storing
  listed-run name hash h = member_filter (λ n. eqb (hash_of n) hash) name (run order s i (bucket_of i hash)) h

  lists_reach : (name : ℕ) → name < i.name_count → ListsAll order s i (stored_hash order s (parts i) name) → memberb name (run order s i (bucket_of i (stored_hash order s (parts i) name))) ≡ true
  lists_reach name below (c, given, (steps, linked, ended), lists) =
      let both : hash_names (names_of_hash order s i hash) ≡ hash_names (all_storing order s i hash) = sym (steps_name hash c steps given linked ended) ∙ lists steps linked ended in
      let same : names_of_hash order s i hash ≡ all_storing order s i hash = sym (names_back (names_of_hash order s i hash)) ∙ ap (map shown) both ∙ names_back (all_storing order s i hash) in
      listed-run name hash (rw (sym same) at (stores_own name below))
    where
      hash : ℕ
      hash = stored_hash order s (parts i) name

  -- a stored hash has 32 bits
  hash-below : Bytes s → Fits s i → 0 < i.bucket_count → (name : ℕ) → name < i.name_count → stored_hash order s (parts i) name < 2 ^ 32
  unfolding stored_hash nth_of
  hash-below bytes fits buckets name below =
      let inside = hashes_inside s i fits buckets in
      read_below 4 order s ((parts i).hash_table_data + 4 * name) (length s) _ bytes (number_read 4 order s ((parts i).hash_table_data + 4 * name) (length s) (omega arith))

  module _ (bytes : Bytes s) (small : i.bucket_count < 2 ^ 32) (all : (hash : ℕ) → hash < 2 ^ 32 → ListsAll order s i hash) where
    none_above : any_above i.name_count (stored_start order s (parts i)) i.bucket_count ≡ false
    unfolding any_above start_above
    none_above = rw (filter_none (start_above i.name_count (stored_start order s (parts i))) 0 i.bucket_count inside)
      where
        inside : (bucket : ℕ) → 0 ≤ bucket → bucket < 0 + i.bucket_count → ltb (i.name_count + 1) (stored_start order s (parts i) bucket) ≡ false
        inside bucket h l =
            let below : bucket < i.bucket_count = omega arith in
            let (short, fits, there, most) = lists-inside bucket (all bucket (omega arith)) in
            le-ltb (i.name_count + 1) (stored_start order s (parts i) bucket) (rw (bucket_itself i bucket below) at most)

    nothing : Fits s i → 0 < i.bucket_count → missed_names order s i ≡ []
    unfolding missed_names is_missed names_from
    nothing fits buckets =
        filter_none (is_missed order s i) 0 (i.name_count - 0)
        (λ name h l. let below : name < i.name_count = omega arith in
        ap not (lists_reach name below (all (stored_hash order s (parts i) name) (hash-below bytes fits buckets name below))))

    lists-complete : table_check order s i ≡ answered TableCheck.Complete
    unfolding table_check verdict
    lists-complete =
        let (short, fits, below, inside) = lists-inside 0 (all 0 (omega arith)) in
        let buckets : 0 < i.bucket_count = omega arith in
        rw (fitted-fits s i short fits, ne_eqb i.bucket_count 0 (λ e. omega (arith, e)), none_above, nothing fits buckets)

-- so the names of each hash in a complete table are all names that store it
pub complete-names : (order : RunTimeEndian) (s : List ℕ) (i : NameIndex) → table_check order s i ≡ answered TableCheck.Complete → (0 < i.bucket_count) × ((hash : ℕ) → names_of_hash order s i hash ≡ all_storing order s i hash)
complete-names order s i e =
    let (taken, nothing) = check-complete order s i e in
    (taken.buckets, names-all order s i (none_missed order s i nothing))

-- and an index that the check says has no table has no buckets
pub no_table_buckets : (order : RunTimeEndian) (s : List ℕ) (i : NameIndex) → table_check order s i ≡ answered TableCheck.NoTable → i.bucket_count ≡ 0
no_table_buckets order s i e =
    ⊎_elim
    (λ (no-buckets, same). no-buckets)
    (λ (taken, said). absurd (verdict-table _ (missed_names order s i) said))
    (check-answered order s i TableCheck.NoTable e)

pub complete_exactly : CompleteExactly
complete_exactly order s i bytes small = (λ e hash below. complete-lists order s i (sym e) hash, λ all. sym (lists-complete order s i bytes small all))
