-- Laws of the check: the starts, asked of a range of buckets; the missed names, all of them and one at a time; the verdict; that it tells
-- what the check without a name and a hash does; and what the two loops go by.
use Prim.Native.Nat.{ℕ, zero, suc, ◌+◌, ◌-◌, ◌≤◌, ◌<◌}
use mathlib.Core.Path.{◌≡◌, refl, sym, ap, ◌∙◌}
use mathlib.Core.Bool.{Bool, true, false, not, cond, ◌||◌}
use Rattle.std.specs.List.{list_any, range_with_len}
use mathlib.Core.Logic.{◌⊎◌, inl, inr, ⊎_elim}
use mathlib.Core.List.{List, [], ◌∷◌, ◌++◌, append-nil}
use native.Mathlib.Omega.{arith}
use lib.ListN.{length, length-append}
use lib.Dec.{ltb, eqb}
use borrow.Author.Tests.{lt-ltb, le-ltb, eqb-true, eqb-false, ne_eqb}
use Rattle.reader.specs.Outcome.{Outcome, answered, refused, ◌>>=◌, ◌>>◌, refuse_if}
use Rattle.reader.specs.Errors.{longest}
use Rattle.reader.specs.declared.endianity.RunTimeEndian.{RunTimeEndian}
use Rattle.reader.proofs.OutcomeLaws.{same_answer, bind_answered, then_answered, passed, cond_is}
use Rattle.index.specs.declared.layout.NameIndex.{NameIndex}
use Rattle.index.specs.declared.layout.Parts.{Parts}
use Rattle.index.specs.Layout.{parts, Fits, fitted}
use Rattle.index.proofs.LayoutLaws.{fitted-answered}
use Rattle.reader.specs.Lists.{numbers_from, filterb}
use Rattle.hashes.specs.Table.{nth_of, stored_start, stored_hash, bucket_of, names_from, run}
use Rattle.reader.proofs.ListLaws.{false_true, numbers_length, filter-length, filter_step, filter-last, filter-first, filter_none, member_filter, member_holds, filter-below, numbers_member, past-other}
use Rattle.hashes.proofs.TableLaws.{bucket-below}
use Rattle.tables.specs.declared.Segment.{Segment}
use Rattle.tables.specs.declared.Count.{Count}
use Rattle.tables.specs.Segments.{no_segment, followed, segment_before, first_of, reached_by, one_more}
use Rattle.tables.proofs.SegmentLaws.{before-all, before_suc, followed-bucket, reached_member}
use Rattle.tables.specs.Sanity.{Told, no_hash_table, told_by, told_of, told_before, ToldAsBefore, MissedExactly}
use Rattle.tables.specs.declared.TableCheck.{TableCheck}
use Rattle.tables.specs.Check.{start_above, any_above, is_missed, missed_names, verdict, table_check}

-- some of these elements pass a test exactly if those that pass are more than 0
some_pass : {A : Type 0} (test : A → Bool) (xs : List A) → list_any test xs ≡ ltb 0 (length (filterb test xs))
unfolding filterb
some_pass test [] = refl
some_pass test (x ∷ xs) = tested (test x) (some_pass test xs)
  where
    tested : (t : Bool) → list_any test xs ≡ ltb 0 (length (filterb test xs)) → (t || list_any test xs) ≡ ltb 0 (length (cond t (x ∷ filterb test xs) (filterb test xs)))
    tested true more = sym (lt-ltb 0 (suc (length (filterb test xs))) (omega arith))
    tested false more = more

-- the numbers from k on are those of a range
in_range : (k n : ℕ) → range_with_len k n ≡ numbers_from k n
unfolding numbers_from
in_range k zero = refl
in_range k (suc n) = ap (λ l. k ∷ l) (in_range (k + 1) n)

-- whether a start is above N + 1, asked of one bucket after another
pub any_of_range : (names : ℕ) (start_of : ℕ → ℕ) (buckets : ℕ) → list_any (λ bucket. ltb (names + 1) (start_of bucket)) (range_with_len 0 buckets) ≡ any_above names start_of buckets
unfolding any_above start_above
any_of_range names start_of buckets = rw (in_range 0 buckets) (some_pass (start_above names start_of) (numbers_from 0 buckets))

-- the missed names are the names of the index that the run of their own bucket does not reach
pub missed_exactly : MissedExactly
unfolding missed_names names_from is_missed
missed_exactly order s i name = (
  λ h.
      let (above, below) = numbers_member name 0 (i.name_count - 0) (member_filter (is_missed order s i) name (numbers_from 0 (i.name_count - 0)) h) in
      (omega arith, not_true _ (member_holds (is_missed order s i) name (numbers_from 0 (i.name_count - 0)) h)),
  λ (below, out). filter-below (is_missed order s i) name (i.name_count - 0) (not_false _ out) (omega arith),
)
  where
    not_false : (t : Bool) → t ≡ false → not t ≡ true
    not_false true e = absurd (false_true (sym e))
    not_false false e = refl

    not_true : (t : Bool) → not t ≡ true → t ≡ false
    not_true true e = absurd (false_true e)
    not_true false e = refl

-- the missed names below a number
unfoldable pub missed_below : RunTimeEndian → List ℕ → NameIndex → ℕ → List ℕ
missed_below order s i name = filterb (is_missed order s i) (numbers_from 0 name)

-- one more name
missed_last : (order : RunTimeEndian) (s : List ℕ) (i : NameIndex) (name : ℕ)
    → missed_below order s i (name + 1) ≡ missed_below order s i name ++ cond (is_missed order s i name) (name ∷ []) []
unfolding missed_below
missed_last order s i name =
    let next : name + 1 ≡ suc name = omega arith in
    let here : 0 + name ≡ name = omega arith in
    rw next (rw here at (filter-last (is_missed order s i) 0 name))

-- up to the last name
missed_all : (order : RunTimeEndian) (s : List ℕ) (i : NameIndex) → missed_below order s i i.name_count ≡ missed_names order s i
unfolding missed_below missed_names names_from
missed_all order s i = let all : i.name_count - 0 ≡ i.name_count = omega arith in rw all

-- up to the first missed name
none_below : (order : RunTimeEndian) (s : List ℕ) (i : NameIndex) (first : ℕ) (more : List ℕ) → missed_names order s i ≡ first ∷ more
    → (first ≤ i.name_count) × (missed_below order s i first ≡ [])
unfolding missed_names missed_below names_from
none_below order s i first more e =
    let (above, below, holds, none) = filter-first (is_missed order s i) 0 (i.name_count - 0) first more e in
    (omega arith, filter_none (is_missed order s i) 0 first (λ m h l. none m h (omega arith)))

-- what is kept of these names: how many they are, and the first
unfoldable pub kept : List ℕ → Count
kept [] = record { missed = 0; least = 0 }
kept (name ∷ more) = record { missed = suc (length more); least = name }

kept-length : (names : List ℕ) → (kept names).missed ≡ length names
unfolding kept
kept-length [] = refl
kept-length (name ∷ more) = refl

-- one more behind them
kept-last : (names : List ℕ) (name : ℕ) → kept (names ++ (name ∷ [])) ≡ one_more (kept names) name
unfolding kept one_more
kept-last [] name = refl
kept-last (first ∷ more) name =
    let one_more_lem : length (more ++ (name ∷ [])) ≡ length more + 1 = length-append more (name ∷ []) in
    let longer : suc (length (more ++ (name ∷ []))) ≡ suc (length more) + 1 = omega arith in
    rw (ne_eqb (suc (length more)) 0 (λ e. omega arith), longer)

-- the verdict by what is kept
verdict_none : (hash_of : ℕ → ℕ) (names : List ℕ) → (kept names).missed ≡ 0 → verdict hash_of names ≡ TableCheck.Complete
unfolding kept verdict
verdict_none hash_of [] none = refl
verdict_none hash_of (name ∷ more) none = absurd (omega arith)

verdict-some : (hash_of : ℕ → ℕ) (names : List ℕ) → ((kept names).missed ≡ 0 → ⊥)
    → verdict hash_of names ≡ TableCheck.Incomplete (record { missed = (kept names).missed; name = record { 0 = (kept names).least }; hash = hash_of (kept names).least })
unfolding kept verdict
verdict-some hash_of [] some = absurd (some refl)
verdict-some hash_of (name ∷ more) some = refl

-- the verdict is complete for no names only, and never that there is no table
pub no_table_complete : TableCheck.NoTable ≡ TableCheck.Complete → ⊥
no_table_complete e = let z : ◌≡◌ {A = ℕ} 0 1 = cc in omega arith

pub verdict-complete : (hash_of : ℕ → ℕ) (names : List ℕ) → verdict hash_of names ≡ TableCheck.Complete → names ≡ []
unfolding verdict
verdict-complete hash_of [] e = refl
verdict-complete hash_of (name ∷ more) e = let z : ◌≡◌ {A = ℕ} 0 1 = cc in absurd (omega arith)

pub verdict-table : (hash_of : ℕ → ℕ) (names : List ℕ) → verdict hash_of names ≡ TableCheck.NoTable → ⊥
unfolding verdict
verdict-table hash_of [] e = no_table_complete (sym e)
verdict-table hash_of (name ∷ more) e = let z : ◌≡◌ {A = ℕ} 0 1 = cc in omega arith

-- the verdict tells how many these names are, and so the check tells what the one without a name and a hash does
verdict-told : (hash_of : ℕ → ℕ) (names : List ℕ) → told_by (verdict hash_of names) ≡ told_of (length names)
unfolding verdict
verdict-told hash_of [] = refl
verdict-told hash_of (name ∷ more) = rw (ne_eqb (suc (length more)) 0 (λ e. omega arith))

pub told_as_before : ToldAsBefore
unfolding table_check told_before
told_as_before order s i = fit_or_not (fitted s i)
  where
    rest : Parts → Outcome TableCheck
    rest p =
        cond (eqb i.bucket_count 0) (answered TableCheck.NoTable)
        (refuse_if (any_above i.name_count (stored_start order s p) i.bucket_count) 1 p.hash_table_data >> answered (verdict (stored_hash order s p) (missed_names order s i)))

    told : Parts → Outcome Told
    told p =
        cond (eqb i.bucket_count 0) (answered no_hash_table)
        (refuse_if (any_above i.name_count (stored_start order s p) i.bucket_count) 1 p.hash_table_data >> answered (told_of (length (missed_names order s i))))

    tested : (p : Parts) (t u : Bool)
        → (cond t (answered TableCheck.NoTable) (refuse_if u 1 p.hash_table_data >> answered (verdict (stored_hash order s p) (missed_names order s i))) >>= λ checked. answered (told_by checked))
        ≡ cond t (answered no_hash_table) (refuse_if u 1 p.hash_table_data >> answered (told_of (length (missed_names order s i))))
    tested p true u = refl
    tested p false true = refl
    tested p false false = ap answered (verdict-told (stored_hash order s p) (missed_names order s i))

    fit_or_not : (o : Outcome Parts) → ((o >>= rest) >>= λ checked. answered (told_by checked)) ≡ (o >>= told)
    fit_or_not (answered p) = tested p (eqb i.bucket_count 0) (any_above i.name_count (stored_start order s p) i.bucket_count)
    fit_or_not (refused n v) = refl

-- an index that fits its section, with a hash table whose starts are all at most N + 1
pub record IsTaken (order : RunTimeEndian) (s : List ℕ) (i : NameIndex) : Type 0 where
  pub short : length s ≤ longest
  pub fits : Fits s i
  pub buckets : 0 < i.bucket_count
  pub none_above : any_above i.name_count (stored_start order s (parts i)) i.bucket_count ≡ false

-- what the check has found where it answers: an index without buckets; or such a table, and the verdict on its names
pub check-answered : (order : RunTimeEndian) (s : List ℕ) (i : NameIndex) (a : TableCheck) → table_check order s i ≡ answered a
    → ((i.bucket_count ≡ 0) × (TableCheck.NoTable ≡ a)) ⊎ (IsTaken order s i × (verdict (stored_hash order s (parts i)) (missed_names order s i) ≡ a))
unfolding table_check
check-answered order s i a e =
    let (p, given, rest) = bind_answered (fitted s i) _ a e in
    let (short, fits, same) = fitted-answered s i p given in
    ⊎_elim
    (λ (here, none). inl (eqb-true i.bucket_count 0 here, same_answer none))
    (λ (here, more).
    let (u, inside, said) = then_answered (refuse_if (any_above i.name_count (stored_start order s p) i.bucket_count) 1 p.hash_table_data) _ a more in
    inr (
      record {
        short = short;
        fits = fits;
        buckets = past-other i.bucket_count 0 (omega arith) (eqb-false i.bucket_count 0 here);
        none_above = rw same at (passed (any_above i.name_count (stored_start order s p) i.bucket_count) 1 p.hash_table_data u inside);
      },
      rw same at (same_answer said),
    ))
    (cond_is (eqb i.bucket_count 0) _ _ (answered a) rest)

-- what both loops go by: the segment before a name, and whether the name is missed
module _ (order : RunTimeEndian) (s : List ℕ) (i : NameIndex) where
  abbrev pub walked : ℕ → Segment
  walked name = segment_before i (stored_hash order s (parts i)) name

  pub walked_first : no_segment i ≡ walked 0
  unfolding segment_before
  walked_first = refl

  -- the missed names from a number on
  unfoldable pub missed_from : ℕ → List ℕ
  missed_from name = filterb (is_missed order s i) (names_from i name)

  pub left_all : missed_names order s i ≡ missed_from 0
  unfolding missed_names missed_from
  left_all = refl

  -- those from a name on: with it, where it is missed, and those after it
  left_step : (name : ℕ) → missed_from name ≡ cond (ltb name i.name_count) (cond (is_missed order s i name) (name ∷ missed_from (name + 1)) (missed_from (name + 1))) []
  unfolding missed_from names_from
  left_step name = filter_step (is_missed order s i) i.name_count name

  pub left_on : (name : ℕ) → name < i.name_count → is_missed order s i name ≡ false → missed_from name ≡ missed_from (name + 1)
  left_on name below reached = rw (left_step name, lt-ltb name i.name_count below, reached)

  pub left_found : (name : ℕ) → name < i.name_count → is_missed order s i name ≡ true → missed_from name ≡ name ∷ missed_from (name + 1)
  left_found name below missed = rw (left_step name, lt-ltb name i.name_count below, missed)

  pub left_none : (name : ℕ) → i.name_count ≤ name → missed_from name ≡ []
  left_none name above = rw (left_step name, le-ltb name i.name_count above)

  -- whether a name is reached, by its segment
  pub missed_here : (name : ℕ) → name < i.name_count
      → is_missed order s i name ≡ not (reached_by (nth_of order s (parts i).bucket_data (walked (name + 1)).bucket) (walked (name + 1)).first name)
  unfolding stored_start stored_hash is_missed run
  missed_here name below =
      rw (← of_bucket)
      (ap not (sym (reached_member i (stored_hash order s (parts i)) name (walked (name + 1)) (stored_start order s (parts i) (walked (name + 1)).bucket) (before-all i (stored_hash order s (parts i)) (name + 1)) below)))
    where
      of_bucket : (walked (name + 1)).bucket ≡ bucket_of i (stored_hash order s (parts i) name)
      of_bucket = rw (before_suc i (stored_hash order s (parts i)) name) (followed-bucket i (stored_hash order s (parts i)) name (walked name))

  -- what is kept of the names that were missed before a name
  unfoldable pub kept_before : ℕ → Count
  kept_before name = kept (missed_below order s i name)

  pub kept_on : (name : ℕ) → is_missed order s i name ≡ false → kept_before (name + 1) ≡ kept_before name
  unfolding kept_before
  kept_on name reached = rw (missed_last order s i name, reached) (ap kept (append-nil (missed_below order s i name)))

  pub kept_more : (name : ℕ) → is_missed order s i name ≡ true → kept_before (name + 1) ≡ one_more (kept_before name) name
  unfolding kept_before
  kept_more name missed = rw (missed_last order s i name, missed) (kept-last (missed_below order s i name) name)

  -- no more names are missed than were passed
  pub kept_most : (name : ℕ) → (kept_before name).missed ≤ name
  unfolding missed_below kept_before
  kept_most name =
      let most = filter-length (is_missed order s i) (numbers_from 0 name) in
      rw (kept-length (missed_below order s i name)) (rw (numbers_length 0 name) at most)

  -- the smallest missed name is one of the names that were passed
  pub kept_least : (name : ℕ) → ((kept_before name).missed ≡ 0 → ⊥) → (kept_before name).least < name
  unfolding kept kept_before missed_below
  kept_least name = of_kept (missed_below order s i name) refl
    where
      of_kept : (names : List ℕ) → missed_below order s i name ≡ names → ((kept names).missed ≡ 0 → ⊥) → (kept names).least < name
      of_kept [] e some = absurd (some refl)
      of_kept (first ∷ more) e some = let (above, below, holds, none) = filter-first (is_missed order s i) 0 name first more e in omega arith

  -- up to the first missed name none is missed
  pub kept_first : (first_of i.name_count (missed_names order s i) ≤ i.name_count) × (kept_before (first_of i.name_count (missed_names order s i)) ≡ record { missed = 0; least = 0 })
  unfolding first_of kept_before kept
  kept_first = of_names (missed_names order s i) refl
    where
      of_names : (names : List ℕ) → missed_names order s i ≡ names → (first_of i.name_count names ≤ i.name_count) × (kept (missed_below order s i (first_of i.name_count names)) ≡ record { missed = 0; least = 0 })
      of_names [] e = (omega arith, rw (missed_all order s i ∙ e))
      of_names (first ∷ more) e = let (within, nothing) = none_below order s i first more e in (within, rw nothing)

  -- after the last name the verdict follows from the count
  pub told_complete : (hash_of : ℕ → ℕ) → (kept_before i.name_count).missed ≡ 0 → verdict hash_of (missed_names order s i) ≡ TableCheck.Complete
  unfolding kept_before
  told_complete hash_of none = verdict_none hash_of (missed_names order s i) (rw (missed_all order s i) at none)

  pub told_lost : (hash_of : ℕ → ℕ) → ((kept_before i.name_count).missed ≡ 0 → ⊥)
      → verdict hash_of (missed_names order s i)
      ≡ TableCheck.Incomplete (record { missed = (kept_before i.name_count).missed; name = record { 0 = (kept_before i.name_count).least }; hash = hash_of (kept_before i.name_count).least })
  unfolding kept_before
  told_lost hash_of some = rw (missed_all order s i) (verdict-some hash_of (missed_names order s i) (rw (missed_all order s i) at some))

-- the segment of a name is of a bucket that the index has
pub followed_below : (i : NameIndex) (g : Segment) (name hash : ℕ) → 0 < i.bucket_count → (followed i g name hash).bucket < i.bucket_count
followed_below i g name hash some = rw (followed-bucket i (λ n. hash) name g) (bucket-below i hash some)

-- the parts that `fitted` gives are the index's
pub fitted_parts : (s : List ℕ) (i : NameIndex) (p : Parts) → answered p ≡ fitted s i → p ≡ parts i
fitted_parts s i p given = (fitted-answered s i p (sym given)).2
