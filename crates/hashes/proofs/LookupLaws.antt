-- Laws of the lookups: what `find_by_bucket` and `find_by_hash` give; and demand 3 for bucket and hash lookups.
use Prim.Native.Nat.{ℕ, zero, suc, ◌+◌, ◌-◌, ◌*◌, ◌≤◌, ◌<◌}
use mathlib.Core.Path.{◌≡◌, refl, sym, ap, ◌∙◌}
use mathlib.Core.Bool.{Bool, true, false, cond}
use mathlib.Core.Logic.{◌↔◌}
use mathlib.Core.List.{List, [], ◌∷◌}
use Rattle.std.specs.Prelude.{Option, Some, None, Ok, option_map}
use native.Mathlib.Omega.{arith}
use lib.ListN.{length, length-map}
use lib.Dec.{ltb, leb, eqb}
use borrow.Author.Tests.{ltb-true, ltb-false, lt-ltb, lt-leb, eqb-true, eqb-false}
use Rattle.reader.specs.Outcome.{Outcome, answered, refused, ◌>>=◌, ◌>>◌}
use Rattle.reader.specs.Errors.{longest}
use Rattle.reader.specs.Parts.{part_end, skipped}
use Rattle.reader.specs.Numbers.{read_number, number_at}
use Rattle.reader.specs.Steps.{Linked, no_steps, step_then, has_end, ListsInOrder, answers, Taken, step_of}
use Rattle.reader.specs.declared.endianity.RunTimeEndian.{RunTimeEndian}
use Rattle.reader.specs.declared.common.NameTableIndex.{NameTableIndex}
use Rattle.reader.proofs.OutcomeLaws.{refused-answered, same_answer, bind_answered}
use Rattle.reader.proofs.PartLaws.{skip_answered, skip_inside, skip_past}
use Rattle.reader.proofs.NumberLaws.{read_answered, number_read}
use Rattle.reader.proofs.StepLaws.{Next, at-end, gives_item, steps_list}
use Rattle.index.specs.declared.layout.NameIndex.{NameIndex}
use Rattle.index.specs.Layout.{parts, Fits, fitted}
use Rattle.index.proofs.LayoutLaws.{fitted-answered, fitted-fits}
use Rattle.hashes.specs.declared.bucket.NameBucketIter.{NameBucketIter}
use Rattle.hashes.specs.declared.bucket.BucketName.{BucketName}
use Rattle.hashes.specs.declared.hash.NameHashIter.{NameHashIter}
use Rattle.reader.specs.Lists.{filterb}
use Rattle.hashes.specs.Table.{nth_of, stored_start, stored_hash, bucket_of, run_from, examined_from, from_start, run, storing, names_of_hash}
use Rattle.hashes.specs.Lookups.{bucket_cursor, hash_cursor, first_in_bucket, cursor_before, find_by_bucket, find_by_hash, first_or, found_at, no_more, next_in_bucket, next_storing, hashed, bucket_moved, hash_moved, bucket_step, hash_step}
use Rattle.hashes.specs.Demand3.{bucket_answers, hash_answers, bucket_names, hash_names, BucketLookups, HashLookups}
use Rattle.hashes.specs.Sanity.{NoneAtZero, BucketsEnd, HashesEnd, StepsFollow}
use Rattle.hashes.proofs.TableLaws.{hashes_end, buckets-end, strings_inside, run_step, next_in_step, storing-rest, run_length, hash-names-length}

-- what stands for a stored start: none for 0, else the cursor before the first name
unfoldable pub started : ℕ → ℕ → Option NameBucketIter
started bucket start = cond (eqb start 0) None (Some (bucket_cursor bucket (start - 1)))

module _ (order : RunTimeEndian) (s : List ℕ) (i : NameIndex) where
  -- the lookup of a bucket that the index has: a start above N + 1 is refused
  pub find-fits : (bucket : ℕ) → length s ≤ longest → Fits s i → bucket < i.bucket_count
      → find_by_bucket order s i bucket
      ≡ cond (ltb (i.name_count + 1) (stored_start order s (parts i) bucket)) (refused 1 (parts i).hash_table_data) (answered (started bucket (stored_start order s (parts i) bucket)))
  unfolding find_by_bucket first_in_bucket stored_start nth_of started
  find-fits bucket short fits below =
      rw (
        fitted-fits s i short fits,
        skip_inside (4 * bucket) s (parts i).bucket_data (parts i).hash_table_data (omega (arith, room)),
        number_read 4 order s ((parts i).bucket_data + 4 * bucket) (parts i).hash_table_data room,
      )
      (by_start (number_at order 4 s ((parts i).bucket_data + 4 * bucket)))
    where
      ends : (parts i).hash_table_data ≡ (parts i).bucket_data + 4 * i.bucket_count
      ends = buckets-end i

      last : (parts i).name_table_data ≡ (parts i).hash_table_data + 4 * i.name_count
      last = hashes_end i (omega arith)

      inside : (parts i).name_table_data ≤ length s
      inside = strings_inside s i fits

      room : (parts i).bucket_data + 4 * bucket + 4 ≤ part_end s (parts i).hash_table_data
      room = omega (arith, ends, last, inside)

      by_start : (start : ℕ)
          → (cond (eqb start 0) (answered None) (skipped (4 * (start - 1)) s (parts i).hash_table_data (parts i).name_table_data >> answered (Some (start - 1))) >>= λ first. answered (cursor_before bucket first))
          ≡ cond (ltb (i.name_count + 1) start) (refused 1 (parts i).hash_table_data) (answered (started bucket start))
      by_start start = tested (eqb start 0) (ltb (i.name_count + 1) start) refl refl
        where
          tested : (t u : Bool) → eqb start 0 ≡ t → ltb (i.name_count + 1) start ≡ u
              → (cond t (answered None) (skipped (4 * (start - 1)) s (parts i).hash_table_data (parts i).name_table_data >> answered (Some (start - 1))) >>= λ first. answered (cursor_before bucket first))
              ≡ cond u (refused 1 (parts i).hash_table_data) (answered (cond t None (Some (bucket_cursor bucket (start - 1)))))
          tested true true e f = absurd (omega (arith, eqb-true start 0 e, ltb-true (i.name_count + 1) start f))
          tested true false e f = refl
          tested false true e f = rw (skip_past (4 * (start - 1)) s (parts i).hash_table_data (parts i).name_table_data (omega (arith, last, ltb-true (i.name_count + 1) start f)))
          tested false false e f = rw (skip_inside (4 * (start - 1)) s (parts i).hash_table_data (parts i).name_table_data (omega (arith, last, inside, ltb-false (i.name_count + 1) start f)))

  -- what an answered lookup says
  pub find-answered : (bucket : ℕ) (found : Option NameBucketIter) → find_by_bucket order s i bucket ≡ answered found
      → (length s ≤ longest) × Fits s i × (bucket < i.bucket_count) × (stored_start order s (parts i) bucket ≤ i.name_count + 1) × (found ≡ started bucket (stored_start order s (parts i) bucket))
  unfolding find_by_bucket first_in_bucket
  find-answered bucket found given =
      let (short, fits, below) = bounds given in
      let (inside, same) = taken (ltb (i.name_count + 1) (stored_start order s (parts i) bucket)) refl (sym (find-fits bucket short fits below) ∙ given) in
      (short, fits, below, inside, same)
    where
      bounds : find_by_bucket order s i bucket ≡ answered found → (length s ≤ longest) × Fits s i × (bucket < i.bucket_count)
      bounds e =
          let (p, fits, rest) = bind_answered (fitted s i) _ found e in
          let (first, began, rest₀) = bind_answered (first_in_bucket order s p bucket) _ found rest in
          let (at, skip, rest₁) = bind_answered (skipped (4 * bucket) s p.bucket_data p.hash_table_data) _ first began in
          let (start, read, rest₂) = bind_answered (read_number 4 order s at p.hash_table_data) _ first rest₁ in
          let (short, inside, same) = fitted-answered s i p fits in
          let (here, place_is) = skip_answered (4 * bucket) s p.bucket_data p.hash_table_data at skip in
          let (room, value, next) = read_answered 4 order s at p.hash_table_data start read in
          let begins = ap (λ q. q.bucket_data) same in
          let stops = ap (λ q. q.hash_table_data) same in
          let ends = buckets-end i in
          (short, inside, omega (arith, begins, stops, ends, place_is, room))

      taken : (t : Bool) → ltb (i.name_count + 1) (stored_start order s (parts i) bucket) ≡ t
          → cond t (refused 1 (parts i).hash_table_data) (answered (started bucket (stored_start order s (parts i) bucket))) ≡ answered found
          → (stored_start order s (parts i) bucket ≤ i.name_count + 1) × (found ≡ started bucket (stored_start order s (parts i) bucket))
      taken true e h = absurd (refused-answered h)
      taken false e h = (ltb-false _ _ e, sym (same_answer h))

none_some : {c : NameBucketIter} → None ≡ Some c → ⊥
none_some e = let z : ◌≡◌ {A = ℕ} 0 1 = cc in omega arith

pub none_at_zero : NoneAtZero
unfolding started
none_at_zero order s i bucket found given =
    let (short, fits, below, inside, same) = find-answered order s i bucket found (sym given) in
    by_start (stored_start order s (parts i) bucket) same
  where
    by_start : (start : ℕ) → found ≡ started bucket start → (found ≡ None) ↔ (start ≡ 0)
    by_start start same = tested (eqb start 0) refl same
      where
        tested : (t : Bool) → eqb start 0 ≡ t → found ≡ cond t None (Some (bucket_cursor bucket (start - 1))) → (found ≡ None) ↔ (start ≡ 0)
        tested true e h = (λ f. eqb-true start 0 e, λ f. h)
        tested false e h = (λ f. absurd (none_some (sym f ∙ h)), λ f. absurd (eqb-false start 0 e f))

-- Demand 3. A cursor of a lookup stands for the names of its bucket from its number on, or for those of them that store its hash.
module _ (order : RunTimeEndian) (s : List ℕ) (i : NameIndex) (short : length s ≤ longest) (fits : Fits s i) where
  abbrev pub HasBucket : NameBucketIter → Type 0
  HasBucket c = c.bucket_index < i.bucket_count

  abbrev pub bucket_left : NameBucketIter → List (Outcome (Option BucketName))
  bucket_left c = bucket_names order s (parts i) (run_from i (stored_hash order s (parts i)) c.bucket_index c.name_table_index.0)

  bucket_step_lem : (c : NameBucketIter) → HasBucket c
      → bucket_step order s i c ≡ bucket_moved (hashed order s (parts i)) c.bucket_index (next_in_bucket i (stored_hash order s (parts i)) c.bucket_index c.name_table_index.0)
  unfolding bucket_step
  bucket_step_lem c below = rw (fitted-fits s i short fits, lt-leb i.bucket_count c.bucket_index below)

  pub each-name : (c : NameBucketIter) → HasBucket c → Next (bucket_step order s i) HasBucket bucket_left c
  unfolding bucket_names
  each-name c below =
      tested (leb i.name_count name) (eqb (bucket_of i (stored_hash order s (parts i) name)) c.bucket_index) (run_step i (stored_hash order s (parts i)) c.bucket_index name)
      (rw (bucket_step_lem c below, next_in_step i (stored_hash order s (parts i)) c.bucket_index name))
    where
      name : ℕ
      name = c.name_table_index.0

      tested : (t u : Bool)
          → run_from i (stored_hash order s (parts i)) c.bucket_index name ≡ cond t [] (cond u (name ∷ run_from i (stored_hash order s (parts i)) c.bucket_index (name + 1)) [])
          → bucket_step order s i c ≡ bucket_moved (hashed order s (parts i)) c.bucket_index (cond t (no_more name) (cond u (found_at name) (no_more (name + 1))))
          → Next (bucket_step order s i) HasBucket bucket_left c
      tested true u left step = at-end (rw left) (ap (λ t. t.answer) step)
      tested false true left step = gives_item (hashed order s (parts i) name) (rw (step, left)) (ap (λ t. t.answer) step) (rw step below)
      tested false false left step = at-end (rw left) (ap (λ t. t.answer) step)

  abbrev pub Held : Option NameBucketIter → Type 0
  Held None = Unit {0}
  Held (Some b) = HasBucket b

  abbrev pub HasHeld : NameHashIter → Type 0
  HasHeld c = Held c.bucket_iter

  abbrev pub held_left : ℕ → Option NameBucketIter → List ℕ
  held_left hash None = []
  held_left hash (Some b) = storing (stored_hash order s (parts i)) hash (run_from i (stored_hash order s (parts i)) b.bucket_index b.name_table_index.0)

  abbrev pub hash_left : NameHashIter → List (Outcome (Option NameTableIndex))
  hash_left c = hash_names (held_left c.hash c.bucket_iter)

  abbrev pub holding : ℕ → Option NameBucketIter → NameHashIter
  holding hash held = record { bucket_iter = held; hash = hash }

  hash_step_lem : (hash : ℕ) (b : NameBucketIter) → HasBucket b
      → hash_step order s i (holding hash (Some b))
      ≡ hash_moved b.bucket_index hash (next_storing i (stored_hash order s (parts i)) b.bucket_index hash b.name_table_index.0)
  unfolding hash_step
  hash_step_lem hash b below = rw (fitted-fits s i short fits, lt-leb i.bucket_count b.bucket_index below)

  -- a cursor that holds no bucket cursor stays at its end
  hash_stays : (hash : ℕ) → hash_step order s i (holding hash None) ≡ record { answer = answered None; cursor = holding hash None }
  unfolding hash_step
  hash_stays hash = rw (fitted-fits s i short fits)

  pub each-storing : (hash : ℕ) (held : Option NameBucketIter) → Held held → Next (hash_step order s i) HasHeld hash_left (holding hash held)
  unfolding hash_names next_storing first_or
  each-storing hash None below = at-end refl (ap (λ t. t.answer) (hash_stays hash))
  each-storing hash (Some b) below = found (held_left hash (Some b)) refl (hash_step_lem hash b below)
    where
      past : ℕ
      past = b.name_table_index.0 + length (examined_from i (stored_hash order s (parts i)) b.bucket_index b.name_table_index.0)

      found : (names : List ℕ) → held_left hash (Some b) ≡ names
          → hash_step order s i (holding hash (Some b)) ≡ hash_moved b.bucket_index hash (first_or (held_left hash (Some b)) past)
          → Next (hash_step order s i) HasHeld hash_left (holding hash (Some b))
      found [] left step = at-end (rw left) (ap (λ t. t.answer) (rw left at step))
      found (name ∷ names) left step =
          let moved = rw left at step in
          let after = storing-rest i (stored_hash order s (parts i)) b.bucket_index hash b.name_table_index.0 name names left in
          gives_item (record { 0 = name }) (rw (moved, left, after)) (ap (λ t. t.answer) moved) (rw moved below)

  -- the code's answer for a step, and what its cursor holds
  answer_held : (hash : ℕ) (held : Option NameBucketIter) → Held held
      → (t : Taken NameTableIndex NameHashIter) × (step_of t.answer t.cursor ≡ hash_step order s i (holding hash held)) × HasHeld t.cursor
  answer_held hash None below = (record { answer = Ok None; cursor = holding hash None }, sym (hash_stays hash), tt)
  answer_held hash (Some b) below =
      let f = next_storing i (stored_hash order s (parts i)) b.bucket_index hash b.name_table_index.0 in
      (record { answer = Ok (option_map (λ name. record { 0 = name }) f.name); cursor = hash_cursor b.bucket_index hash f.next }, sym (hash_step_lem hash b below), below)

  follow : (n : ℕ) (c : NameHashIter) → HasHeld c → (steps : List (Taken NameTableIndex NameHashIter)) × (length steps ≡ n) × Linked (hash_step order s i) c steps
  follow zero c has = ([], refl, no_steps)
  follow (suc n) c has =
      let (r, is, held) = answer_held c.hash c.bucket_iter has in
      let (steps, count, linked) = follow n r.cursor held in
      (r ∷ steps, ap suc count, step_then is linked)

-- a cursor that `find_by_bucket` gave stands for the bucket's run
pub run-started : (order : RunTimeEndian) (s : List ℕ) (i : NameIndex) (bucket start : ℕ) (c : NameBucketIter) → Some c ≡ started bucket start
    → (c.bucket_index ≡ bucket) × (from_start start (run_from i (stored_hash order s (parts i)) bucket) ≡ run_from i (stored_hash order s (parts i)) c.bucket_index c.name_table_index.0)
unfolding started from_start
run-started order s i bucket start c = tested (eqb start 0)
  where
    tested : (t : Bool) → Some c ≡ cond t None (Some (bucket_cursor bucket (start - 1)))
        → (c.bucket_index ≡ bucket) × (cond t [] (run_from i (stored_hash order s (parts i)) bucket (start - 1)) ≡ run_from i (stored_hash order s (parts i)) c.bucket_index c.name_table_index.0)
    tested true e = absurd (none_some (sym e))
    tested false e =
        let same : c ≡ bucket_cursor bucket (start - 1) = cc in
        (ap (λ c. c.bucket_index) same, rw same)

pub bucket-lookups : BucketLookups
unfolding run
bucket-lookups order s i bucket c steps given linked =
    let (short, fits, below, inside, same) = find-answered order s i bucket (Some c) (sym given) in
    let (here, names) = run-started order s i bucket (stored_start order s (parts i) bucket) c same in
    rw names
    (steps_list (bucket_step order s i) (HasBucket order s i short fits) (bucket_left order s i short fits) (each-name order s i short fits) steps c (rw here below) linked)

-- the same for a hash's cursor
pub held_started : (order : RunTimeEndian) (s : List ℕ) (i : NameIndex) (short : length s ≤ longest) (fits : Fits s i) (hash bucket start : ℕ) (held : Option NameBucketIter) → bucket < i.bucket_count → held ≡ started bucket start
    → Held order s i short fits held × (storing (stored_hash order s (parts i)) hash (from_start start (run_from i (stored_hash order s (parts i)) bucket)) ≡ held_left order s i short fits hash held)
unfolding started from_start storing filterb
held_started order s i short fits hash bucket start held below same = tested (eqb start 0) same
  where
    tested : (t : Bool) → held ≡ cond t None (Some (bucket_cursor bucket (start - 1)))
        → Held order s i short fits held × (storing (stored_hash order s (parts i)) hash (cond t [] (run_from i (stored_hash order s (parts i)) bucket (start - 1))) ≡ held_left order s i short fits hash held)
    tested true e = rw e (tt, refl)
    tested false e = rw e (below, refl)

-- what an answered `find_by_hash` says
pub hash-answered : (order : RunTimeEndian) (s : List ℕ) (i : NameIndex) (hash : ℕ) (c : NameHashIter) → find_by_hash order s i hash ≡ answered c
    → (find_by_bucket order s i (bucket_of i hash) ≡ answered c.bucket_iter) × (c.hash ≡ hash)
unfolding find_by_hash
hash-answered order s i hash c e =
    let (found, given, same) = bind_answered (find_by_bucket order s i (bucket_of i hash)) _ c e in
    let is = same_answer same in
    (given ∙ ap (λ c. answered c.bucket_iter) is, ap (λ c. c.hash) (sym is))

pub hash-lookups : HashLookups
unfolding names_of_hash run
hash-lookups order s i hash c steps given linked =
    let (found, same-hash) = hash-answered order s i hash c (sym given) in
    let (short, fits, below, inside, same) = find-answered order s i (bucket_of i hash) c.bucket_iter found in
    let (has, names) = held_started order s i short fits hash (bucket_of i hash) (stored_start order s (parts i) (bucket_of i hash)) c.bucket_iter below same in
    rw (names ∙ ap (λ h. held_left order s i short fits h c.bucket_iter) (sym same-hash))
    (steps_list (hash_step order s i) (HasHeld order s i short fits) (hash_left order s i short fits) (λ c. each-storing order s i short fits c.hash c.bucket_iter) steps c has linked)

pub steps_follow : StepsFollow
steps_follow order s i hash c n given =
    let (found, same-hash) = hash-answered order s i hash c (sym given) in
    let (short, fits, below, inside, same) = find-answered order s i (bucket_of i hash) c.bucket_iter found in
    let (has, names) = held_started order s i short fits hash (bucket_of i hash) (stored_start order s (parts i) (bucket_of i hash)) c.bucket_iter below same in
    follow order s i short fits n c has

-- an end is among more answers than there are names
ends-past : {A : Type 0} (answers expected : List (Outcome (Option A))) (n : ℕ) → ListsInOrder answers expected → length expected ≤ n → n < length answers → has_end answers ≡ true
ends-past answers expected n (same, end) most more = end ∙ lt-ltb (length expected) (length answers) (omega arith)

pub buckets_have_end : BucketsEnd
unfolding bucket_names
buckets_have_end order s i bucket c steps given linked more =
    ends-past (bucket_answers steps) (bucket_names order s (parts i) (run order s i bucket)) i.name_count (bucket-lookups order s i bucket c steps given linked)
    (rw length-map (run_length order s i bucket)) (rw length-map more)

pub hashes_have_end : HashesEnd
unfolding hash_names
hashes_have_end order s i hash c steps given linked more =
    ends-past (hash_answers steps) (hash_names (names_of_hash order s i hash)) i.name_count (hash-lookups order s i hash c steps given linked)
    (rw length-map (hash-names-length order s i hash)) (rw length-map more)
