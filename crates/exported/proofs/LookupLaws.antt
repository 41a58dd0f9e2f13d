-- Demand 3 of the exported bucket and hash lookups: a caller's cursor stands for the names that the code's own cursor stands for.
use Prim.Native.Nat.{ℕ, ◌≤◌, ◌<◌}
use mathlib.Core.Path.{◌≡◌, refl, sym, ap, ◌∙◌}
use mathlib.Core.Bool.{Bool, true, false}
use mathlib.Core.List.{List, ◌∷◌, map}
use native.Mathlib.Omega.{arith}
use lib.ListN.{length}
use lib.Dec.{leb}
use Rattle.std.specs.Prelude.{Option, Some, None}
use Rattle.reader.specs.Outcome.{Outcome, answered, refused, ◌>>=◌, ◌>>◌, refuse_if}
use Rattle.reader.specs.Errors.{longest}
use Rattle.reader.specs.Steps.{ListsInOrder, keeping}
use Rattle.reader.specs.declared.endianity.RunTimeEndian.{RunTimeEndian}
use Rattle.reader.specs.declared.common.NameTableIndex.{NameTableIndex}
use Rattle.reader.proofs.StepLaws.{NextBy, Next, at-end, gives_item, gives_refusal}
use Rattle.index.specs.declared.layout.NameIndex.{NameIndex}
use Rattle.index.specs.declared.layout.Parts.{Parts}
use Rattle.index.specs.Layout.{parts, Fits, fitted}
use Rattle.hashes.specs.declared.bucket.NameBucketIter.{NameBucketIter}
use Rattle.hashes.specs.declared.bucket.BucketName.{BucketName}
use Rattle.hashes.specs.declared.hash.NameHashIter.{NameHashIter}
use Rattle.hashes.specs.Table.{stored_hash, stored_start, bucket_of, run, names_of_hash}
use Rattle.hashes.specs.Lookups.{bucket_cursor, find_by_bucket, find_by_hash, hashed, next_in_bucket, bucket_moved, bucket_step, hash_step}
use Rattle.hashes.specs.Demand3.{bucket_names, hash_names}
use Rattle.hashes.proofs.LookupLaws.{HasBucket, bucket_left, each-name, HasHeld, held_left, hash_left, each-storing, find-answered, run-started, hash-answered, held_started}
use Rattle.handles.specs.declared.DebugNamesHashCursor.{DebugNamesHashCursor}
use Rattle.handles.specs.Handles.{order_of, index_from, iter_from}
use Rattle.handles.proofs.HandleLaws.{cursors_come_back}
use Rattle.answers.specs.declared.DebugNamesAnswer.{DebugNamesAnswer}
use Rattle.answers.specs.Answers.{handed, bucket_answer}
use Rattle.step_answers.specs.declared.DebugNamesBucketStep.{DebugNamesBucketStep}
use Rattle.step_answers.specs.declared.DebugNamesHashStep.{DebugNamesHashStep}
use Rattle.step_answers.specs.Steps.{bucket_step_answer, hash_answer, hash_step_answer}
use Rattle.exported.specs.Demand3.{LinkedCalls, told_by_bucket, told_by_hash, ExportedBuckets, ExportedHashes}
use Rattle.exported.proofs.CallLaws.{calls_list, never_refused}

-- a lookup that gave a name had a cursor before it
name_given : (first : ℕ) (o : Outcome (Option NameBucketIter)) → ◌≡◌ {A = DebugNamesAnswer} (record { status = 0; kind = 1; value = first }) (handed bucket_answer o)
    → (c : NameBucketIter) × (o ≡ answered (Some c)) × (c.name_table_index.0 ≡ first)
name_given first (answered (Some c)) e = (c, refl, sym (ap (λ a. a.value) e))
name_given first (answered None) e = let kind : ◌≡◌ {A = ℕ} 1 0 = ap (λ a. a.kind) e in absurd (omega arith)
name_given first (refused n v) e = let kind : ◌≡◌ {A = ℕ} 1 0 = ap (λ a. a.kind) e in absurd (omega arith)

-- a lookup that gave a cursor's numbers had that cursor
cursor_given : (first : DebugNamesHashCursor) (o : Outcome NameHashIter) → ◌≡◌ {A = DebugNamesHashStep} (record { status = 0; kind = 1; value = 0; next = first }) (hash_answer o) → o ≡ answered (iter_from first)
cursor_given first (answered c) e = ap answered (sym (ap iter_from (ap (λ a. a.next) e) ∙ cursors_come_back c))
cursor_given first (refused n v) e = let kind : ◌≡◌ {A = ℕ} 1 0 = ap (λ a. a.kind) e in absurd (omega arith)

-- a bucket's step keeps the bucket
bucket_kept : (order : RunTimeEndian) (s : List ℕ) (i : NameIndex) (c : NameBucketIter) → (bucket_step order s i c).cursor.bucket_index ≡ c.bucket_index
unfolding bucket_step
bucket_kept order s i c = by_tests (fitted s i) (leb i.bucket_count c.bucket_index)
  where
    by_tests : (o : Outcome Parts) (t : Bool)
        → (keeping c (do
          p ← o
          refuse_if t 14 0
          answered (bucket_moved (hashed order s p) c.bucket_index (next_in_bucket i (stored_hash order s p) c.bucket_index c.name_table_index.0)))).cursor.bucket_index
        ≡ c.bucket_index
    by_tests (answered p) true = refl
    by_tests (answered p) false = refl
    by_tests (refused n v) t = refl

module _ (order : RunTimeEndian) (s : List ℕ) (i : NameIndex) (short : length s ≤ longest) (fits : Fits s i) where
  -- the steps of a bucket: a caller's cursor is the number of a name
  module _ (bucket : ℕ) (below : bucket < i.bucket_count) where
    abbrev at_name : NameTableIndex → NameBucketIter
    at_name name = bucket_cursor bucket name.0

    abbrev next_name : NameTableIndex → DebugNamesBucketStep
    next_name name = bucket_step_answer (bucket_step order s i (at_name name))

    -- any name is a good cursor
    abbrev Any : NameTableIndex → Type 0
    Any name = Unit {0}

    abbrev names_left : NameTableIndex → List (Outcome (Option BucketName))
    names_left name = bucket_left order s i short fits (at_name name)

    -- what is left from a cursor that kept the bucket
    same_left : (c d : NameBucketIter) → d.bucket_index ≡ c.bucket_index → bucket_left order s i short fits d ≡ bucket_left order s i short fits (bucket_cursor c.bucket_index d.name_table_index.0)
    same_left c d e = rw e refl

    each_told : (name : NameTableIndex) → Any name → NextBy told_by_bucket (λ t. t.next) next_name Any names_left name
    unfolding bucket_names
    each_told name any = by_next (each-name order s i short fits (at_name name) below)
      where
        by_next : Next (bucket_step order s i) (HasBucket order s i short fits) (bucket_left order s i short fits) (at_name name) → NextBy told_by_bucket (λ t. t.next) next_name Any names_left name
        by_next (at-end left answer) = at-end left (rw answer refl)
        by_next (gives_item a left answer ready) =
            gives_item a (rw answer (left ∙ ap (λ l. answered (Some a) ∷ l) (same_left (at_name name) (bucket_step order s i (at_name name)).cursor (bucket_kept order s i (at_name name))))) (rw answer refl) tt
        by_next (gives_refusal n v left answer ready) = absurd (never_refused (λ n. Some (hashed order s (parts i) n)) _ n v _ left)

    bucket_calls : (steps : List DebugNamesBucketStep) (name : NameTableIndex) → LinkedCalls next_name (λ t. t.next) name steps → ListsInOrder (map told_by_bucket steps) (names_left name)
    bucket_calls steps name linked = calls_list told_by_bucket (λ t. t.next) next_name Any names_left each_told steps name tt linked

  -- the steps of a hash: a caller's cursor has the numbers of the code's
  abbrev next_storing_name : DebugNamesHashCursor → DebugNamesHashStep
  next_storing_name c = hash_step_answer c (hash_step order s i (iter_from c))

  abbrev Holds : DebugNamesHashCursor → Type 0
  Holds c = HasHeld order s i short fits (iter_from c)

  abbrev storing_left : DebugNamesHashCursor → List (Outcome (Option NameTableIndex))
  storing_left c = hash_left order s i short fits (iter_from c)

  each_found : (c : DebugNamesHashCursor) → Holds c → NextBy told_by_hash (λ t. t.next) next_storing_name Holds storing_left c
  unfolding hash_names
  each_found c has = by_next (each-storing order s i short fits (iter_from c).hash (iter_from c).bucket_iter has)
    where
      by_next : Next (hash_step order s i) (HasHeld order s i short fits) (hash_left order s i short fits) (iter_from c) → NextBy told_by_hash (λ t. t.next) next_storing_name Holds storing_left c
      by_next (at-end left answer) = at-end left (rw answer refl)
      by_next (gives_item a left answer ready) =
          gives_item a (rw (answer, cursors_come_back (hash_step order s i (iter_from c)).cursor) left) (rw answer refl) (rw (answer, cursors_come_back (hash_step order s i (iter_from c)).cursor) ready)
      by_next (gives_refusal n v left answer ready) = absurd (never_refused (λ n. Some (record { 0 = n })) _ n v _ left)

  hash_calls : (steps : List DebugNamesHashStep) (c : DebugNamesHashCursor) → Holds c → LinkedCalls next_storing_name (λ t. t.next) c steps → ListsInOrder (map told_by_hash steps) (storing_left c)
  hash_calls steps c has linked = calls_list told_by_hash (λ t. t.next) next_storing_name Holds storing_left each_found steps c has linked

pub exported-buckets : ExportedBuckets
unfolding run
exported-buckets number s h bucket first steps given linked =
    let order = order_of number in
    let i = index_from h in
    let (c, found, at) = name_given first (find_by_bucket order s i bucket) given in
    let (short, fits, below, inside, same) = find-answered order s i bucket (Some c) found in
    let (here, names) = run-started order s i bucket (stored_start order s (parts i) bucket) c same in
    rw (names, here, at) (bucket_calls order s i short fits bucket below steps (record { 0 = first }) linked)

pub exported-hashes : ExportedHashes
unfolding names_of_hash run
exported-hashes number s h hash first steps given linked =
    let order = order_of number in
    let i = index_from h in
    let c = iter_from first in
    let (in-bucket, same-hash) = hash-answered order s i hash c (cursor_given first (find_by_hash order s i hash) given) in
    let (short, fits, below, inside, same) = find-answered order s i (bucket_of i hash) c.bucket_iter in-bucket in
    let (has, names) = held_started order s i short fits hash (bucket_of i hash) (stored_start order s (parts i) (bucket_of i hash)) c.bucket_iter below same in
    rw (names ∙ ap (λ h. held_left order s i short fits h c.bucket_iter) (sym same-hash)) (hash_calls order s i short fits steps first has linked)
