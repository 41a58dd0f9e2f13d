-- Demand 3, that nothing is left off a list, for bucket and hash lookups: each one theorem about lists of
-- steps of any length (SPECIFICATION 14.4). The laws `bucket-lookups` and `hash-lookups` of
-- proofs/LookupLaws.antt prove them.
use Rattle.std.specs.Prelude.{ℕ, ◌≡◌, List, map, Ok}
use Rattle.std.specs.Prelude.{Option, Some}
use Rattle.reader.specs.Outcome.{Outcome, answered}
use Rattle.reader.specs.Steps.{Linked, ListsInOrder, answers, Taken}
use Rattle.reader.specs.declared.endianity.RunTimeEndian.{RunTimeEndian}
use Rattle.reader.specs.declared.common.NameTableIndex.{NameTableIndex}
use Rattle.index.specs.declared.layout.NameIndex.{NameIndex}
use Rattle.index.specs.declared.layout.Parts.{Parts}
use Rattle.index.specs.Layout.{parts}
use Rattle.hashes.specs.declared.bucket.NameBucketIter.{NameBucketIter}
use Rattle.hashes.specs.declared.bucket.BucketName.{BucketName}
use Rattle.hashes.specs.declared.hash.NameHashIter.{NameHashIter}
use Rattle.hashes.specs.Table.{run, names_of_hash}
use Rattle.hashes.specs.Lookups.{find_by_bucket, find_by_hash, hashed, bucket_step, hash_step}
use Rattle.reader.specs.Answers.{outcome}
use Rattle.reader.specs.Parts.{Section}

-- what the code's steps answered
abbrev pub bucket_answers : List (Taken BucketName NameBucketIter) → List (Outcome (Option BucketName))
bucket_answers = answers

abbrev pub hash_answers : List (Taken NameTableIndex NameHashIter) → List (Outcome (Option NameTableIndex))
hash_answers = answers

-- a section, in its byte order
module _ (order : RunTimeEndian) (s : Section) where
  -- these names as steps over a bucket answer them, each with its hash
  unfoldable pub bucket_names : Parts → List ℕ → List (Outcome (Option BucketName))
  bucket_names p = map λ n. answered (Some (hashed order s p n))

-- and as steps over a hash do
unfoldable pub hash_names : List ℕ → List (Outcome (Option NameTableIndex))
hash_names = map λ n. answered (Some (record { 0 = n }))

-- If `find_by_bucket` gave the cursor c for a bucket, then whatever list of steps follows, each given the
-- cursor that `find_by_bucket` or the step before it gave: their answers up to the first end are the
-- beginning of the bucket's run, in order and without a gap; and the first end is the first step before which
-- all of the run is answered (`ListsInOrder`).
abbrev pub BucketLookups : Type 0
BucketLookups =
    (order : RunTimeEndian) (s : Section) (i : NameIndex) (bucket : ℕ) (c : NameBucketIter)
    (steps : List (Taken BucketName NameBucketIter))
    → outcome (Ok (Some c)) ≡ find_by_bucket order s i bucket
    → Linked (bucket_step order s i) c steps
    → ListsInOrder (bucket_answers steps) (bucket_names order s (parts i) (run order s i bucket))

-- The same for `find_by_hash`, and the names of the run that store the hash.
abbrev pub HashLookups : Type 0
HashLookups =
    (order : RunTimeEndian) (s : Section) (i : NameIndex) (hash : ℕ) (c : NameHashIter)
    (steps : List (Taken NameTableIndex NameHashIter))
    → outcome (Ok c) ≡ find_by_hash order s i hash
    → Linked (hash_step order s i) c steps
    → ListsInOrder (hash_answers steps) (hash_names (names_of_hash order s i hash))
