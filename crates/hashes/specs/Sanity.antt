-- What a reader of the definitions may want to be sure of: when `find_by_bucket` gives none, that more steps
-- than there are names contain an end, and that what this supposes can be had (SPECIFICATION 10.3 and 14.1).
-- The laws of proofs/TableLaws.antt and proofs/LookupLaws.antt that have these types prove them.
use Rattle.std.specs.Prelude.{ℕ, ◌+◌, ◌≤◌, ◌<◌, ◌≡◌, true, ◌↔◌, List, length, take, Option, Some, None, Ok}
use Rattle.reader.specs.Steps.{Linked, has_end, Taken}
use Rattle.reader.specs.declared.endianity.RunTimeEndian.{RunTimeEndian}
use Rattle.index.specs.declared.layout.NameIndex.{NameIndex}
use Rattle.index.specs.Layout.{parts}
use Rattle.hashes.specs.declared.bucket.NameBucketIter.{NameBucketIter}
use Rattle.hashes.specs.declared.hash.NameHashIter.{NameHashIter}
use Rattle.hashes.specs.Table.{stored_start, run, examined}
use Rattle.hashes.specs.Lookups.{find_by_bucket, find_by_hash, bucket_step, hash_step}
use Rattle.hashes.specs.Demand3.{bucket_answers, hash_answers}
use Rattle.reader.specs.Answers.{outcome}
use Rattle.reader.specs.declared.common.NameTableIndex.{NameTableIndex}
use Rattle.hashes.specs.declared.bucket.BucketName.{BucketName}
use Rattle.reader.specs.Parts.{Section}

-- where `find_by_bucket` is not refused, it gives none exactly when the start that is stored for the bucket
-- is 0
abbrev pub NoneAtZero : Type 0
NoneAtZero =
    (order : RunTimeEndian) (s : Section) (i : NameIndex) (bucket : ℕ) (found : Option NameBucketIter)
    → outcome (Ok found) ≡ find_by_bucket order s i bucket
    → (found ≡ None) ↔ (stored_start order s (parts i) bucket ≡ 0)

-- the names examined are those of the run, and at most one more
abbrev pub ExaminedRun : Type 0
ExaminedRun =
    (order : RunTimeEndian) (s : Section) (i : NameIndex) (bucket : ℕ)
    → (take (length (run order s i bucket)) (examined order s i bucket) ≡ run order s i bucket)
    × (length (examined order s i bucket) ≤ length (run order s i bucket) + 1)

-- more steps of a lookup than the index has names contain an end
abbrev pub BucketsEnd : Type 0
BucketsEnd =
    (order : RunTimeEndian) (s : Section) (i : NameIndex) (bucket : ℕ) (c : NameBucketIter)
    (steps : List (Taken BucketName NameBucketIter))
    → outcome (Ok (Some c)) ≡ find_by_bucket order s i bucket
    → Linked (bucket_step order s i) c steps
    → i.name_count < length steps
    → has_end (bucket_answers steps) ≡ true

abbrev pub HashesEnd : Type 0
HashesEnd =
    (order : RunTimeEndian) (s : Section) (i : NameIndex) (hash : ℕ) (c : NameHashIter)
    (steps : List (Taken NameTableIndex NameHashIter))
    → outcome (Ok c) ≡ find_by_hash order s i hash
    → Linked (hash_step order s i) c steps
    → i.name_count < length steps
    → has_end (hash_answers steps) ≡ true

-- what these suppose can be had: the cursor of a lookup has linked steps, as many as one wants
abbrev pub StepsFollow : Type 0
StepsFollow =
    (order : RunTimeEndian) (s : Section) (i : NameIndex) (hash : ℕ) (c : NameHashIter) (n : ℕ)
    → outcome (Ok c) ≡ find_by_hash order s i hash
    → (steps : List (Taken NameTableIndex NameHashIter)) × (length steps ≡ n) × Linked (hash_step order s i) c steps
