-- The lookups of a hash table, and their steps (SPECIFICATION 10.3 to 10.6; DWARF 5, 6.1.1.4.5). `s` is the
-- section, `i` the index, with N names and B buckets, and `p` tells where its parts lie. Each call tests 13
-- and 14 first. `find_by_bucket` answers the cursor before the bucket's first name, or none if its start
-- is 0. Refused with 1 are bucket B, at the end of the starts; a larger one, where they begin; and a start
-- above N + 1, where the hashes begin. `find_by_hash` is this lookup of the hash's bucket; its cursor holds
-- no bucket cursor if the bucket is empty.
-- A step is refused with 14 if the cursor's bucket is not below B. Over a bucket it answers the cursor's name
-- and its hash, if that belongs to the bucket, else the end. Over a hash it goes on to the first name that
-- stores the hash, which it answers, or to the first of another bucket, where it answers the end. The cursor
-- is then past that name. Where no name is left, it answers the end, and the cursor stays over a bucket and is
-- at N over a hash (where it is behind N, it stays); without a bucket cursor it answers the end, too.
-- Without buckets DWARF 5 searches all names; gimli and this reader refuse the lookup with 1. Both take a
-- start of N + 1; in both a step after the first end, where a list is over, may answer again.
use Rattle.std.specs.Prelude.{ℕ, ◌+◌, ◌-◌, ◌*◌, cond, List, [], ◌∷◌, length, leb, eqb, Option, Some, None, option_map}
use Rattle.reader.specs.Outcome.{Outcome, answered, ◌>>=◌, ◌>>◌}
use Rattle.reader.specs.Parts.{skipped}
use Rattle.reader.specs.Numbers.{read_number}
use Rattle.reader.specs.Steps.{Step, keeping}
use Rattle.reader.specs.declared.endianity.RunTimeEndian.{RunTimeEndian}
use Rattle.reader.specs.declared.common.NameTableIndex.{NameTableIndex}
use Rattle.index.specs.declared.layout.NameIndex.{NameIndex}
use Rattle.index.specs.declared.layout.Parts.{Parts}
use Rattle.index.specs.Layout.{fitted}
use Rattle.hashes.specs.declared.bucket.NameBucketIter.{NameBucketIter}
use Rattle.hashes.specs.declared.bucket.BucketName.{BucketName}
use Rattle.hashes.specs.declared.hash.NameHashIter.{NameHashIter}
use Rattle.hashes.specs.declared.hash.Found.{Found}
use Rattle.hashes.specs.Table.{stored_hash, bucket_of, run_from, examined_from, storing}
use Rattle.reader.specs.Errors.{fail_if}
use Rattle.reader.specs.declared.error.Error.TheVariants.{DoesNotFit}
use Rattle.reader.specs.Parts.{Section}

-- a bucket's cursor before a name, and a hash's
abbrev pub bucket_cursor : ℕ → ℕ → NameBucketIter
bucket_cursor bucket name = record { name_table_index = record { 0 = name }; bucket_index = bucket }

abbrev pub hash_cursor : ℕ → ℕ → ℕ → NameHashIter
hash_cursor bucket hash name = record { bucket_iter = Some (bucket_cursor bucket name); hash = hash }

-- the cursor before a bucket's first name, if there is one
abbrev pub cursor_before : ℕ → Option ℕ → Option NameBucketIter
cursor_before bucket None = None
cursor_before bucket (Some name) = Some (bucket_cursor bucket name)

-- a search that ended at a name, the number after it next; and one that ended without a name, at the number
-- given
abbrev pub found_at : ℕ → Found
found_at name = record { name = Some name; next = name + 1 }

abbrev pub no_more : ℕ → Found
no_more past = record { name = None; next = past }

-- the first of these names; without one it is the end, at the number given
unfoldable pub first_or : List ℕ → ℕ → Found
first_or [] past = no_more past
first_or (name ∷ names) past = found_at name

-- From a number on, the next name of the bucket, or the next of them that stores the hash. Where there is
-- none, it is the end, past the names examined: at N or above no name is, and else the one of another bucket
-- is the last.
unfoldable pub next_in_bucket : NameIndex → (ℕ → ℕ) → ℕ → ℕ → Found
next_in_bucket i hash_of bucket name = first_or (run_from i hash_of bucket name) (name + length (examined_from i hash_of bucket name))

unfoldable pub next_storing : NameIndex → (ℕ → ℕ) → ℕ → ℕ → ℕ → Found
next_storing i hash_of bucket hash name =
    first_or (storing hash_of hash (run_from i hash_of bucket name)) (name + length (examined_from i hash_of bucket name))

-- what a step answers where the search ended so
abbrev pub bucket_moved : (ℕ → BucketName) → ℕ → Found → Step BucketName NameBucketIter
bucket_moved shown bucket f = record { answer = answered (option_map shown f.name); cursor = bucket_cursor bucket f.next }

abbrev pub hash_moved : ℕ → ℕ → Found → Step NameTableIndex NameHashIter
hash_moved bucket hash f = record {
  answer = answered (option_map (λ name. record { 0 = name }) f.name);
  cursor = hash_cursor bucket hash f.next;
}

-- a section, in its byte order
module _ (order : RunTimeEndian) (s : Section) where
  -- a bucket's first name, in an index whose parts are `p`: the bucket's start is skipped to and read; 0 is
  -- none; then the hashes before the first name are skipped
  unfoldable pub first_in_bucket : Parts → ℕ → Outcome (Option ℕ)
  first_in_bucket p bucket = do
    place ← skipped (4 * bucket) s p.bucket_data p.hash_table_data
    start ← read_number 4 order s place p.hash_table_data
    cond (eqb start.value 0)
        (answered None)
        (do
          skipped (4 * (start.value - 1)) s p.hash_table_data p.name_table_data
          answered (Some (start.value - 1)))

  -- `find_by_bucket`: the cursor before the bucket's first name
  unfoldable pub find_by_bucket : NameIndex → ℕ → Outcome (Option NameBucketIter)
  find_by_bucket i bucket = do
    p ← fitted s i
    first ← first_in_bucket p bucket
    answered (cursor_before bucket first)

  -- `find_by_hash`: the lookup of the hash's bucket
  unfoldable pub find_by_hash : NameIndex → ℕ → Outcome NameHashIter
  find_by_hash i hash = do
    found ← find_by_bucket i (bucket_of i hash)
    answered (record { bucket_iter = found; hash = hash })

  -- a name and its hash, as a step over a bucket shows it
  abbrev pub hashed : Parts → ℕ → BucketName
  hashed p name = record { name = record { 0 = name }; hash = stored_hash order s p name }

  -- The steps. 13 and 14 of the index are tested first, then that the bucket is below B.
  unfoldable pub bucket_step : NameIndex → NameBucketIter → Step BucketName NameBucketIter
  bucket_step i c = keeping c (do
    p ← fitted s i
    fail_if (leb i.bucket_count c.bucket_index) DoesNotFit
    answered (bucket_moved (hashed p) c.bucket_index (next_in_bucket i (stored_hash order s p) c.bucket_index c.name_table_index.0)))

  -- a hash's cursor that holds no bucket cursor is at its end
  abbrev hash_step_in : NameIndex → Parts → NameHashIter → Option NameBucketIter → Outcome (Step NameTableIndex NameHashIter)
  hash_step_in i p c None = answered (record { answer = answered None; cursor = c })
  hash_step_in i p c (Some b) = do
    fail_if (leb i.bucket_count b.bucket_index) DoesNotFit
    answered (hash_moved b.bucket_index c.hash (next_storing i (stored_hash order s p) b.bucket_index c.hash b.name_table_index.0))

  unfoldable pub hash_step : NameIndex → NameHashIter → Step NameTableIndex NameHashIter
  hash_step i c = keeping c (do
    p ← fitted s i
    hash_step_in i p c c.bucket_iter)
