-- The hash table of an index: what is stored, runs, and the names of a hash (SPECIFICATION 10.1 and 10.2;
-- DWARF 5, 6.1.1.4.5). `s` is the section and `i` the index, with N names and B buckets, which are counted
-- from 0; `p` tells where its parts lie. Stored are for each bucket a start, 0 for an empty bucket, else one
-- more than the number of its first name, and for each name a hash. A hash belongs to the bucket hash mod B;
-- without buckets, to bucket 0. The run of a bucket with start s is empty if s is 0; else it is the names
-- s - 1, s and so on, below N, as long as the stored hash of each belongs to the bucket. At the first name of
-- another bucket the run is over, even if more names of the bucket come later. The names of a hash are those
-- of its bucket's run that store exactly this hash.
-- In DWARF 5 the names of a bucket stand together; gimli and this reader take tables in which they do not.
use Rattle.std.specs.Prelude.{ℕ, suc, ◌+◌, ◌-◌, ◌*◌, ◌%◌, cond, List, [], length, take, eqb, Option, Some, None}
use Rattle.reader.specs.Outcome.{Outcome, answered, ◌>>=◌}
use Rattle.reader.specs.declared.common.NameTableIndex.{NameTableIndex}
use Rattle.reader.specs.Numbers.{number_at, read_number}
use Rattle.reader.specs.declared.endianity.RunTimeEndian.{RunTimeEndian}
use Rattle.index.specs.declared.layout.NameIndex.{NameIndex}
use Rattle.index.specs.declared.layout.Parts.{Parts}
use Rattle.index.specs.Layout.{parts}
use Rattle.reader.specs.Lists.{numbers_from, filterb, take_while}
use Rattle.reader.specs.Parts.{Section, skipped}

-- the bucket of a hash: the hash modulo B; without buckets gimli looks for bucket 0
unfoldable pub bucket_of : NameIndex → ℕ → ℕ
bucket_of i hash = cond (eqb i.bucket_count 0) 0 (hash % i.bucket_count)

-- the names from a number on, below N
unfoldable pub names_from : NameIndex → ℕ → List ℕ
names_from i name = numbers_from name (i.name_count - name)

-- the names from a number on, as long as each belongs to the bucket; `hash_of` is the hash that is stored for
-- a name
unfoldable pub run_from : NameIndex → (ℕ → ℕ) → ℕ → ℕ → List ℕ
run_from i hash_of bucket name = take_while (λ n. eqb (bucket_of i (hash_of n)) bucket) (names_from i name)

-- the names examined to list these: they, and the name of another bucket that follows them, if one does
unfoldable pub examined_from : NameIndex → (ℕ → ℕ) → ℕ → ℕ → List ℕ
examined_from i hash_of bucket name = take (suc (length (run_from i hash_of bucket name))) (names_from i name)

-- names from a bucket's start on; none where the start is 0
unfoldable pub from_start : ℕ → (ℕ → List ℕ) → List ℕ
from_start start from = cond (eqb start 0) [] (from (start - 1))

-- of these names, those that store the hash
unfoldable pub storing : (ℕ → ℕ) → ℕ → List ℕ → List ℕ
storing hash_of hash = filterb λ n. eqb (hash_of n) hash

-- a section, in its byte order
module _ (order : RunTimeEndian) (s : Section) where
  -- the number of four bytes at a position of a table of such numbers
  unfoldable pub nth_of : ℕ → ℕ → ℕ
  nth_of table position = number_at order 4 s (table + 4 * position)

  -- in an index with these parts, the start that is stored for a bucket: one more than the number of its
  -- first name, and 0 for a bucket without names
  unfoldable pub stored_start : Parts → ℕ → ℕ
  stored_start p = nth_of p.bucket_data

  -- and the hash that is stored for a name
  unfoldable pub stored_hash : Parts → ℕ → ℕ
  stored_hash p = nth_of p.hash_table_data

  -- the same, skipped to and read, as the listing does; none without buckets
  unfoldable pub name_hash : Parts → NameTableIndex → Outcome (Option ℕ)
  name_hash p name = cond (eqb p.index.bucket_count 0)
      (answered None)
      (do
        place ← skipped (4 * name.0) s p.hash_table_data p.name_table_data
        hash ← read_number 4 order s place p.name_table_data
        answered (Some hash.value))

  -- A bucket's run, with start s: names s-1, s and on, below N, as long as each stored hash modulo B is the
  -- bucket.
  unfoldable pub run : NameIndex → ℕ → List ℕ
  run i bucket = from_start (stored_start (parts i) bucket) (run_from i (stored_hash (parts i)) bucket)

  -- the names examined to list a bucket's run
  unfoldable pub examined : NameIndex → ℕ → List ℕ
  examined i bucket = from_start (stored_start (parts i) bucket) (examined_from i (stored_hash (parts i)) bucket)

  -- the names of a hash: those of its bucket's run that store it
  unfoldable pub names_of_hash : NameIndex → ℕ → List ℕ
  names_of_hash i hash = storing (stored_hash (parts i)) hash (run i (bucket_of i hash))

  -- all names that store a hash, in whatever bucket's run they are, ascending
  unfoldable pub all_storing : NameIndex → ℕ → List ℕ
  all_storing i hash = storing (stored_hash (parts i)) hash (names_from i 0)
