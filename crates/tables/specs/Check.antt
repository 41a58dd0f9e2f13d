-- The table check: does each name lie in the run of its own bucket (SPECIFICATION 11)? `s` is the section and
-- `i` the index, N the number of names and B that of buckets; `p` tells where its parts lie. 13 and 14 are
-- tested first. Where B is 0, the answer is that there is no table. Where the start of some bucket is above
-- N + 1, the check is refused with 1 at the beginning of the hashes; all starts are looked at before any name
-- is. A name is missed if it is not in the run of the bucket to which its own stored hash belongs. The table
-- is complete if no name is missed; else it is incomplete, with how many names are missed, the smallest
-- number of a missed name, whatever its bucket, and the hash stored for that name, whole and not its bucket.
-- Names are counted from 0, as in gimli; DWARF 5 counts them from 1, and so does the start that is stored for
-- a bucket. gimli has no table check.
use Rattle.std.specs.Prelude.{ℕ, ◌+◌, Bool, not, cond, List, [], ◌∷◌, length, ltb, eqb}
use Rattle.reader.specs.Outcome.{Outcome, answered, ◌>>=◌, ◌>>◌}
use Rattle.reader.specs.declared.endianity.RunTimeEndian.{RunTimeEndian}
use Rattle.index.specs.declared.layout.NameIndex.{NameIndex}
use Rattle.index.specs.Layout.{parts, fitted}
use Rattle.reader.specs.Lists.{numbers_from, filterb, memberb}
use Rattle.hashes.specs.Table.{stored_start, stored_hash, bucket_of, names_from, run}
use Rattle.tables.specs.declared.TableCheck.{TableCheck}
use Rattle.reader.specs.Errors.{fail_if}
use Rattle.reader.specs.declared.error.Error.TheVariants.{UnexpectedEof}
use Rattle.reader.specs.Parts.{Section}

-- Whether a bucket's start is above N + 1, and whether some bucket has such a start. Which one of several is
-- met makes no difference, since the refusal is the same. A start of N + 1 is one past the last name, and no
-- refusal in gimli.
unfoldable pub start_above : ℕ → (ℕ → ℕ) → ℕ → Bool
start_above names start_of bucket = ltb (names + 1) (start_of bucket)

unfoldable pub any_above : ℕ → (ℕ → ℕ) → ℕ → Bool
any_above names start_of buckets = ltb 0 (length (filterb (start_above names start_of) (numbers_from 0 buckets)))

-- complete where no name is missed; else how many are, the first of them, which has the smallest number, and
-- the hash that is stored for it
unfoldable pub verdict : (ℕ → ℕ) → List ℕ → TableCheck
verdict hash_of [] = TableCheck.Complete
verdict hash_of (name ∷ more) =
    TableCheck.Incomplete (record { missed = length (name ∷ more); name = record { 0 = name }; hash = hash_of name })

-- a section, in its byte order
module _ (order : RunTimeEndian) (s : Section) where
  -- whether a name is not in the run of its own bucket
  unfoldable pub is_missed : NameIndex → ℕ → Bool
  is_missed i name = not (memberb name (run order s i (bucket_of i (stored_hash order s (parts i) name))))

  -- the missed names, in the order of their numbers
  unfoldable pub missed_names : NameIndex → List ℕ
  missed_names i = filterb (is_missed i) (names_from i 0)

  unfoldable pub table_check : NameIndex → Outcome TableCheck
  table_check i = do
    p ← fitted s i
    cond (eqb i.bucket_count 0)
        (answered TableCheck.NoTable)
        (do
          fail_if (any_above i.name_count (stored_start order s p) i.bucket_count) (UnexpectedEof p.hash_table_data)
          answered (verdict (stored_hash order s p) (missed_names i)))
