-- The counts of an index (SPECIFICATION 7.1). `s` is the section and `i` the index. Each call tests 13 and 14
-- first; then a count is the one that the index has, whatever the bytes are. Type units are the local and the
-- foreign ones together. An index has a hash table if it has a bucket.
-- In gimli the number of type units may be too large for its type; in an index that fits it is not.
use Rattle.std.specs.Prelude.{ℕ, ◌+◌, Bool, ltb}
use Rattle.reader.specs.Outcome.{Outcome, answered, ◌>>◌}
use Rattle.index.specs.declared.layout.NameIndex.{NameIndex}
use Rattle.index.specs.Layout.{fitted}
use Rattle.reader.specs.Parts.{Section}

-- what a call answers of an index that fits
unfoldable pub of_fitting : {A : Type 0} → (NameIndex → A) → Section → NameIndex → Outcome A
of_fitting says s i = do
  fitted s i
  answered (says i)

unfoldable pub compile_unit_count_of : Section → NameIndex → Outcome ℕ
compile_unit_count_of = of_fitting λ i. i.compile_unit_count

unfoldable pub local_type_unit_count_of : Section → NameIndex → Outcome ℕ
local_type_unit_count_of = of_fitting λ i. i.local_type_unit_count

unfoldable pub foreign_type_unit_count_of : Section → NameIndex → Outcome ℕ
foreign_type_unit_count_of = of_fitting λ i. i.foreign_type_unit_count

-- local and foreign
unfoldable pub type_unit_count : Section → NameIndex → Outcome ℕ
type_unit_count = of_fitting λ i. i.local_type_unit_count + i.foreign_type_unit_count

unfoldable pub bucket_count_of : Section → NameIndex → Outcome ℕ
bucket_count_of = of_fitting λ i. i.bucket_count

unfoldable pub name_count_of : Section → NameIndex → Outcome ℕ
name_count_of = of_fitting λ i. i.name_count

-- an index has a hash table if it has a bucket
unfoldable pub has_hash_table : Section → NameIndex → Outcome Bool
has_hash_table = of_fitting λ i. ltb 0 i.bucket_count
