-- Demand 3, that nothing is left off a list, for completeness: one theorem, in both directions
-- (SPECIFICATION 14.5). The law `complete_exactly` of proofs/CompleteLaws.antt proves it.
use Rattle.std.specs.Prelude.{ℕ, ◌^◌, ◌<◌, ◌≡◌, true, ◌↔◌, List, Ok}
use Rattle.reader.specs.Numbers.{Bytes}
use Rattle.reader.specs.Steps.{Linked, has_end, up_to_end, Taken}
use Rattle.reader.specs.declared.endianity.RunTimeEndian.{RunTimeEndian}
use Rattle.index.specs.declared.layout.NameIndex.{NameIndex}
use Rattle.hashes.specs.declared.hash.NameHashIter.{NameHashIter}
use Rattle.hashes.specs.Table.{all_storing}
use Rattle.hashes.specs.Lookups.{find_by_hash, hash_step}
use Rattle.hashes.specs.Demand3.{hash_answers, hash_names}
use Rattle.tables.specs.declared.TableCheck.{TableCheck}
use Rattle.tables.specs.Check.{table_check}
use Rattle.reader.specs.Answers.{outcome}
use Rattle.reader.specs.declared.common.NameTableIndex.{NameTableIndex}
use Rattle.reader.specs.Parts.{Section}

-- a section, in its byte order
module _ (order : RunTimeEndian) (s : Section) where
  -- The lookup of a hash lists all names that store it: `find_by_hash` gives a cursor; linked steps of the code
  -- lead from it to an end; and whatever linked steps reach an end, their answers up to the first end are all
  -- the names that store the hash, ascending, each once, and no refusal.
  abbrev pub ListsAll : NameIndex → ℕ → Type 0
  ListsAll i hash =
      (c : NameHashIter)
      × (outcome (Ok c) ≡ find_by_hash order s i hash)
      × ((steps : List (Taken NameTableIndex NameHashIter)) × Linked (hash_step order s i) c steps × (has_end (hash_answers steps) ≡ true))
      × ((steps : List (Taken NameTableIndex NameHashIter)) → Linked (hash_step order s i) c steps → has_end (hash_answers steps) ≡ true
      → up_to_end (hash_answers steps) ≡ hash_names (all_storing order s i hash))

-- The check reports a table complete exactly when the lookup of every hash of 32 bits lists all names that
-- store it. That the section's bytes are bytes and that the number of buckets has 32 bits holds for whatever
-- is lent. It is said of any index: one that does not fit or has no hash table is not reported complete, and
-- its lookups are refused.
abbrev pub CompleteExactly : Type 0
CompleteExactly =
    (order : RunTimeEndian) (s : Section) (i : NameIndex) → Bytes s → i.bucket_count < 2 ^ 32
    → (outcome (Ok TableCheck.Complete) ≡ table_check order s i) ↔ ((hash : ℕ) → hash < 2 ^ 32 → ListsAll order s i hash)
