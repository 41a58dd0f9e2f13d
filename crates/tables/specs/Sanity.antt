-- What is proved of the missed names and of the table check's answers: which names are missed, which of them
-- an answer names, and that a lookup does not list that one (SPECIFICATION 11.1). The laws `missed_exactly`
-- and `told_as_before` of proofs/CheckLaws.antt and those of proofs/LostLaws.antt prove it.
use Rattle.std.specs.Prelude.{ℕ, ◌≤◌, ◌<◌, ◌≡◌, true, false, cond, ◌↔◌, ◌⊎◌, List, length, eqb, Ok, Err, Result}
use Rattle.reader.specs.Outcome.{Outcome, answered, ◌>>=◌, ◌>>◌}
use Rattle.reader.specs.Lists.{memberb}
use Rattle.reader.specs.Steps.{Linked, has_end, up_to_end, Taken}
use Rattle.reader.specs.declared.endianity.RunTimeEndian.{RunTimeEndian}
use Rattle.reader.specs.declared.error.Error.{Error}
use Rattle.index.specs.declared.layout.NameIndex.{NameIndex}
use Rattle.index.specs.Layout.{parts, fitted}
use Rattle.hashes.specs.declared.hash.NameHashIter.{NameHashIter}
use Rattle.hashes.specs.Table.{stored_start, stored_hash, bucket_of, run, all_storing}
use Rattle.hashes.specs.Lookups.{find_by_hash, hash_step}
use Rattle.hashes.specs.Demand3.{hash_answers, hash_names}
use Rattle.tables.specs.declared.Incomplete.{Incomplete}
use Rattle.tables.specs.declared.TableCheck.{TableCheck}
use Rattle.tables.specs.Check.{any_above, missed_names, table_check}
use Rattle.reader.specs.Answers.{outcome}
use Rattle.reader.specs.declared.common.NameTableIndex.{NameTableIndex}
use Rattle.reader.specs.Parts.{Section}
use Rattle.reader.specs.Errors.{fail_if}
use Rattle.reader.specs.declared.error.Error.TheVariants.{UnexpectedEof}

-- The missed names are the names of the index that the run of their own bucket does not reach, and no other
-- number. That each stands once is plain from the definition: they are picked from 0, 1 and on, below N.
abbrev pub MissedExactly : Type 0
MissedExactly =
    (order : RunTimeEndian) (s : Section) (i : NameIndex) (name : ℕ)
    → (memberb name (missed_names order s i) ≡ true)
    ↔ ((name < i.name_count) × (memberb name (run order s i (bucket_of i (stored_hash order s (parts i) name))) ≡ false))

-- What the check tells without the name and the hash: that there is no hash table, that it is complete, or
-- how many names are missed.
pub data Told : Type 0 where
  no_hash_table : Told
  all-reached : Told
  missing : ℕ → Told

abbrev pub told_by : TableCheck → Told
told_by TableCheck.NoTable = no_hash_table
told_by TableCheck.Complete = all-reached
told_by (TableCheck.Incomplete lost) = missing lost.missed

-- a check that tells no more, in the order of SPECIFICATION 11.1: complete if 0 names are missed
abbrev pub told_of : ℕ → Told
told_of missed = cond (eqb missed 0) all-reached (missing missed)

-- a section, in its byte order
module _ (order : RunTimeEndian) (s : Section) where
  unfoldable pub told_before : NameIndex → Outcome Told
  told_before i = do
    p ← fitted s i
    cond (eqb i.bucket_count 0)
        (answered no_hash_table)
        (do
          fail_if (any_above i.name_count (stored_start order s p) i.bucket_count) (UnexpectedEof p.hash_table_data)
          answered (told_of (length (missed_names order s i))))

-- The name and the hash are added to an incomplete answer, and nothing else is changed: no table, complete,
-- the number of missed names and every refusal are those of the check that tells no more.
abbrev pub ToldAsBefore : Type 0
ToldAsBefore =
    (order : RunTimeEndian) (s : Section) (i : NameIndex)
    → (table_check order s i >>= λ checked. answered (told_by checked)) ≡ told_before order s i

-- Where a name of an index with a hash table is missed, the check says so, or refuses.
abbrev pub MissedTold : Type 0
MissedTold =
    (order : RunTimeEndian) (s : Section) (i : NameIndex) (name : ℕ) (r : Result TableCheck Error)
    → 0 < i.bucket_count → memberb name (missed_names order s i) ≡ true → outcome r ≡ table_check order s i
    → ((lost : Incomplete) × (r ≡ Ok (TableCheck.Incomplete lost))) ⊎ ((e : Error) × (r ≡ Err e))

-- Where it says incomplete: `missed` is how many names are missed; `name` is one of them, and none of them
-- has a smaller number; and `hash` is the one that is stored for it.
abbrev pub LostLeast : Type 0
LostLeast =
    (order : RunTimeEndian) (s : Section) (i : NameIndex) (lost : Incomplete)
    → outcome (Ok (TableCheck.Incomplete lost)) ≡ table_check order s i
    → (lost.missed ≡ length (missed_names order s i))
    × (memberb lost.name.0 (missed_names order s i) ≡ true)
    × ((name : ℕ) → memberb name (missed_names order s i) ≡ true → lost.name.0 ≤ name)
    × (lost.hash ≡ stored_hash order s (parts i) lost.name.0)

-- a section, in its byte order
module _ (order : RunTimeEndian) (s : Section) where
  -- The lookup of a hash lists names, but not this one: `find_by_hash` gives a cursor; linked steps of the code
  -- lead from it to an end; and whatever linked steps reach an end, their answers up to the first end are
  -- names, and this one is not among them.
  abbrev pub ListsWithout : NameIndex → ℕ → ℕ → Type 0
  ListsWithout i hash name =
      (c : NameHashIter)
      × (outcome (Ok c) ≡ find_by_hash order s i hash)
      × ((steps : List (Taken NameTableIndex NameHashIter)) × Linked (hash_step order s i) c steps × (has_end (hash_answers steps) ≡ true))
      × ((steps : List (Taken NameTableIndex NameHashIter)) → Linked (hash_step order s i) c steps → has_end (hash_answers steps) ≡ true
      → (names : List ℕ) × (up_to_end (hash_answers steps) ≡ hash_names names) × (memberb name names ≡ false))

-- So a lookup that stops at the first end does not find the name: it is one of all names that store the hash,
-- and the lookup of the hash lists names without it.
abbrev pub LostNotListed : Type 0
LostNotListed =
    (order : RunTimeEndian) (s : Section) (i : NameIndex) (lost : Incomplete)
    → outcome (Ok (TableCheck.Incomplete lost)) ≡ table_check order s i
    → (memberb lost.name.0 (all_storing order s i lost.hash) ≡ true) × ListsWithout order s i lost.hash lost.name.0
