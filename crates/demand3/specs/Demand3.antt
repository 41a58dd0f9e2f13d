-- Demand 3, whole: nothing is left off a list (SPECIFICATION 14.3 to 14.6). The law `demand3` of
-- proofs/QueryLaws.antt proves it.
-- For every list of steps of one bucket, hash or entry lookup, refused ones included, each given the cursor
-- that the lookup or the step before it gave, the answers up to the first end are the beginning, in order and
-- without a gap, of the bucket's run, of its names storing the hash, or of the name's series. The first end
-- is the first step before which all of that is answered. An index with a hash table is reported complete
-- exactly when, for every 32-bit hash, the names listed up to the first end are all names storing that hash,
-- ascending, each once, without refusal. For every section whose indexes all open and are complete or have no
-- hash table, a section query not refused has as its total the number of all entries in the series of all
-- matching names, each once for each name. It writes the first of their records (SPECIFICATION 12.5 and
-- 12.6), as many as there is room for, in the order of index, name and series, and nothing else.
use Rattle.std.specs.Prelude.{ℕ, ◌≡◌, true, ◌⊎◌, List, [], ◌∷◌, ◌++◌, map, length, take, drop, Ok}
use Rattle.std.specs.Prelude.{Option, Some}
use Rattle.reader.specs.Outcome.{Outcome, answered}
use Rattle.reader.specs.Steps.{Linked, has_end, up_to_end, answers, Taken}
use Rattle.reader.specs.declared.endianity.RunTimeEndian.{RunTimeEndian}
use Rattle.headers.specs.declared.header.NameIndexHeader.{NameIndexHeader}
use Rattle.headers.specs.Headers.{first_header, header_step}
use Rattle.index.specs.Open.{name_index}
use Rattle.entries.specs.Demand3.{EntryLookups}
use Rattle.hashes.specs.Demand3.{BucketLookups, HashLookups}
use Rattle.tables.specs.declared.TableCheck.{TableCheck}
use Rattle.tables.specs.Check.{table_check}
use Rattle.tables.specs.Demand3.{CompleteExactly}
use Rattle.records.specs.declared.record.Record.{Record}
use Rattle.query.specs.Query.{section_query}
use Rattle.demand3.specs.Expected.{OpenIndex, expected}
use Rattle.reader.specs.Answers.{outcome}
use Rattle.headers.specs.declared.headers.NameIndexHeaderIter.{NameIndexHeaderIter}
use Rattle.reader.specs.Parts.{Section}

-- what the code's steps over the headers answered
abbrev pub header_answers : List (Taken NameIndexHeader NameIndexHeaderIter) → List (Outcome (Option NameIndexHeader))
header_answers = answers

-- a claim of each element of a list
pub data Each {A : Type 0} (claim : A → Type 0) : List A → Type 0 where
  of_none : Each claim []
  and_then : {a : A} {rest : List A} → claim a → Each claim rest → Each claim (a ∷ rest)

-- a section, in its byte order
module _ (order : RunTimeEndian) (s : Section) where
  -- The indexes all open, and these are they: linked header steps of the code from place 0 reach the end, and
  -- up to it answer their headers, without refusal; and `NameIndex::new` takes each header.
  abbrev pub AllOpen : List OpenIndex → Type 0
  AllOpen indexes =
      ((steps : List (Taken NameIndexHeader NameIndexHeaderIter))
      × Linked (header_step order s) first_header steps
      × (has_end (header_answers steps) ≡ true)
      × (up_to_end (header_answers steps) ≡ map (λ o. answered (Some o.header)) indexes))
      × Each (λ o. outcome (Ok o.index) ≡ name_index s o.header) indexes

  -- the table check says that an index is complete, or that it has no hash table
  abbrev pub CompleteOrNoTable : OpenIndex → Type 0
  CompleteOrNoTable o =
      (outcome (Ok TableCheck.Complete) ≡ table_check order s o.index) ⊎ (outcome (Ok TableCheck.NoTable) ≡ table_check order s o.index)

-- What a query finds: its total is the number of what is expected; and the lent records are at exit the first
-- of these, as many as there is room for, and after them what was there.
abbrev pub Finds : List (Outcome Record) → ℕ → List Record → List Record → Type 0
Finds wanted total lent after =
    (total ≡ length wanted)
    × ((new : List Record) × (map answered new ≡ take (length lent) wanted) × (after ≡ new ++ drop (length new) lent))

-- The third part: a query that is not refused finds what is expected.
abbrev pub QueryFinds : Type 0
QueryFinds =
    (order : RunTimeEndian) (s strs : Section) (hash : ℕ) (text : List ℕ) (lent after : List Record) (total : ℕ)
    (indexes : List OpenIndex)
    → AllOpen order s indexes
    → Each (CompleteOrNoTable order s) indexes
    → record { answer = outcome (Ok total); records = after } ≡ section_query order s strs hash text lent
    → Finds (expected order s strs hash text indexes) total lent after

-- demand 3, in its three parts
pub record Demand3 : Type 0 where
  pub lookups : BucketLookups × HashLookups × EntryLookups
  pub completeness : CompleteExactly
  pub query : QueryFinds
