-- Demand 3, that nothing is left off a list, of the exported calls (SPECIFICATION 14.4 and 14.6): its first
-- part, each one theorem about lists of steps of any length, in the structs that the steps hand over, and its
-- third, of the query, twice. `ExportedQueryFinds` supposes that the indexes all open and are complete or
-- have no hash table as demand 3 does, over the steps of the crates below; `ExportedFinds` supposes it in the
-- structs that the calls over headers and handles give. The laws `exported-buckets` and `exported-hashes` of
-- proofs/LookupLaws.antt, `exported-entries` of proofs/EntryLaws.antt, and `exported_query_finds` and
-- `exported_finds` of proofs/QueryLaws.antt prove them. Order, index and cursor are the caller's numbers; the
-- contracts of the exported steps are by the definitions below. `s` is .debug_names and `strs` is .debug_str;
-- `text` has the bytes of the name that is asked for.
use Rattle.std.specs.Prelude.{ℕ, ◌≤◌, ◌≡◌, cond, List, [], ◌∷◌, ◌++◌, map, eqb, Option, Some, None}
use Rattle.reader.specs.Outcome.{Outcome, answered, refused}
use Rattle.reader.specs.Listing.{answers_of}
use Rattle.reader.specs.Steps.{ListsInOrder}
use Rattle.reader.specs.declared.common.NameTableIndex.{NameTableIndex}
use Rattle.headers.specs.declared.header.NameIndexHeader.{NameIndexHeader}
use Rattle.headers.specs.Headers.{header_step}
use Rattle.index.specs.declared.layout.NameIndex.{NameIndex}
use Rattle.index.specs.Layout.{parts}
use Rattle.index.specs.Open.{opened}
use Rattle.entries.specs.declared.entry.NameEntry.{NameEntry}
use Rattle.entries.specs.Entries.{as_name_entry}
use Rattle.entries.specs.Series.{series, name_entries}
use Rattle.hashes.specs.declared.bucket.BucketName.{BucketName}
use Rattle.hashes.specs.Table.{run, names_of_hash}
use Rattle.hashes.specs.Lookups.{bucket_cursor, find_by_bucket, find_by_hash, bucket_step, hash_step}
use Rattle.hashes.specs.Demand3.{bucket_names, hash_names}
use Rattle.tables.specs.Check.{table_check}
use Rattle.records.specs.declared.record.Record.{Record}
use Rattle.handles.specs.declared.DebugNamesIndex.{DebugNamesIndex}
use Rattle.handles.specs.declared.DebugNamesHashCursor.{DebugNamesHashCursor}
use Rattle.handles.specs.Handles.{order_of, index_from, iter_from}
use Rattle.answers.specs.declared.DebugNamesAnswer.{DebugNamesAnswer}
use Rattle.answers.specs.Answers.{given, handed, open_answer, bucket_answer, entries_answer}
use Rattle.step_answers.specs.declared.DebugNamesBucketStep.{DebugNamesBucketStep}
use Rattle.step_answers.specs.declared.DebugNamesHashStep.{DebugNamesHashStep}
use Rattle.step_answers.specs.declared.DebugNamesHeaderStep.{DebugNamesHeaderStep}
use Rattle.step_answers.specs.declared.DebugNamesTable.{DebugNamesTable}
use Rattle.step_answers.specs.Steps.{header_answer, bucket_step_answer, hash_answer, hash_step_answer, table_answer}
use Rattle.entry_answers.specs.declared.DebugNamesEntry.{DebugNamesEntry}
use Rattle.entry_answers.specs.Entry.{entry_step_answer}
use Rattle.demand3.specs.Expected.{OpenIndex, expected}
use Rattle.demand3.specs.Demand3.{Each, AllOpen, CompleteOrNoTable, Finds}
use Rattle.exported.specs.Query.{query_answer}
use Rattle.reader.specs.Parts.{Section}

-- a list of what an exported step answered: the first from the cursor c, and each next from the `next` of the
-- one before it
pub data LinkedCalls {T C : Type 0} (call : C → T) (next : T → C) : C → List T → Type 0 where
  no_calls : {c : C} → LinkedCalls call next c []
  call_then : {c : C} {t : T} {ts : List T} → t ≡ call c → LinkedCalls call next (next t) ts → LinkedCalls call next c (t ∷ ts)

-- What the numbers of a struct tell: with status 0, kind 0 is the end, and any other kind an item; any other
-- status is a refusal with that number and the struct's value.
abbrev pub told : {A : Type 0} → ℕ → ℕ → ℕ → A → Outcome (Option A)
told status kind value item = cond (eqb status 0) (cond (eqb kind 0) (answered None) (answered (Some item))) (refused status value)

-- the items: a name's number and its hash, a name's number, and an entry's handle, code and tag
abbrev pub told_by_bucket : DebugNamesBucketStep → Outcome (Option BucketName)
told_by_bucket t = told t.status t.kind t.value (record { name = record { 0 = t.value }; hash = t.hash })

abbrev pub told_by_hash : DebugNamesHashStep → Outcome (Option NameTableIndex)
told_by_hash t = told t.status t.kind t.value (record { 0 = t.value })

abbrev pub told_by_entry : DebugNamesEntry → Outcome (Option NameEntry)
told_by_entry t = told t.status t.kind t.value (record { offset = record { 0 = t.value }; abbrev_code = t.abbrev_code; tag = t.tag })

-- What the exported steps hand over of a caller's cursor: `debug_names_next_in_bucket` of the number of a
-- name, `debug_names_next_by_hash` of a hash cursor, and `debug_names_next_entry` of a place.
abbrev pub next_in_bucket_call : ℕ → Section → DebugNamesIndex → ℕ → NameTableIndex → DebugNamesBucketStep
next_in_bucket_call order s h bucket name =
    bucket_step_answer (bucket_step (order_of order) s (index_from h) (bucket_cursor bucket name.0))

abbrev pub next_by_hash_call : ℕ → Section → DebugNamesIndex → DebugNamesHashCursor → DebugNamesHashStep
next_by_hash_call order s h c = hash_step_answer c (hash_step (order_of order) s (index_from h) (iter_from c))

abbrev pub next_entry_call : ℕ → Section → DebugNamesIndex → ℕ → DebugNamesEntry
next_entry_call order s h at = entry_step_answer (order_of order) s (index_from h) (record { at = at })

-- If `debug_names_find_by_bucket` gave the name `first` for a bucket, then whatever list of
-- `debug_names_next_in_bucket` follows, each given the name that the lookup or the step before it gave: what
-- they tell up to the first end is the beginning of the bucket's run, in order and without a gap; and the
-- first end is the first step before which all of the run is told (`ListsInOrder`).
abbrev pub ExportedBuckets : Type 0
ExportedBuckets =
    (order : ℕ) (s : Section) (h : DebugNamesIndex) (bucket first : ℕ) (steps : List DebugNamesBucketStep)
    → record { status = 0; kind = 1; value = first } ≡ handed bucket_answer (find_by_bucket (order_of order) s (index_from h) bucket)
    → LinkedCalls (next_in_bucket_call order s h bucket) (λ t. t.next) (record { 0 = first }) steps
    → ListsInOrder (map told_by_bucket steps)
    (bucket_names (order_of order) s (parts (index_from h)) (run (order_of order) s (index_from h) bucket))

-- The same for `debug_names_find_by_hash` and `debug_names_next_by_hash`, and the names of the run that store
-- the hash.
abbrev pub ExportedHashes : Type 0
ExportedHashes =
    (order : ℕ) (s : Section) (h : DebugNamesIndex) (hash : ℕ) (first : DebugNamesHashCursor) (steps : List DebugNamesHashStep)
    → record { status = 0; kind = 1; value = 0; next = first } ≡ hash_answer (find_by_hash (order_of order) s (index_from h) hash)
    → LinkedCalls (next_by_hash_call order s h) (λ t. t.next) first steps
    → ListsInOrder (map told_by_hash steps) (hash_names (names_of_hash (order_of order) s (index_from h) hash))

-- The same for `debug_names_name_entries` and `debug_names_next_entry`, and the series of the name: an entry
-- with its handle, its code and its tag, and a refusal with its number and value.
abbrev pub ExportedEntries : Type 0
ExportedEntries =
    (order : ℕ) (s : Section) (h : DebugNamesIndex) (name : NameTableIndex) (first : ℕ) (steps : List DebugNamesEntry)
    → record { status = 0; kind = 1; value = first } ≡ handed entries_answer (name_entries (order_of order) s (index_from h) name)
    → LinkedCalls (next_entry_call order s h) (λ t. t.next) first steps
    → ListsInOrder (map told_by_entry steps) (answers_of as_name_entry (series (order_of order) s (index_from h) name))

-- The third part, of `debug_names_query`: where it is not refused, it finds what is expected.
abbrev pub ExportedQueryFinds : Type 0
ExportedQueryFinds =
    (order : ℕ) (s strs : Section) (hash : ℕ) (text : List ℕ) (lent after : List Record) (total : ℕ) (indexes : List OpenIndex)
    → AllOpen (order_of order) s indexes
    → Each (CompleteOrNoTable (order_of order) s) indexes
    → record { answer = record { status = 0; kind = 1; value = total }; records = after }
    ≡ query_answer (order_of order) s strs hash text lent
    → Finds (expected (order_of order) s strs hash text indexes) total lent after

-- What the exported calls over a section's headers hand over: `debug_names_next_header` of a place, and of
-- the handle that it gave `debug_names_open` and `debug_names_check_table`.
abbrev pub next_header_call : ℕ → Section → ℕ → DebugNamesHeaderStep
next_header_call order s at = header_answer (header_step (order_of order) s (record { at = at }))

abbrev pub open_call : Section → DebugNamesIndex → DebugNamesAnswer
open_call s h = handed open_answer (opened s (index_from h))

abbrev pub check_table_call : ℕ → Section → DebugNamesIndex → DebugNamesTable
check_table_call order s h = table_answer (table_check (order_of order) s (index_from h))

-- a header step that gave a header: its handle opens, and the table check of it says that there is no hash
-- table, kind 0, or a complete one, kind 1
pub record OpensComplete (order : ℕ) (s : Section) (t : DebugNamesHeaderStep) : Type 0 where
  pub header : (t.status ≡ 0) × (t.kind ≡ 1)
  pub opens : given 1 0 ≡ open_call s t.index
  pub table : ((check_table_call order s t.index).status ≡ 0) × ((check_table_call order s t.index).kind ≤ 1)

-- a header that describes an index, since an `OpenIndex` has one; what no handle tells of it is filled in
unfoldable pub header_for : NameIndex → NameIndexHeader
header_for i = record {
  offset = record { 0 = 0 };
  length = 0;
  format = i.format;
  version = 5;
  compile_unit_count = i.compile_unit_count;
  local_type_unit_count = i.local_type_unit_count;
  foreign_type_unit_count = i.foreign_type_unit_count;
  bucket_count = i.bucket_count;
  name_count = i.name_count;
  abbrev_table_size = i.abbrev_table_size;
  augmentation_string = None;
  content = record { at = i.begin; end = i.end };
}

-- the index that a header step tells of: its place and its handle. `expected` looks at no other field of its
-- header.
abbrev pub index_told : DebugNamesHeaderStep → OpenIndex
index_told t = record {
  header = record (header_for (index_from t.index)) { offset = record { 0 = t.value } };
  index = index_from t.index;
}

-- The third part with nothing but the structs that the calls give. If a list of `debug_names_next_header`,
-- the first at place 0 and each next at the `next` of the one before it, is headers whose indexes open and
-- are complete or have no hash table, and then the end, status 0 and kind 0: a `debug_names_query` that is
-- not refused finds what is expected of these indexes, as `ExportedQueryFinds` says it.
abbrev pub ExportedFinds : Type 0
ExportedFinds =
    (order : ℕ) (s strs : Section) (hash : ℕ) (text : List ℕ) (lent after : List Record) (total : ℕ)
    (headers : List DebugNamesHeaderStep) (end : DebugNamesHeaderStep)
    → LinkedCalls (next_header_call order s) (λ t. t.next) 0 (headers ++ end ∷ [])
    → Each (OpensComplete order s) headers
    → (end.status ≡ 0) × (end.kind ≡ 0)
    → record { answer = record { status = 0; kind = 1; value = total }; records = after }
    ≡ query_answer (order_of order) s strs hash text lent
    → Finds (expected (order_of order) s strs hash text (map index_told headers)) total lent after
