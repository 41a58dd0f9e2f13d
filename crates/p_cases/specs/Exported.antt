-- Demand 3 of the exported calls on case A (SPECIFICATION 14.4 and 14.6): that what it supposes of the
-- lookups, their steps and the query holds there, and what it says, in the structs that the calls hand over;
-- of the query with demand 3's own suppositions, too.
use Rattle.std.specs.Prelude.{ℕ, ◌≡◌, List, [], ◌∷◌, ◌++◌, map, Option, Some}
use Rattle.reader.specs.Outcome.{Outcome, answered}
use Rattle.reader.specs.Listing.{answers_of}
use Rattle.reader.specs.Steps.{ListsInOrder}
use Rattle.index.specs.Layout.{parts}
use Rattle.entries.specs.Entries.{as_name_entry}
use Rattle.entries.specs.Series.{series, name_entries}
use Rattle.hashes.specs.declared.bucket.BucketName.{BucketName}
use Rattle.hashes.specs.Table.{run, names_of_hash}
use Rattle.hashes.specs.Lookups.{find_by_bucket, find_by_hash}
use Rattle.hashes.specs.Demand3.{bucket_names, hash_names}
use Rattle.records.specs.declared.record.Record.{Record}
use Rattle.handles.specs.declared.DebugNamesIndex.{DebugNamesIndex}
use Rattle.handles.specs.declared.DebugNamesHashCursor.{DebugNamesHashCursor}
use Rattle.handles.specs.Handles.{order_of, index_from, no_handle}
use Rattle.answers.specs.declared.DebugNamesAnswer.{DebugNamesAnswer}
use Rattle.answers.specs.Answers.{given, nothing, refused_answer, handed, bucket_answer, entries_answer}
use Rattle.step_answers.specs.declared.DebugNamesHeaderStep.{DebugNamesHeaderStep}
use Rattle.step_answers.specs.declared.DebugNamesBucketStep.{DebugNamesBucketStep}
use Rattle.step_answers.specs.declared.DebugNamesHashStep.{DebugNamesHashStep}
use Rattle.step_answers.specs.Steps.{hash_answer}
use Rattle.entry_answers.specs.declared.DebugNamesEntry.{DebugNamesEntry}
use Rattle.entry_answers.specs.Entry.{no_facts}
use Rattle.demand3.specs.Expected.{expected}
use Rattle.demand3.specs.Demand3.{Each, Finds}
use Rattle.exported.specs.Query.{QueryHanded, query_answer}
use Rattle.exported.specs.Demand3.{LinkedCalls, next_in_bucket_call, next_by_hash_call, next_entry_call, told_by_bucket, told_by_hash, told_by_entry}
use Rattle.exported.specs.Demand3.{next_header_call, OpensComplete, index_told}
use Rattle.p_cases.specs.CaseA.{case_a, second_start, strings_a}
use Rattle.p_cases.specs.Queries.{function_at, old, de, open_a}

-- the handle of its index
unfoldable pub handle_a : DebugNamesIndex
handle_a = record {
  begin = 36;
  end = 109;
  format = 4;
  compile_unit_count = 1;
  local_type_unit_count = 0;
  foreign_type_unit_count = 0;
  bucket_count = 2;
  name_count = 3;
  abbrev_table_size = 7;
}

-- bucket 1: its first name is 1
abbrev pub BucketGiven : Type 0
BucketGiven = given 1 1 ≡ handed bucket_answer (find_by_bucket (order_of 0) case_a (index_from handle_a) 1)

-- its steps: name 1 with hash 7, name 2 with hash 9, and the end, again and again
abbrev pub bucket_told : ℕ → ℕ → ℕ → ℕ → DebugNamesBucketStep
bucket_told kind name hash next = record { status = 0; kind = kind; value = name; hash = hash; next = record { 0 = next } }

abbrev pub bucket_calls_of_a : List DebugNamesBucketStep
bucket_calls_of_a = bucket_told 1 1 7 2 ∷ bucket_told 1 2 9 3 ∷ bucket_told 0 0 0 3 ∷ bucket_told 0 0 0 3 ∷ []

abbrev pub BucketCallsOfA : Type 0
BucketCallsOfA = LinkedCalls (next_in_bucket_call 0 case_a handle_a 1) (λ t. t.next) (record { 0 = 1 }) bucket_calls_of_a

-- so they list the bucket's run; and the run is these names
abbrev pub run_of_one : List (Outcome (Option BucketName))
run_of_one = bucket_names (order_of 0) case_a (parts (index_from handle_a)) (run (order_of 0) case_a (index_from handle_a) 1)

abbrev pub BucketListed : Type 0
BucketListed = ListsInOrder (map told_by_bucket bucket_calls_of_a) run_of_one

abbrev pub named_with : ℕ → ℕ → Outcome (Option BucketName)
named_with name hash = answered (Some (record { name = record { 0 = name }; hash = hash }))

abbrev pub BucketRun : Type 0
BucketRun = run_of_one ≡ named_with 1 7 ∷ named_with 2 9 ∷ []

-- hash 9: the cursor before name 1 of its bucket
abbrev pub nine_at : ℕ → DebugNamesHashCursor
nine_at name = record { hash = 9; has_bucket = 1; bucket = 1; name = record { 0 = name } }

abbrev pub hash_told : ℕ → ℕ → ℕ → DebugNamesHashStep
hash_told kind value next = record { status = 0; kind = kind; value = value; next = nine_at next }

abbrev pub HashGiven : Type 0
HashGiven = hash_told 1 0 1 ≡ hash_answer (find_by_hash (order_of 0) case_a (index_from handle_a) 9)

-- its steps pass over name 1: name 2, and the end, again and again
abbrev pub hash_calls_of_a : List DebugNamesHashStep
hash_calls_of_a = hash_told 1 2 3 ∷ hash_told 0 0 3 ∷ hash_told 0 0 3 ∷ []

abbrev pub HashCallsOfA : Type 0
HashCallsOfA = LinkedCalls (next_by_hash_call 0 case_a handle_a) (λ t. t.next) (nine_at 1) hash_calls_of_a

abbrev pub HashListed : Type 0
HashListed = ListsInOrder (map told_by_hash hash_calls_of_a) (hash_names (names_of_hash (order_of 0) case_a (index_from handle_a) 9))

-- name 0: its series begins at 91, and its steps are its entry, whose DIE is at 0x10 and of which nothing
-- else is known, and the end
abbrev pub EntriesGiven : Type 0
EntriesGiven = given 1 91 ≡ handed entries_answer (name_entries (order_of 0) case_a (index_from handle_a) (record { 0 = 0 }))

abbrev pub entry_calls_of_a : List DebugNamesEntry
entry_calls_of_a =
    record {
      status = 0;
      kind = 1;
      value = 0;
      next = 96;
      abbrev_code = 1;
      facts = record { compile_unit = nothing; type_unit = nothing; die_offset = given 1 0x10; parent = nothing; type_hash = nothing };
      tag = 0x2e;
    }
    ∷ record { status = 0; kind = 0; value = 0; next = 109; abbrev_code = 0; facts = no_facts; tag = 0 }
    ∷ []

abbrev pub EntryCallsOfA : Type 0
EntryCallsOfA = LinkedCalls (next_entry_call 0 case_a handle_a) (λ t. t.next) 91 entry_calls_of_a

abbrev pub EntriesListed : Type 0
EntriesListed =
    ListsInOrder (map told_by_entry entry_calls_of_a) (answers_of as_name_entry (series (order_of 0) case_a (index_from handle_a) (record { 0 = 0 })))

-- the query of "de": one record is written, and the second lent one stays; so it finds what is expected
abbrev pub handed_back : DebugNamesAnswer → List Record → QueryHanded
handed_back answer records = record { answer = answer; records = records }

abbrev pub QueryGiven : Type 0
QueryGiven = handed_back (given 1 1) (function_at 0 6 1 0 0x20 ∷ old ∷ []) ≡ query_answer (order_of 0) case_a strings_a 7 de (old ∷ old ∷ [])

abbrev pub QueryFound : Type 0
QueryFound = Finds (expected (order_of 0) case_a strings_a 7 de (open_a ∷ [])) 1 (old ∷ old ∷ []) (function_at 0 6 1 0 0x20 ∷ old ∷ [])

-- the header steps: the header at 0, with the handle of its index, and the end; the handle opens, and its
-- table is complete
abbrev pub headers_of_a : List DebugNamesHeaderStep
headers_of_a = record { status = 0; kind = 1; value = 0; next = 109; index = handle_a } ∷ []

abbrev pub end_of_a : DebugNamesHeaderStep
end_of_a = record { status = 0; kind = 0; value = 0; next = 109; index = no_handle }

abbrev pub HeaderCallsOfA : Type 0
HeaderCallsOfA = LinkedCalls (next_header_call 0 case_a) (λ t. t.next) 0 (headers_of_a ++ end_of_a ∷ [])

abbrev pub CallsComplete : Type 0
CallsComplete = Each (OpensComplete 0 case_a) headers_of_a

-- so the same query finds what is expected of the index that they tell of; and that is one record
abbrev pub CallsFound : Type 0
CallsFound = Finds (expected (order_of 0) case_a strings_a 7 de (map index_told headers_of_a)) 1 (old ∷ old ∷ []) (function_at 0 6 1 0 0x20 ∷ old ∷ [])

abbrev pub CallsExpected : Type 0
CallsExpected = expected (order_of 0) case_a strings_a 7 de (map index_told headers_of_a) ≡ answered (function_at 0 6 1 0 0x20) ∷ []

-- with second start 5, past the last name, the same query is refused with 1 at the hashes, and both lent
-- records stay
abbrev pub QueryRefused : Type 0
QueryRefused = handed_back (refused_answer 1 48) (old ∷ old ∷ []) ≡ query_answer (order_of 0) (second_start 5) strings_a 7 de (old ∷ old ∷ [])

abbrev pub RefusedLeaves : Type 0
RefusedLeaves =
    (after : List Record)
    → handed_back (refused_answer 1 48) after ≡ query_answer (order_of 0) (second_start 5) strings_a 7 de (old ∷ old ∷ [])
    → after ≡ old ∷ old ∷ []
