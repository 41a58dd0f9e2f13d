-- Outcomes as answers of more than one number: headers, strings, the steps over buckets and hashes, and the
-- table check (SPECIFICATION 15.3 and 15.5, for the calls of SPECIFICATION 5.6, 7.7, 7.8, 10.4 to 10.6 and
-- 11.2). Status, kind and value are as in an answer of one number: a refusal has its number as status and its
-- value; with status 0, kind 0 is the end, or no hash table. `next` of a step is the cursor after it in every
-- case; of a refused step over a hash it is the caller's cursor, number by number. All other fields are 0 in
-- a refusal and at an end.
use Rattle.std.specs.Prelude.{ℕ}
use Rattle.std.specs.Prelude.{Option, Some, None}
use Rattle.reader.specs.Outcome.{Outcome, answered, refused}
use Rattle.reader.specs.Steps.{Step}
use Rattle.reader.specs.declared.common.NameTableIndex.{NameTableIndex}
use Rattle.headers.specs.declared.header.NameIndexHeader.{NameIndexHeader}
use Rattle.headers.specs.declared.headers.NameIndexHeaderIter.{NameIndexHeaderIter}
use Rattle.strings.specs.declared.Str.{Str}
use Rattle.hashes.specs.declared.bucket.NameBucketIter.{NameBucketIter}
use Rattle.hashes.specs.declared.bucket.BucketName.{BucketName}
use Rattle.hashes.specs.declared.hash.NameHashIter.{NameHashIter}
use Rattle.tables.specs.declared.TableCheck.{TableCheck}
use Rattle.step_answers.specs.declared.DebugNamesHeaderStep.{DebugNamesHeaderStep}
use Rattle.step_answers.specs.declared.DebugNamesHeader.{DebugNamesHeader}
use Rattle.step_answers.specs.declared.DebugNamesString.{DebugNamesString}
use Rattle.step_answers.specs.declared.DebugNamesBucketStep.{DebugNamesBucketStep}
use Rattle.step_answers.specs.declared.DebugNamesHashStep.{DebugNamesHashStep}
use Rattle.step_answers.specs.declared.DebugNamesTable.{DebugNamesTable}
use Rattle.handles.specs.declared.DebugNamesHashCursor.{DebugNamesHashCursor}
use Rattle.handles.specs.Handles.{handle_of, cursor_from, no_handle, no_cursor}
use Rattle.headers.specs.declared.header.AugmentationString.{AugmentationString}

-- a header step, `debug_names_next_header`: the header's place, and the handle of the index that it describes
abbrev header_answer_at : ℕ → Outcome (Option NameIndexHeader) → DebugNamesHeaderStep
header_answer_at next (answered (Some h)) = record { status = 0; kind = 1; value = h.offset.0; next = next; index = handle_of h }
header_answer_at next (answered None) = record { status = 0; kind = 0; value = 0; next = next; index = no_handle }
header_answer_at next (refused n v) = record { status = n; kind = 0; value = v; next = next; index = no_handle }

abbrev pub header_answer : Step NameIndexHeader NameIndexHeaderIter → DebugNamesHeaderStep
header_answer t = header_answer_at t.cursor.at t.answer

-- what else a header says, `debug_names_header_at`: its length, its augmentation string and its version
abbrev facts_with : NameIndexHeader → Option AugmentationString → DebugNamesHeader
facts_with h None = record { status = 0; kind = 1; value = h.length; augmentation = 0; augmentation_len = 0; version = h.version }
facts_with h (Some a) =
    record { status = 0; kind = 1; value = h.length; augmentation = a.place; augmentation_len = a.len; version = h.version }

abbrev pub header_facts : Outcome (Option NameIndexHeader) → DebugNamesHeader
header_facts (answered (Some h)) = facts_with h h.augmentation_string
header_facts (answered None) = record { status = 0; kind = 0; value = 0; augmentation = 0; augmentation_len = 0; version = 0 }
header_facts (refused n v) = record { status = n; kind = 0; value = v; augmentation = 0; augmentation_len = 0; version = 0 }

-- a string, `debug_names_name_string` and `debug_names_get_str`: where it begins, and its length
abbrev pub string_answer : Outcome Str → DebugNamesString
string_answer (answered t) = record { status = 0; kind = 1; value = t.start; len = t.len }
string_answer (refused n v) = record { status = n; kind = 0; value = v; len = 0 }

-- a bucket step, `debug_names_next_in_bucket`: the name's number and its stored hash, and the number of the
-- name to examine next
abbrev bucket_answer_at : NameTableIndex → Outcome (Option BucketName) → DebugNamesBucketStep
bucket_answer_at next (answered (Some n)) = record { status = 0; kind = 1; value = n.name.0; hash = n.hash; next = next }
bucket_answer_at next (answered None) = record { status = 0; kind = 0; value = 0; hash = 0; next = next }
bucket_answer_at next (refused n v) = record { status = n; kind = 0; value = v; hash = 0; next = next }

abbrev pub bucket_step_answer : Step BucketName NameBucketIter → DebugNamesBucketStep
bucket_step_answer t = bucket_answer_at t.cursor.name_table_index t.answer

-- a lookup by hash, `debug_names_find_by_hash`, and its steps, `debug_names_next_by_hash`
abbrev pub hash_answer : Outcome NameHashIter → DebugNamesHashStep
hash_answer (answered c) = record { status = 0; kind = 1; value = 0; next = cursor_from c }
hash_answer (refused n v) = record { status = n; kind = 0; value = v; next = no_cursor }

-- a step from a caller's cursor; refused, it hands back that cursor, number by number (only 13 and 14 refuse
-- a step)
abbrev hash_answer_at : DebugNamesHashCursor → NameHashIter → Outcome (Option NameTableIndex) → DebugNamesHashStep
hash_answer_at from next (answered (Some name)) = record { status = 0; kind = 1; value = name.0; next = cursor_from next }
hash_answer_at from next (answered None) = record { status = 0; kind = 0; value = 0; next = cursor_from next }
hash_answer_at from next (refused n v) = record { status = n; kind = 0; value = v; next = from }

abbrev pub hash_step_answer : DebugNamesHashCursor → Step NameTableIndex NameHashIter → DebugNamesHashStep
hash_step_answer from t = hash_answer_at from t.cursor t.answer

-- the table check, `debug_names_check_table`. With status 0, kind 0 is no hash table, 1 is complete, and 2 is
-- incomplete: `value` is how many names are missed, `name` the smallest number among them, and `hash` the
-- hash that is stored for that name. A refusal has its number as status, its value, and kind 0. All else is
-- 0.
abbrev pub table_answer : Outcome TableCheck → DebugNamesTable
table_answer (answered TableCheck.NoTable) = record { status = 0; kind = 0; value = 0; name = record { 0 = 0 }; hash = 0 }
table_answer (answered TableCheck.Complete) = record { status = 0; kind = 1; value = 0; name = record { 0 = 0 }; hash = 0 }
table_answer (answered (TableCheck.Incomplete lost)) = record {
  status = 0;
  kind = 2;
  value = lost.missed;
  name = lost.name;
  hash = lost.hash;
}
table_answer (refused n v) = record { status = n; kind = 0; value = v; name = record { 0 = 0 }; hash = 0 }
