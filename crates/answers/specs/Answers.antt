-- Outcomes as answers of one number (SPECIFICATION 15.3 and 15.4). A refusal has its number as status,
-- kind 0, and its value. What is answered has status 0, a kind and a value; where there is none, all three
-- are 0. Of units, kind 1 is a compile unit, 2 a local type unit and 3 a foreign one; of all else that this
-- file hands over the kind is 1 (the kinds of a parent are in Entry of `entry_answers`). The value is the
-- offset or the signature of a unit, a count, 1 or 0 of a test, a string offset, the number of a bucket's
-- first name, or the place of a name's first entry; of an opened index it is 0. The contracts of
-- `crates/debug_names/src` say which of these each exported call hands over, and of which definition.
use Rattle.std.specs.Prelude.{ℕ, Bool, cond, Option, Some, None}
use Rattle.reader.specs.Outcome.{Outcome, answered, refused}
use Rattle.reader.specs.declared.common.DebugInfoOffset.{DebugInfoOffset}
use Rattle.reader.specs.declared.common.DebugStrOffset.{DebugStrOffset}
use Rattle.reader.specs.declared.common.DebugTypeSignature.{DebugTypeSignature}
use Rattle.index.specs.declared.layout.Parts.{Parts}
use Rattle.names.specs.declared.units.NameTypeUnit.{NameTypeUnit}
use Rattle.entries.specs.declared.series.NameEntryIter.{NameEntryIter}
use Rattle.answers.specs.declared.DebugNamesAnswer.{DebugNamesAnswer}
use Rattle.hashes.specs.declared.bucket.NameBucketIter.{NameBucketIter}

-- an answer of a kind, with its number; without a kind there is nothing
abbrev pub given : ℕ → ℕ → DebugNamesAnswer
given kind value = record { status = 0; kind = kind; value = value }

abbrev pub nothing : DebugNamesAnswer
nothing = given 0 0

-- a refusal: its number and its value
abbrev pub refused_answer : ℕ → ℕ → DebugNamesAnswer
refused_answer n v = record { status = n; kind = 0; value = v }

-- an outcome, handed over
abbrev pub handed : {A : Type 0} → (A → DebugNamesAnswer) → Outcome A → DebugNamesAnswer
handed shown (answered a) = shown a
handed shown (refused n v) = refused_answer n v

-- what is handed over of an answer:
-- an opened index
abbrev pub open_answer : Parts → DebugNamesAnswer
open_answer p = given 1 0

-- a count
abbrev pub count_answer : ℕ → DebugNamesAnswer
count_answer n = given 1 n

-- a flag
abbrev pub flag_answer : Bool → DebugNamesAnswer
flag_answer b = given 1 (cond b 1 0)

-- units
abbrev pub unit_answer : ℕ → DebugInfoOffset → DebugNamesAnswer
unit_answer kind u = given kind u.0

abbrev pub signature_answer : DebugTypeSignature → DebugNamesAnswer
signature_answer t = given 3 t.0

abbrev pub type_unit_answer : NameTypeUnit → DebugNamesAnswer
type_unit_answer (NameTypeUnit.Local u) = given 2 u.0
type_unit_answer (NameTypeUnit.Foreign t) = given 3 t.0

abbrev pub default_unit_answer : Option DebugInfoOffset → DebugNamesAnswer
default_unit_answer (Some u) = given 1 u.0
default_unit_answer None = nothing

-- an offset of .debug_str
abbrev pub str_offset_answer : DebugStrOffset → DebugNamesAnswer
str_offset_answer o = given 1 o.0

-- a bucket's first name
abbrev pub bucket_answer : Option NameBucketIter → DebugNamesAnswer
bucket_answer (Some c) = given 1 c.name_table_index.0
bucket_answer None = nothing

-- the place of a name's first entry
abbrev pub entries_answer : NameEntryIter → DebugNamesAnswer
entries_answer c = given 1 c.at
