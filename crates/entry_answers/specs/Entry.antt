-- Entries and their five facts, as they are handed over (SPECIFICATION 15.3 to 15.5, for the calls of
-- SPECIFICATION 9.4, 9.6 and 9.8). `s` is the section and `i` the index. An entry has kind 1, its handle as
-- value, its code, its tag and its facts; `next` is the cursor after a step, and 0 where the entry was asked
-- for by its handle. Each fact is an answer of its own, with status, kind and value, and may be refused where
-- the entry is not. Of a parent kind 0 is not known, 1 an entry, by its handle, and 2 no parent. At the end
-- of a series all but `next` is 0; a refused entry has
-- its refusal's number as status and its value, and so has each of its facts; kind, code and tag are 0.
use Rattle.std.specs.Prelude.{ℕ}
use Rattle.std.specs.Prelude.{Option, Some, None}
use Rattle.reader.specs.Outcome.{Outcome, answered, refused}
use Rattle.reader.specs.declared.endianity.RunTimeEndian.{RunTimeEndian}
use Rattle.reader.specs.declared.common.NameEntryOffset.{NameEntryOffset}
use Rattle.index.specs.declared.layout.NameIndex.{NameIndex}
use Rattle.attributes.specs.declared.attribute.EntryParent.{EntryParent}
use Rattle.entries.specs.declared.entry.NameEntry.{NameEntry}
use Rattle.entries.specs.declared.series.NameEntryIter.{NameEntryIter}
use Rattle.entries.specs.Entries.{name_entry}
use Rattle.entries.specs.Series.{entry_step}
use Rattle.entries.specs.Facts.{entry_compile_unit, entry_type_unit, entry_die_offset, entry_parent, entry_type_hash}
use Rattle.answers.specs.declared.DebugNamesAnswer.{DebugNamesAnswer}
use Rattle.entry_answers.specs.declared.DebugNamesFacts.{DebugNamesFacts}
use Rattle.entry_answers.specs.declared.DebugNamesEntry.{DebugNamesEntry}
use Rattle.answers.specs.Answers.{given, nothing, refused_answer, handed, type_unit_answer}
use Rattle.names.specs.declared.units.NameTypeUnit.{NameTypeUnit}
use Rattle.reader.specs.declared.common.DebugInfoOffset.{DebugInfoOffset}
use Rattle.reader.specs.declared.common.UnitOffset.{UnitOffset}
use Rattle.reader.specs.Parts.{Section}

-- what is handed over of a fact
abbrev pub compile_unit_fact : Option DebugInfoOffset → DebugNamesAnswer
compile_unit_fact (Some u) = given 1 u.0
compile_unit_fact None = nothing

abbrev pub type_unit_fact : Option NameTypeUnit → DebugNamesAnswer
type_unit_fact (Some u) = type_unit_answer u
type_unit_fact None = nothing

abbrev pub die_offset_fact : Option UnitOffset → DebugNamesAnswer
die_offset_fact (Some o) = given 1 o.0
die_offset_fact None = nothing

abbrev pub parent_fact : EntryParent → DebugNamesAnswer
parent_fact EntryParent.NotKnown = nothing
parent_fact (EntryParent.Entry o) = given 1 o.0
parent_fact EntryParent.NoParent = given 2 0

abbrev pub type_hash_fact : Option ℕ → DebugNamesAnswer
type_hash_fact (Some h) = given 1 h
type_hash_fact None = nothing

-- no facts, and those of a refused entry
unfoldable pub no_facts : DebugNamesFacts
no_facts = record { compile_unit = nothing; type_unit = nothing; die_offset = nothing; parent = nothing; type_hash = nothing }

abbrev pub alike : DebugNamesAnswer → DebugNamesFacts
alike a = record { compile_unit = a; type_unit = a; die_offset = a; parent = a; type_hash = a }

unfoldable pub refused_facts : ℕ → ℕ → DebugNamesFacts
refused_facts n v = alike (refused_answer n v)

-- an entry with its facts, and the cursor after it
abbrev pub shown_entry : DebugNamesFacts → ℕ → NameEntry → DebugNamesEntry
shown_entry facts next e = record {
  status = 0;
  kind = 1;
  value = e.offset.0;
  next = next;
  abbrev_code = e.abbrev_code;
  facts = facts;
  tag = e.tag;
}

-- the end of a series
abbrev pub ended_series : ℕ → DebugNamesEntry
ended_series next = record { status = 0; kind = 0; value = 0; next = next; abbrev_code = 0; facts = no_facts; tag = 0 }

-- a refused entry: its facts are refused as it is
unfoldable pub refused_entry : ℕ → ℕ → ℕ → DebugNamesEntry
refused_entry next n v = record { status = n; kind = 0; value = v; next = next; abbrev_code = 0; facts = refused_facts n v; tag = 0 }

-- the entry with a handle
abbrev pub entry_answer_in : DebugNamesFacts → Outcome NameEntry → DebugNamesEntry
entry_answer_in facts (answered e) = shown_entry facts 0 e
entry_answer_in facts (refused n v) = refused_entry 0 n v

-- a step: its entry with the facts that its handle has
abbrev pub entry_step_in : (NameEntryOffset → DebugNamesFacts) → ℕ → Outcome (Option NameEntry) → DebugNamesEntry
entry_step_in facts next (answered (Some e)) = shown_entry (facts e.offset) next e
entry_step_in facts next (answered None) = ended_series next
entry_step_in facts next (refused n v) = refused_entry next n v

-- a section, in its byte order
module _ (order : RunTimeEndian) (s : Section) where
  -- the facts of the entry with a handle
  unfoldable pub facts_at : NameIndex → NameEntryOffset → DebugNamesFacts
  facts_at i offset = record {
    compile_unit = handed compile_unit_fact (entry_compile_unit order s i offset);
    type_unit = handed type_unit_fact (entry_type_unit order s i offset);
    die_offset = handed die_offset_fact (entry_die_offset order s i offset);
    parent = handed parent_fact (entry_parent order s i offset);
    type_hash = handed type_hash_fact (entry_type_hash order s i offset);
  }

  -- `debug_names_name_entry`, and `debug_names_next_entry`
  unfoldable pub entry_answer : NameIndex → NameEntryOffset → DebugNamesEntry
  entry_answer i offset = entry_answer_in (facts_at i offset) (name_entry order s i offset)

  unfoldable pub entry_step_answer : NameIndex → NameEntryIter → DebugNamesEntry
  entry_step_answer i c = entry_step_in (facts_at i) (entry_step order s i c).cursor.at (entry_step order s i c).answer
