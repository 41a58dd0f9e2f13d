-- The section query, as it is handed over: `debug_names_query` (SPECIFICATION 12, 15.3 and 15.5). `s` is
-- .debug_names and `strs` is .debug_str; `hash` is the hash and `text` has the bytes of the name that is
-- asked for; `lent` are the records that the query may write. The answer has kind 1 and the total as its
-- value, or the refusal's number as status and its value; the lent records are as the query leaves them.
use Rattle.std.specs.Prelude.{ℕ, List}
use Rattle.reader.specs.declared.endianity.RunTimeEndian.{RunTimeEndian}
use Rattle.records.specs.declared.record.Record.{Record}
use Rattle.query.specs.Query.{section_query}
use Rattle.answers.specs.declared.DebugNamesAnswer.{DebugNamesAnswer}
use Rattle.answers.specs.Answers.{handed, count_answer}
use Rattle.reader.specs.Parts.{Section}

-- the answer, and the lent records as they are left
pub record QueryHanded : Type 0 where
  pub answer : DebugNamesAnswer
  pub records : List Record

-- a section with its strings, in its byte order, and the name that is asked for, with its hash
module _ (order : RunTimeEndian) (s strs : Section) (hash : ℕ) (text : List ℕ) where
  -- the total, and the records of the query
  unfoldable pub query_answer : List Record → QueryHanded
  query_answer lent = record {
    answer = handed count_answer (section_query order s strs hash text lent).answer;
    records = (section_query order s strs hash text lent).records;
  }
