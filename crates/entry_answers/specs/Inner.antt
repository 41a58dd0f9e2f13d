-- What only the code needs: what single functions of it answer or leave. A reader of the other files need not
-- know these.
use Rattle.reader.specs.declared.endianity.RunTimeEndian.{RunTimeEndian}
use Rattle.index.specs.declared.layout.Parts.{Parts}
use Rattle.attributes.specs.declared.facts.Facts.{Facts}
use Rattle.attributes.specs.Meaning.{compile_unit_of, type_unit_of, die_offset_of, parent_of, type_hash_of}
use Rattle.entry_answers.specs.declared.DebugNamesFacts.{DebugNamesFacts}
use Rattle.answers.specs.Answers.{handed}
use Rattle.reader.specs.Parts.{Section}
use Rattle.entry_answers.specs.Entry.{compile_unit_fact, die_offset_fact, parent_fact, type_hash_fact, type_unit_fact}

-- a section, in its byte order
module _ (order : RunTimeEndian) (s : Section) where
  -- One pass over an entry keeps the first attribute of each name, and these say its facts, in an index whose
  -- parts are `p`.
  unfoldable pub facts_of : Parts → Facts → DebugNamesFacts
  facts_of p f = record {
    compile_unit = handed compile_unit_fact (compile_unit_of order s p f.compile_unit);
    type_unit = handed type_unit_fact (type_unit_of order s p f.type_unit);
    die_offset = handed die_offset_fact (die_offset_of f.die_offset);
    parent = handed parent_fact (parent_of f.parent);
    type_hash = handed type_hash_fact (type_hash_of f.type_hash);
  }
