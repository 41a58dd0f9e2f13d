-- The section query: `query`, for C `debug_names_query` (SPECIFICATION 12). `s` is .debug_names and `strs` is
-- .debug_str; `hash` is the hash and `text` has the bytes of the name that is asked for; `lent` are the
-- records that the query may write. It answers the total: how many entries there are in the series of the
-- names that match, in all indexes of the section, an entry once for each such name. The total is always that
-- of all entries, however many records are lent. At exit the lent records hold the first of the records
-- found, as many as there is room for, in the order of index, name and series, and behind them what was
-- there. The first refusal that is met refuses the query as a whole, and then no record is changed. gimli has
-- no section query.
use Rattle.std.specs.Prelude.{ℕ, List, [], ◌∷◌}
use Rattle.reader.specs.declared.endianity.RunTimeEndian.{RunTimeEndian}
use Rattle.records.specs.declared.record.Record.{Record}
use Rattle.section_records.specs.Records.{section_records}
use Rattle.query_plan.specs.Plans.{Queried, queried}
use Rattle.reader.specs.Parts.{Section}

-- Records over records that were lent, one after another: each lent record is overwritten as long as there
-- are records, and those past the last that is written stay as they were.
unfoldable pub overlaid : List Record → List Record → List Record
overlaid [] lent = lent
overlaid (r ∷ all) [] = []
overlaid (r ∷ all) (old ∷ lent) = r ∷ overlaid all lent

-- a section, in its byte order, with its strings; and the name that is asked for, with its hash
module _ (order : RunTimeEndian) (s strs : Section) (hash : ℕ) (text : List ℕ) where
  -- the query of a section: the total is always the full one, and a refusal changes no record
  unfoldable pub section_query : List Record → Queried
  section_query lent = record {
    answer = (queried (section_records order s strs hash text)).answer;
    records = overlaid (queried (section_records order s strs hash text)).records lent;
  }
