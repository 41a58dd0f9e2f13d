-- The records of an index (SPECIFICATION 12.3 to 12.5). `s` is .debug_names and `strs` is .debug_str; `hash`
-- is the hash and `text` has the bytes of the name that is asked for; `p` has the opened index with the
-- places of its parts, and `offset` is its place in the section. They are the records of the series of each
-- candidate that matches, in the order of the names' numbers: the series of one that matches is read before
-- the next candidate is looked at, and a series that two of them share counts twice. The first refusal that
-- is met breaks the list off.
use Rattle.std.specs.Prelude.{ℕ, List}
use Rattle.reader.specs.Listing.{Listing, ended, broken, item, or_broken, followed_by}
use Rattle.reader.specs.declared.endianity.RunTimeEndian.{RunTimeEndian}
use Rattle.index.specs.declared.layout.Parts.{Parts}
use Rattle.records.specs.declared.record.Record.{Record}
use Rattle.index_query.specs.Candidates.{candidates}
use Rattle.index_query.specs.Matching.{name_matches, matching}
use Rattle.index_query.specs.Series.{series_records}
use Rattle.reader.specs.Parts.{Section}

-- a section with its strings, in its byte order, and the name that is asked for, with its hash
module _ (order : RunTimeEndian) (s strs : Section) (hash : ℕ) (text : List ℕ) where
  -- the records of the entries of these names, one name after another
  unfoldable pub all_series : ℕ → Parts → Listing ℕ → Listing Record
  all_series offset p ended = ended
  all_series offset p (broken n v) = broken n v
  all_series offset p (item name rest) = followed_by (series_records order s offset p name) (all_series offset p rest)

  -- the records of an index: those of the candidates that match
  unfoldable pub index_records : ℕ → Parts → Listing Record
  index_records offset p =
      or_broken (candidates order s hash p) λ names. all_series offset p (matching (name_matches order s strs text p) names)
