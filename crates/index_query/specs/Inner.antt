-- What only the code needs: what its steps leave of the records of an index. A reader of the other files need
-- not know these. `s` is .debug_names and `strs` is .debug_str; `text` has the bytes of the name that is
-- asked for, and `offset` is the place of the index in the section.
use Rattle.std.specs.Prelude.{ℕ, cond, List, [], ◌∷◌, eqb, Option, Some, None}
use Rattle.reader.specs.Listing.{Listing, item, followed_by, shown_by}
use Rattle.reader.specs.Parts.{Section}
use Rattle.reader.specs.declared.endianity.RunTimeEndian.{RunTimeEndian}
use Rattle.reader.specs.declared.reader.Read.{Read}
use Rattle.index.specs.declared.layout.Parts.{Parts}
use Rattle.hashes.specs.Table.{stored_hash, bucket_of, names_from, run_from, storing}
use Rattle.entries.specs.Series.{entries_from}
use Rattle.records.specs.declared.record.Record.{Record}
use Rattle.index_query.specs.declared.candidates.Candidate.{Candidate}
use Rattle.index_query.specs.declared.series.IndexIter.{IndexIter}
use Rattle.index_query.specs.Matching.{matching, name_matches}
use Rattle.index_query.specs.Series.{record_of_entry}
use Rattle.index_query.specs.Records.{all_series}

-- a section, in its byte order, and the hash that is asked for
module _ (order : RunTimeEndian) (s : Section) (hash : ℕ) where
  -- the candidates from a number on, as steps look for them,
  unfoldable pub candidates_from : Parts → ℕ → List ℕ
  candidates_from p name = cond (eqb p.index.bucket_count 0)
      (names_from p.index name)
      (storing (stored_hash order s p) hash (run_from p.index (stored_hash order s p) (bucket_of p.index hash) name))

  -- and what a candidate that was found leaves: it, and those after it
  abbrev pub candidates_left : Parts → Option Candidate → List ℕ
  candidates_left p None = []
  candidates_left p (Some c) = c.name.0 ∷ candidates_from p c.next

-- a section, in its byte order
module _ (order : RunTimeEndian) (s : Section) where
  -- the records of the entries from a place on, of a name;
  unfoldable pub entry_records : ℕ → Parts → ℕ → ℕ → Listing Record
  entry_records offset p name at = shown_by (record_of_entry order s offset p name) (entries_from order s p at)

  -- what an entry that was read leaves: its record, and those of the entries after it
  abbrev pub entry_left : ℕ → Parts → ℕ → Read Record → Listing Record
  entry_left offset p name r = item r.value (entry_records offset p name r.next)

-- a section with its strings, in its byte order, and the name that is asked for, with its hash
module _ (order : RunTimeEndian) (s strs : Section) (hash : ℕ) (text : List ℕ) where
  -- the names that match among the candidates from a number on,
  unfoldable pub matches_from : Parts → ℕ → Listing ℕ
  matches_from p name = matching (name_matches order s strs text p) (candidates_from order s hash p name)

  -- and what a name that was found leaves
  abbrev pub matches_left : Parts → Candidate → Listing ℕ
  matches_left p c = item c.name.0 (matches_from p c.next)

  -- the records that a cursor has left: those of the entries from its place on, and those of the names that
  -- match after it
  unfoldable pub index_left : ℕ → Parts → IndexIter → Listing Record
  index_left offset p c =
      followed_by (entry_records order s offset p c.name.0 c.at) (all_series order s strs hash text offset p (matches_from p c.next))
