-- The candidates of a hash in an index (SPECIFICATION 12.3). `s` is the section, and `p` has the opened index,
-- with N names and B buckets, and the places of its parts. Where B is not 0, the lookup of the hash's bucket
-- may be refused, as `find_by_hash` is, and else the candidates are the names of the hash, those that its
-- steps answer before the first end. Where B is 0, the candidates are all names from 0 to N - 1, as DWARF 5
-- (6.1.1.4.5) searches an index without a hash table, and the hash is not looked at; gimli's `find_by_hash`
-- is refused with 1 there.
use Rattle.std.specs.Prelude.{ℕ, cond, List, eqb}
use Rattle.reader.specs.Outcome.{Outcome, answered, ◌>>◌}
use Rattle.reader.specs.Parts.{Section}
use Rattle.reader.specs.declared.endianity.RunTimeEndian.{RunTimeEndian}
use Rattle.index.specs.declared.layout.Parts.{Parts}
use Rattle.hashes.specs.Table.{bucket_of, names_from, names_of_hash}
use Rattle.hashes.specs.Lookups.{first_in_bucket}

-- a section, in its byte order, and the hash that is asked for
module _ (order : RunTimeEndian) (s : Section) (hash : ℕ) where
  -- with B not 0 the names that `find_by_hash` lists up to the first end (`HashLookups`), refused as it is;
  -- with B = 0 all names
  unfoldable pub candidates : Parts → Outcome (List ℕ)
  candidates p = cond (eqb p.index.bucket_count 0)
      (answered (names_from p.index 0))
      (do
        first_in_bucket order s p (bucket_of p.index hash)
        answered (names_of_hash order s p.index hash))
