-- The line of a name (SPECIFICATION 13.1 and 13.2): the name's number, the hash that is stored for it, none
-- where the index has no buckets, its string offset, and how many entries its series has. `s` is the section
-- and `i` the index. 13 and 14 are tested first. Then the hash, the string offset and the series are read in
-- this order, and the first that is refused is the answer. The string itself is not read. gimli has no
-- listing.
use Rattle.reader.specs.Outcome.{Outcome, answered, ◌>>=◌}
use Rattle.reader.specs.Listing.{counted}
use Rattle.reader.specs.declared.endianity.RunTimeEndian.{RunTimeEndian}
use Rattle.reader.specs.declared.common.NameTableIndex.{NameTableIndex}
use Rattle.index.specs.declared.layout.NameIndex.{NameIndex}
use Rattle.index.specs.Layout.{fitted}
use Rattle.names.specs.Names.{name_string_offset_in}
use Rattle.hashes.specs.Table.{name_hash}
use Rattle.entries.specs.Series.{entries_of}
use Rattle.listing.specs.declared.name.NameLine.{NameLine}
use Rattle.reader.specs.Parts.{Section}

-- a section, in its byte order
module _ (order : RunTimeEndian) (s : Section) where
  unfoldable pub name_line : NameIndex → NameTableIndex → Outcome NameLine
  name_line i name = do
    p ← fitted s i
    hash ← name_hash order s p name
    string ← name_string_offset_in order s p name
    entries ← counted (entries_of order s p name)
    answered (record { name = name; hash = hash; string = string; entries = entries })
