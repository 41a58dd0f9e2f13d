-- The abbreviation of a code: `names::get_abbreviation` (SPECIFICATION 8.4; DWARF 5, 6.1.1.4.7). `s` is the
-- section and `i` the index. 13 and 14 are tested first; then the first declaration with the code in the
-- index's table is answered, or none. The table of an index that was never opened may be bad: a refused
-- declaration that is met first gives its refusal. gimli hands out declarations that were read before; here
-- they are read from the bytes at each search.
use Rattle.std.specs.Prelude.{ℕ, Option}
use Rattle.reader.specs.Outcome.{Outcome, ◌>>=◌}
use Rattle.reader.specs.Parts.{Section}
use Rattle.abbreviations.specs.Abbreviations.{found}
use Rattle.index.specs.declared.layout.NameIndex.{NameIndex}
use Rattle.index.specs.Layout.{fitted}
use Rattle.abbreviations.specs.declared.NameAbbreviation.{NameAbbreviation}

-- the first declaration with the code in the index's table
unfoldable pub get_abbreviation : Section → NameIndex → ℕ → Outcome (Option NameAbbreviation)
get_abbreviation s i code = do
  p ← fitted s i
  found s p.abbreviation_table p.entry_pool code
