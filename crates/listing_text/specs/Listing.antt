-- The text of a section's listing (SPECIFICATION 13.1 and 13.2): that of its lines, one after another, and,
-- where the listing is refused, that of the refusal last. `s` is the section, which is read in little order.
use Rattle.std.specs.Prelude.{ℕ, List, [], ◌∷◌, ◌++◌}
use Rattle.reader.specs.Listing.{Listing, ended, broken, item}
use Rattle.reader.specs.declared.endianity.RunTimeEndian.{RunTimeEndian}
use Rattle.listing.specs.declared.lines.Line.{Line}
use Rattle.listing.specs.Lines.{section_lines}
use Rattle.line_text.specs.Text.{line_text, refused_text}
use Rattle.reader.specs.Parts.{Section}

-- one text after another
unfoldable pub joined : List (List ℕ) → List ℕ
joined [] = []
joined (text ∷ rest) = text ++ joined rest

-- the text of a listing: that of its lines, one after another, and last that of the refusal that broke it off
unfoldable pub listing_text : Listing Line → List ℕ
listing_text ended = []
listing_text (broken number value) = refused_text number
listing_text (item l rest) = line_text l ++ listing_text rest

-- the text of the listing of a section, which is little-endian
unfoldable pub section_text : Section → List ℕ
section_text s = listing_text (section_lines RunTimeEndian.Little s)
