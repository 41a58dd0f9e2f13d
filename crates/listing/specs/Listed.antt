-- What a program that prints the lines of all steps prints: one theorem about lists of steps of any length
-- (SPECIFICATION 13.3).
-- The law `lines_listed` of proofs/LineLaws.antt proves it.
use Rattle.std.specs.Prelude.{List}
use Rattle.reader.specs.Steps.{Linked, ListsInOrder, answers, Taken}
use Rattle.reader.specs.Listing.{answers_of}
use Rattle.reader.specs.declared.endianity.RunTimeEndian.{RunTimeEndian}
use Rattle.listing.specs.Lines.{section_lines, first_line, line_step}
use Rattle.listing.specs.declared.lines.Line.{Line}
use Rattle.listing.specs.declared.lines.ListingIter.{ListingIter}
use Rattle.reader.specs.Parts.{Section}

-- Whatever list of steps follows the first cursor, each given the cursor of the one before: their answers up
-- to the first end are the beginning of the section's lines, in order and without a gap, a refusal with its
-- number and value in the place of its line and last; and the first end is the first step before which all
-- lines are answered.
abbrev pub LinesListed : Type 0
LinesListed =
    (order : RunTimeEndian) (s : Section) (steps : List (Taken Line ListingIter))
    → Linked (line_step order s) first_line steps
    → ListsInOrder (answers steps) (answers_of (λ l. l) (section_lines order s))
