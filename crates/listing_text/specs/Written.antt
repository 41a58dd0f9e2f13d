-- What a step of the listing prints, in little order: `next_text` (SPECIFICATION 13.3). `s` is the section
-- and `c` a cursor. It is the text of the line that the step answers, or of the refusal in its place, and
-- nothing where the listing is over.
use Rattle.std.specs.Prelude.{ℕ, List, Option, Some, None}
use Rattle.reader.specs.Outcome.{Outcome, answered, refused}
use Rattle.reader.specs.Steps.{Step}
use Rattle.reader.specs.declared.endianity.RunTimeEndian.{RunTimeEndian}
use Rattle.listing.specs.declared.lines.Line.{Line}
use Rattle.listing.specs.declared.lines.ListingIter.{ListingIter}
use Rattle.listing.specs.Lines.{line_step}
use Rattle.line_text.specs.Text.{line_text, refused_text}
use Rattle.line_text.specs.Room.{shown}
use Rattle.line_text.specs.declared.LineText.{LineText}
use Rattle.listing_text.specs.declared.TextStep.{TextStep}
use Rattle.reader.specs.Parts.{Section}

-- what is printed, which is nothing where no line follows, and the cursor after it
pub record Written : Type 0 where
  pub text : Option (List ℕ)
  pub cursor : ListingIter

-- the same of what the code gives: the bytes of its text
abbrev pub printed : Option LineText → Option (List ℕ)
printed None = None
printed (Some t) = Some (shown t)

abbrev pub written_of : TextStep → Written
written_of t = record { text = printed t.text; cursor = t.cursor }

-- what is printed for a step's answer
abbrev pub answer_text : Outcome (Option Line) → Option (List ℕ)
answer_text (answered None) = None
answer_text (answered (Some l)) = Some (line_text l)
answer_text (refused number value) = Some (refused_text number)

abbrev pub written_for : Step Line ListingIter → Written
written_for t = record { text = answer_text t.answer; cursor = t.cursor }

-- the step: that of the listing, little-endian, and its text
unfoldable pub text_step : Section → ListingIter → Written
text_step s c = written_for (line_step RunTimeEndian.Little s c)
