-- The examples of specs/Sanity.antt, by computation.
use mathlib.Core.Path.{refl}
use Rattle.line_text.specs.Text.{bytes, digits_in, decimal, index_text, name_text, line_text, refused_text}
use Rattle.line_text.specs.Sanity.{LinesAsWritten}

pub lines_as_written : LinesAsWritten
unfolding line_text index_text name_text refused_text decimal digits_in bytes
lines_as_written = refl
