-- The text of a listing's lines as lists of bytes (SPECIFICATION 13.1 and 13.2).
-- A line is its fields one after another and a line end, the byte 10. A field is its word, a blank, and its
-- number in decimal digits; each field but the first of a line has a blank before it, too. (The words below
-- are written with their blanks.) The line of an index has the fields index, names, buckets and missed; that
-- of a name has name, hash, string and entries; the last line has indexes alone. Where there is no number,
-- missed or hash of an index without buckets, a "-" stands in its place. A refusal's line is the word refused
-- and its number.
use Rattle.std.specs.Prelude.{ℕ, zero, suc, ◌+◌, ◌/◌, ◌%◌, cond, List, [], ◌∷◌, ◌++◌, ltb, Option, Some, None}
use Prim.Native.Char.{code}
use Prim.Native.String.{String, [] as no_more, ◌∷◌ as ◌then◌}
use Rattle.listing.specs.declared.name.NameLine.{NameLine}
use Rattle.listing.specs.declared.index_line.IndexLine.{IndexLine}
use Rattle.listing.specs.declared.lines.Line.{Line}
use Rattle.std.specs.Prelude.{Result, Ok, Err}
use Rattle.reader.specs.Errors.{number_of}
use Rattle.reader.specs.declared.error.Error.{Error}

-- the bytes of a word in ASCII: the codes of its characters
unfoldable pub bytes : String → List ℕ
bytes no_more = []
bytes (c then s) = code c ∷ bytes s

-- the character of a digit: that of 0 has the code 48, and that of 9 the code 57
abbrev pub digit : ℕ → ℕ
digit d = 48 + d

-- The digits of n, in so many turns at most: each turn gives the last digit and divides by 10, so n + 1 turns
-- are enough.
unfoldable pub digits_in : ℕ → ℕ → List ℕ
digits_in zero n = []
digits_in (suc turns) n =
    let before : List ℕ = digits_in turns (n / 10) in
    cond (ltb n 10) (digit n ∷ []) (before ++ (digit (n % 10) ∷ []))

-- A number in decimal digits: below 10 its one digit, else the digits of n / 10 and behind them its last
-- digit, n % 10. `DecimalSteps` of Sanity says so, without the turns.
unfoldable pub decimal : ℕ → List ℕ
decimal n = digits_in (suc n) n

-- missed and hash, which an index without buckets has not: a "-" stands in the number's place
abbrev pub or_dash : Option ℕ → List ℕ
or_dash (Some n) = decimal n
or_dash None = bytes "-"

abbrev pub line_end : List ℕ
line_end = bytes "\n"

unfoldable pub index_text : IndexLine → List ℕ
index_text l =
    bytes "index " ++ decimal l.place.0
    ++ bytes " names " ++ decimal l.name_count
    ++ bytes " buckets " ++ decimal l.bucket_count
    ++ bytes " missed "
    ++ or_dash l.missed
    ++ line_end

unfoldable pub name_text : NameLine → List ℕ
name_text l =
    bytes "name " ++ decimal l.name.0
    ++ bytes " hash "
    ++ or_dash l.hash
    ++ bytes " string " ++ decimal l.string.0
    ++ bytes " entries " ++ decimal l.entries
    ++ line_end

-- a line's text, and that of a refusal in the place of a line
unfoldable pub line_text : Line → List ℕ
line_text (Line.Index l) = index_text l
line_text (Line.Name l) = name_text l
line_text (Line.Indexes n) = bytes "indexes " ++ decimal n ++ line_end

unfoldable pub refused_text : ℕ → List ℕ
refused_text number = bytes "refused " ++ decimal number ++ line_end

-- what stands for a step's answer: the text of its line, or of the refusal in its place
abbrev pub text_of : Result Line Error → List ℕ
text_of (Ok l) = line_text l
text_of (Err e) = refused_text (number_of e)
