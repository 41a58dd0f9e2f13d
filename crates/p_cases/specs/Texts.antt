-- The listing as text: case A's, byte for byte as SPECIFICATION 16.3 has it, that of an empty section, and
-- that of a section which is refused; and the steps that a program makes over an empty section, so that
-- `TextListed`, which supposes such steps, speaks of a real case.
use Rattle.std.specs.Prelude.{ℕ, ◌≡◌, ◌-◌, false, List, [], ◌∷◌, ◌++◌, length, replicate, Some, None}
use Rattle.listing.specs.Lines.{first_line, ended_at}
use Rattle.line_text.specs.Text.{bytes}
use Rattle.line_text.specs.declared.LineText.{LineText}
use Rattle.listing_text.specs.Listing.{section_text}
use Rattle.listing_text.specs.declared.TextStep.{TextStep}
use Rattle.listing_text.specs.Listed.{StepsFrom}
use Rattle.p_cases.specs.CaseA.{case_a}

abbrev pub TextOfA : Type 0
TextOfA =
    section_text case_a
    ≡ bytes "index 0 names 3 buckets 2 missed 0\n"
    ++ bytes "name 0 hash 4 string 1 entries 1\n"
    ++ bytes "name 1 hash 7 string 5 entries 1\n"
    ++ bytes "name 2 hash 9 string 6 entries 1\n"
    ++ bytes "indexes 1\n"

abbrev pub TextOfNothing : Type 0
TextOfNothing = section_text [] ≡ bytes "indexes 0\n"

-- a length of 105, and nothing behind it: 1 at 4
abbrev pub TextRefused : Type 0
TextRefused = section_text (105 ∷ 0 ∷ 0 ∷ 0 ∷ []) ≡ bytes "refused 1\n"

-- a text of these bytes as the code's struct holds it: they stand first, and 0 in the rest of the room
abbrev pub holding : List ℕ → LineText
holding text = record { 0 = record { bytes = text ++ replicate (128 - length text) 0; len = length text; is_truncated = false } }

-- the steps over an empty section, and over one that is refused: the line, or the refusal in its place, and
-- nothing behind it
abbrev pub last_line : TextStep
last_line = record { text = Some (holding (bytes "indexes 0\n")); cursor = ended_at first_line }

abbrev pub refused_line : TextStep
refused_line = record { text = Some (holding (bytes "refused 1\n")); cursor = ended_at first_line }

abbrev pub nothing_behind : TextStep
nothing_behind = record { text = None; cursor = ended_at first_line }

abbrev pub StepsOfNothing : Type 0
StepsOfNothing = StepsFrom [] first_line (last_line ∷ nothing_behind ∷ [])

abbrev pub StepsRefused : Type 0
StepsRefused = StepsFrom (105 ∷ 0 ∷ 0 ∷ 0 ∷ []) first_line (refused_line ∷ nothing_behind ∷ [])
