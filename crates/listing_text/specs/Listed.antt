-- What a program that prints the texts of its steps prints (SPECIFICATION 13.3). The law `text-listed` of
-- proofs/TextLaws.antt proves it.
use Rattle.std.specs.Prelude.{ℕ, ◌≡◌, List, [], ◌∷◌, map, Option, Some, None}
use Rattle.listing.specs.declared.lines.ListingIter.{ListingIter}
use Rattle.listing.specs.Lines.{first_line}
use Rattle.line_text.specs.Room.{shown}
use Rattle.line_text.specs.declared.LineText.{LineText}
use Rattle.listing_text.specs.declared.TextStep.{TextStep}
use Rattle.listing_text.specs.Listing.{joined, section_text}
use Rattle.listing_text.specs.Written.{written_of, text_step}
use Rattle.reader.specs.Parts.{Section}

-- The steps that a program makes from a cursor on: each is given the cursor of the one before it, and the
-- last is the first that prints nothing.
pub data StepsFrom (s : Section) : ListingIter → List TextStep → Type 0 where
  last_step : {c : ListingIter} {t : TextStep} → written_of t ≡ text_step s c → ◌≡◌ {A = Option LineText} t.text None
      → StepsFrom s c (t ∷ [])
  step_then : {c : ListingIter} {t : TextStep} {ts : List TextStep} {l : LineText} → written_of t ≡ text_step s c
      → ◌≡◌ {A = Option LineText} t.text (Some l)
      → StepsFrom s t.cursor ts → StepsFrom s c (t ∷ ts)

-- what a step prints: the bytes of the text that it gives, or nothing
abbrev pub printed_bytes : Option LineText → List ℕ
printed_bytes None = []
printed_bytes (Some t) = shown t

-- The texts of these steps, one after another, are the text of the section's listing.
abbrev pub TextListed : Type 0
TextListed =
    (s : Section) (steps : List TextStep) → StepsFrom s first_line steps
    → joined (map (λ t. printed_bytes t.text) steps) ≡ section_text s
