-- The listing's text by computation.
use Prim.Native.Nat.{ℕ, ◌-◌}
use mathlib.Core.Path.{◌≡◌, refl, sym, ap}
use mathlib.Core.Bool.{Bool, true, false, cond, true≢false}
use mathlib.Core.List.{List, [], ◌∷◌}
use lib.ListN.{length, replicate}
use lib.Dec.{ltb}
use borrow.Author.Tests.{ltb-true}
use Rattle.std.specs.Prelude.{Some}
use Rattle.std.specs.Str.{IsAscii}
use Rattle.std.specs.Fmt.InlineText.{inline_text}
use Rattle.std.proofs.Math.Seq.{take-append_seam}
use Rattle.std.proofs.lemmas.Str.{is_utf8-from_IsUtf8, IsUtf8-from_ascii}
use Rattle.std.proofs.lemmas.Str.Ascii.{IsAscii-nil, IsAscii-cons}
use Rattle.reader.specs.Errors.{longest}
use Rattle.reader.specs.Parts.{skipped, cut}
use Rattle.reader.specs.Numbers.{read_number, initial_length, spelled, digits}
use Rattle.reader.specs.Listing.{listing}
use Rattle.headers.specs.Header.{header, header_cut}
use Rattle.headers.specs.Headers.{header_at, headers_from, header_step, after_header}
use Rattle.index.specs.Layout.{no_index}
use Rattle.listing.specs.Lines.{header_lines, section_lines, first_line, ended_at, head_step, line_step}
use Rattle.line_text.specs.Room.{shown}
use Rattle.line_text.specs.Text.{bytes, decimal, digits_in, index_text, name_text, line_text, refused_text}
use Rattle.listing_text.specs.Listing.{listing_text, section_text}
use Rattle.listing_text.specs.Written.{Written, text_step}
use Rattle.listing_text.specs.Listed.{step_then, last_step}
use Rattle.p_cases.specs.Texts.{holding, TextOfA, TextOfNothing, TextRefused, StepsOfNothing, StepsRefused}
use Rattle.p_cases.proofs.CaseA.{listing_of_a}

pub text_of_a : TextOfA
unfolding section_text listing_text line_text index_text name_text decimal digits_in bytes
text_of_a = let (lines, lost) = listing_of_a in ap listing_text lines

pub text_of_nothing : TextOfNothing
unfolding section_text listing_text line_text decimal digits_in bytes section_lines header_lines headers_from header_at listing longest
text_of_nothing = refl

pub text-refused : TextRefused
unfolding section_text listing_text refused_text decimal digits_in bytes section_lines header_lines headers_from header_at listing longest header header_cut initial_length read_number skipped cut spelled digits
text-refused = refl

-- A text of bytes below 128 is UTF-8, so the code's struct that holds it shows it.
unfoldable below_128 : List ℕ → Bool
below_128 [] = true
below_128 (b ∷ text) = cond (ltb b 128) (below_128 text) false

is_ascii : (text : List ℕ) → below_128 text ≡ true → IsAscii text
unfolding below_128
is_ascii [] all = IsAscii-nil
is_ascii (b ∷ text) all = by_test (ltb b 128) refl all (is_ascii text)
  where
    by_test : (v : Bool) → ltb b 128 ≡ v → cond v (below_128 text) false ≡ true → (below_128 text ≡ true → IsAscii text) → IsAscii (b ∷ text)
    by_test true e all others = IsAscii-cons b text (ltb-true b 128 e) (others all)
    by_test false e all others = absurd (true≢false (sym all))

shows : (text : List ℕ) → below_128 text ≡ true → shown (holding text) ≡ text
unfolding inline_text
shows text all =
    rw (take-append_seam text (replicate (128 - length text) 0), is_utf8-from_IsUtf8 text (IsUtf8-from_ascii text (is_ascii text all))) refl

-- the step whose text holds these bytes
abbrev step_with : List ℕ → Written
step_with text = record { text = Some text; cursor = ended_at first_line }

pub steps_of_nothing : StepsOfNothing
unfolding text_step line_step head_step header_step first_line no_index longest line_text decimal digits_in bytes below_128
steps_of_nothing = step_then (ap step_with (shows (bytes "indexes 0\n") refl)) refl (last_step refl refl)

pub steps_refused : StepsRefused
unfolding text_step line_step head_step header_step after_header first_line no_index longest refused_text decimal digits_in bytes header header_cut initial_length read_number skipped cut spelled digits below_128
steps_refused = step_then (ap step_with (shows (bytes "refused 1\n") refl)) refl (last_step refl refl)
