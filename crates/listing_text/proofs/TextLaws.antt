-- The texts of the steps, one after another, are the text of the listing.
use Prim.Native.Nat.{ℕ}
use mathlib.Core.Path.{◌≡◌, refl, sym, ap, ◌∙◌}
use mathlib.Core.List.{List, [], ◌∷◌, map, ◌++◌, append-nil}
use Rattle.std.specs.Prelude.{Option, Some, None}
use Rattle.reader.specs.Outcome.{Outcome, answered, refused}
use Rattle.reader.specs.Steps.{Step}
use Rattle.reader.specs.Listing.{Listing, ended, broken, item, answers_of}
use Rattle.reader.specs.declared.endianity.RunTimeEndian.{RunTimeEndian}
use Rattle.reader.proofs.OutcomeLaws.{none-ne-some, some-injective}
use Rattle.reader.proofs.StepLaws.{at-end, gives_item, gives_refusal}
use Rattle.listing.specs.declared.lines.Line.{Line}
use Rattle.listing.specs.declared.lines.ListingIter.{ListingIter}
use Rattle.listing.specs.Lines.{section_lines, first_line, line_step}
use Rattle.listing.proofs.LineLaws.{left, Reached, NextLine, each, first-reached, first-left}
use Rattle.line_text.specs.Text.{line_text, refused_text}
use Rattle.listing_text.specs.declared.TextStep.{TextStep}
use Rattle.listing_text.specs.Listing.{joined, listing_text, section_text}
use Rattle.listing_text.specs.Written.{written_of, written_for, answer_text, text_step}
use Rattle.listing_text.specs.Listed.{StepsFrom, last_step, step_then, printed_bytes, TextListed}

-- the texts of what steps have to answer are the text of the listing
abbrev text_or_nothing : Option (List ℕ) → List ℕ
text_or_nothing None = []
text_or_nothing (Some text) = text

abbrev joined_left : List (Outcome (Option Line)) → List ℕ
joined_left os = joined (map (λ o. text_or_nothing (answer_text o)) os)

joined-answers : (l : Listing Line) → joined_left (answers_of (λ l. l) l) ≡ listing_text l
unfolding joined answers_of listing_text
joined-answers ended = refl
joined-answers (broken number value) = append-nil (refused_text number)
joined-answers (item l rest) = ap (λ t. line_text l ++ t) (joined-answers rest)

module _ (s : List ℕ) where
  -- the step of the listing, what a cursor has left, and a cursor that the steps give
  abbrev step_of : ListingIter → Step Line ListingIter
  step_of c = line_step RunTimeEndian.Little s c

  abbrev left_of : ListingIter → List (Outcome (Option Line))
  left_of c = left RunTimeEndian.Little s c

  abbrev Given : ListingIter → Type 0
  Given c = Reached RunTimeEndian.Little s c

  abbrev texts : List TextStep → List ℕ
  texts steps = joined (map (λ t. printed_bytes t.text) steps)

  -- what is printed for a step whose answer is known
  written-answer : (c : ListingIter) (t : TextStep) (o : Outcome (Option Line)) → written_of t ≡ text_step s c → (step_of c).answer ≡ o
      → written_of t ≡ written_for (record { answer = o; cursor = (step_of c).cursor })
  unfolding text_step
  written-answer c t o is answer = is ∙ ap (λ a. written_for (record { answer = a; cursor = (step_of c).cursor })) answer

  -- what the steps from a cursor on print is the text of what the cursor has left
  from : (steps : List TextStep) (c : ListingIter) → Given c → StepsFrom s c steps → texts steps ≡ joined_left (left_of c)
  unfolding joined
  from [] c given made = elim made [ ]
  from (t ∷ []) c given (last_step is none) = by_next (each RunTimeEndian.Little s c given)
    where
      by_next : NextLine RunTimeEndian.Little s c → texts (t ∷ []) ≡ joined_left (left_of c)
      by_next (at-end none_left answer) = rw (none, none_left)
      by_next (gives_item l rest answer ready) = absurd (none-ne-some _ (rw none at (ap (λ w. w.text) (written-answer c t (answered (Some l)) is answer))))
      by_next (gives_refusal n v rest answer ready) = absurd (none-ne-some _ (rw none at (ap (λ w. w.text) (written-answer c t (refused n v) is answer))))
  from (t ∷ ts) c given (step_then {l = k} is some linked) = by_next (each RunTimeEndian.Little s c given) (λ d ready same. from ts d ready (rw (sym same) linked))
    where
      by_next : NextLine RunTimeEndian.Little s c → ((d : ListingIter) → Given d → t.cursor ≡ d → texts ts ≡ joined_left (left_of d))
          → texts (t ∷ ts) ≡ joined_left (left_of c)
      by_next (at-end none_left answer) more =
          absurd (none-ne-some _ (sym (rw some at (ap (λ w. w.text) (written-answer c t (answered None) is answer)))))
      by_next (gives_item l rest answer ready) more =
          let w = written-answer c t (answered (Some l)) is answer in
          let others = more (step_of c).cursor ready (ap (λ w. w.cursor) w) in
          let own = some-injective _ _ (rw some at (ap (λ w. w.text) w)) in
          rw some (ap (λ u. u ++ texts ts) own) ∙ ap (λ u. line_text l ++ u) others ∙ sym (ap joined_left rest)
      by_next (gives_refusal n v rest answer ready) more =
          let w = written-answer c t (refused n v) is answer in
          let others = more (step_of c).cursor ready (ap (λ w. w.cursor) w) in
          let own = some-injective _ _ (rw some at (ap (λ w. w.text) w)) in
          rw some (ap (λ u. u ++ texts ts) own) ∙ ap (λ u. refused_text n ++ u) others ∙ sym (ap joined_left rest)

pub text-listed : TextListed
unfolding section_text
text-listed s steps made =
    from s steps first_line (first-reached RunTimeEndian.Little s) made
    ∙ ap joined_left (first-left RunTimeEndian.Little s)
    ∙ joined-answers (section_lines RunTimeEndian.Little s)
