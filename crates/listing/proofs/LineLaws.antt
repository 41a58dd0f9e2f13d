-- Laws of lines: what a cursor has left to list, and that the steps list it.
use Prim.Native.Nat.{ℕ, ◌+◌, ◌≤◌}
use mathlib.Core.Path.{◌≡◌, refl, sym, ap, ◌∙◌}
use mathlib.Core.Bool.{Bool, true, false, cond}
use mathlib.Core.Logic.{◌⊎◌, inl, inr}
use mathlib.Core.List.{List, [], ◌∷◌}
use Rattle.std.specs.Prelude.{Option, Some, None}
use native.Mathlib.Omega.{arith}
use lib.ListN.{length}
use lib.Dec.{ltb, leb, eqb}
use borrow.Author.Tests.{ltb-false, le-ltb}
use Rattle.reader.specs.Outcome.{Outcome, answered, refused, ◌>>=◌, ◌>>◌, refuse_if}
use Rattle.reader.specs.Errors.{longest}
use Rattle.reader.specs.Steps.{Step, keeping}
use Rattle.reader.specs.Listing.{Listing, ended, broken, item, listed, or_broken, answers_of}
use Rattle.reader.specs.declared.endianity.RunTimeEndian.{RunTimeEndian}
use Rattle.reader.proofs.OutcomeLaws.{refused-answered}
use Rattle.reader.proofs.ListLaws.{false_true}
use Rattle.reader.proofs.StepLaws.{Next, at-end, gives_item, gives_refusal, steps_list}
use Rattle.headers.specs.declared.header.NameIndexHeader.{NameIndexHeader}
use Rattle.headers.specs.declared.headers.NameIndexHeaderIter.{NameIndexHeaderIter}
use Rattle.headers.specs.Header.{header}
use Rattle.headers.specs.Headers.{after_header, header_step, header_at, headers_from}
use Rattle.headers.proofs.HeaderLaws.{header-fits, headers_step, header_step_at}
use Rattle.reader.specs.Lists.{numbers_from}
use Rattle.index.specs.Layout.{no_index}
use Rattle.hashes.specs.Table.{names_from}
use Rattle.hashes.proofs.TableLaws.{names_step}
use Rattle.listing.specs.declared.name.NameLine.{NameLine}
use Rattle.listing.specs.declared.index_line.Opened.{Opened}
use Rattle.listing.specs.declared.lines.Line.{Line}
use Rattle.listing.specs.declared.lines.ListingIter.{ListingIter}
use Rattle.listing.specs.Names.{name_line}
use Rattle.listing.specs.Indexes.{opened_index}
use Rattle.listing.specs.Lines.{name_lines, header_lines, section_lines, first_line, ended_at, past_name, past_index, line_or, header_line, head_step, line_step}
use Rattle.listing.specs.Listed.{LinesListed}

-- a step that gives a header is one over a section that is not too long
pub step_short : (order : RunTimeEndian) (s : List ℕ) (c : NameIndexHeaderIter) (h : NameIndexHeader) → (header_step order s c).answer ≡ answered (Some h) → length s ≤ longest
unfolding header_step
step_short order s c h = tested (ltb longest (length s)) refl
  where
    after : Outcome (Step NameIndexHeader NameIndexHeaderIter)
    after = refuse_if (ltb (length s) c.at) 14 0 >> answered (cond (eqb c.at (length s)) (record { answer = answered None; cursor = c }) (after_header s (header order s c.at)))

    tested : (t : Bool) → ltb longest (length s) ≡ t → (keeping c (refuse_if t 13 0 >> after)).answer ≡ answered (Some h) → length s ≤ longest
    tested true e same = absurd (refused-answered same)
    tested false e same = ltb-false longest (length s) e

module _ (order : RunTimeEndian) (s : List ℕ) where
  -- the lines of the headers from a place on
  abbrev pub lines_at : ℕ → ℕ → Listing Line
  lines_at count at = or_broken (refuse_if (ltb longest (length s)) 13 0) λ u. header_lines order s count (headers_from order s at)

  -- the lines that a cursor has left
  abbrev pub remaining : ListingIter → Listing Line
  remaining c = name_lines order s c.index (names_from c.index c.name.0) (lines_at c.listed c.at)

  abbrev pub left : ListingIter → List (Outcome (Option Line))
  left c = cond c.done [] (answers_of (λ l. l) (remaining c))

  -- a cursor that the steps give: it has ended, or its place is inside the section and past a byte for each index
  abbrev pub Reached : ListingIter → Type 0
  Reached c = (c.done ≡ true) ⊎ ((c.at ≤ length s) × (c.listed ≤ c.at))

  abbrev pub NextLine : ListingIter → Type 0
  NextLine c = Next (line_step order s) Reached left c

  -- where the step and what is left are known
  gives_line : (c : ListingIter) (l : Line) (d : ListingIter) (rest : Listing Line) → line_step order s c ≡ record { answer = answered (Some l); cursor = d }
      → left c ≡ answers_of (λ l. l) (item l rest) → answers_of (λ l. l) rest ≡ left d → Reached d → NextLine c
  unfolding answers_of
  gives_line c l d rest step now after reached = gives_item l (rw (step, sym after) now) (ap (λ t. t.answer) step) (rw step reached)

  gives_end : (c : ListingIter) (n v : ℕ) → line_step order s c ≡ record { answer = refused n v; cursor = ended_at c } → left c ≡ answers_of (λ l. l) (broken n v) → NextLine c
  unfolding answers_of
  gives_end c n v step now = gives_refusal n v (rw step now) (ap (λ t. t.answer) step) (rw step (inl refl))

  -- after the last line there is none
  none_more : answers_of {A = Line} (λ l. l) ended ≡ []
  unfolding answers_of
  none_more = refl

  -- the next index, by the header at the cursor's place
  at-header : (c : ListingIter) → c.at ≤ length s → c.listed ≤ c.at → line_step order s c ≡ head_step order s c → left c ≡ answers_of (λ l. l) (lines_at c.listed c.at) → NextLine c
  unfolding head_step header_step header_lines header_at after_header
  at-header c inside few step now = by_length (ltb longest (length s)) refl
    where
      -- the step where the section is not too long
      head : length s ≤ longest → line_step order s c
          ≡ line_or c (cond (leb (length s) c.at) (record { answer = answered None; cursor = record { at = c.at } }) (after_header s (header order s c.at))).answer (header_line order s c)
      head short = step ∙ rw (le-ltb c.at c.listed few, header_step_at order s (record { at = c.at }) short inside)

      by_opened : (h : NameIndexHeader) (o : Outcome Opened) → header order s c.at ≡ answered h → opened_index order s h ≡ o → ltb longest (length s) ≡ false
          → line_step order s c ≡ line_or c o (λ o. record { answer = answered (Some (Line.Index o.line)); cursor = past_index c h o.index })
          → left c ≡ answers_of (λ l. l) (or_broken o λ o. item (Line.Index o.line) (name_lines order s o.index (names_from o.index 0) (header_lines order s (c.listed + 1) (headers_from order s h.content.end))))
          → NextLine c
      by_opened h (answered o) read opened short went has =
          let (ahead, begins, ends) = header-fits order s c.at h read in
          gives_line c (Line.Index o.line) (past_index c h o.index) _ went has (rw short) (inr (ends, omega arith))
      by_opened h (refused n v) read opened short went has = gives_end c n v went has

      by_header : (t : Bool) (o : Outcome NameIndexHeader) → header order s c.at ≡ o → ltb longest (length s) ≡ false
          → line_step order s c ≡ line_or c (cond t (record { answer = answered None; cursor = record { at = c.at } }) (after_header s o)).answer (header_line order s c)
          → left c ≡ answers_of (λ l. l) (header_lines order s c.listed (listed (cond t (answered None) (o >>= λ h. answered (Some h))) λ h. headers_from order s h.content.end))
          → NextLine c
      by_header true o read short went has = gives_line c (Line.Indexes c.listed) (ended_at c) ended went has none_more (inl refl)
      by_header false (answered h) read short went has = by_opened h (opened_index order s h) read refl short went has
      by_header false (refused n v) read short went has = gives_end c n v went has

      by_length : (t : Bool) → ltb longest (length s) ≡ t → NextLine c
      by_length true e = gives_end c 13 0 (step ∙ rw (le-ltb c.at c.listed few, e)) (now ∙ rw e)
      by_length false e = by_header (leb (length s) c.at) (header order s c.at) refl e (head (ltb-false longest (length s) e)) (now ∙ rw (e, headers_step order s c.at))

  -- what each step answers is the first of what its cursor has left
  pub each : (c : ListingIter) → Reached c → NextLine c
  unfolding line_step name_lines
  each c reached = by_done c.done refl reached
    where
      by_name : (o : Outcome NameLine) → c.done ≡ false → name_line order s c.index c.name ≡ o → (c.at ≤ length s) × (c.listed ≤ c.at)
          → line_step order s c ≡ line_or c o (λ l. record { answer = answered (Some (Line.Name l)); cursor = past_name c })
          → left c ≡ answers_of (λ l. l) (or_broken o λ l. item (Line.Name l) (name_lines order s c.index (names_from c.index (c.name.0 + 1)) (lines_at c.listed c.at)))
          → NextLine c
      by_name (answered l) still line bounds went has = gives_line c (Line.Name l) (past_name c) _ went has refl (inr bounds)
      by_name (refused n v) still line bounds went has = gives_end c n v went has

      by_names : (t : Bool) → c.done ≡ false → (c.at ≤ length s) × (c.listed ≤ c.at)
          → line_step order s c ≡ cond t (head_step order s c) (line_or c (name_line order s c.index c.name) λ l. record { answer = answered (Some (Line.Name l)); cursor = past_name c })
          → left c ≡ answers_of (λ l. l) (name_lines order s c.index (cond t [] (c.name.0 ∷ names_from c.index (c.name.0 + 1))) (lines_at c.listed c.at))
          → NextLine c
      by_names true still (inside, few) went has = at-header c inside few went has
      by_names false still bounds went has = by_name (name_line order s c.index c.name) still refl bounds went has

      by_done : (t : Bool) → c.done ≡ t → (c.done ≡ true) ⊎ ((c.at ≤ length s) × (c.listed ≤ c.at)) → NextLine c
      by_done true e g = at-end (rw e) (ap (λ t. t.answer) (line_step_done e))
        where
          line_step_done : c.done ≡ true → line_step order s c ≡ record { answer = answered None; cursor = c }
          line_step_done e = rw e
      by_done false e (inl h) = absurd (false_true (sym e ∙ h))
      by_done false e (inr bounds) = by_names (leb c.index.name_count c.name.0) e bounds (rw e) (rw (e, names_step c.index c.name.0))

-- the first cursor is one that the steps give, and has all lines left
pub first-reached : (order : RunTimeEndian) (s : List ℕ) → Reached order s first_line
unfolding first_line
first-reached order s = inr (omega arith, omega arith)

pub first-left : (order : RunTimeEndian) (s : List ℕ) → left order s first_line ≡ answers_of (λ l. l) (section_lines order s)
unfolding section_lines first_line no_index name_lines names_from numbers_from
first-left order s = refl

pub lines_listed : LinesListed
lines_listed order s steps linked =
    rw (sym (first-left order s)) (steps_list (line_step order s) (Reached order s) (left order s) (each order s) steps first_line (first-reached order s) linked)
