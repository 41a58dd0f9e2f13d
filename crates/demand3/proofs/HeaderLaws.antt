-- What linked header steps that reach an end answered are all headers of the section.
use Prim.Native.Nat.{ℕ, ◌≤◌}
use mathlib.Core.Path.{◌≡◌, refl, sym, ap, ap₂, ◌∙◌}
use mathlib.Core.Bool.{Bool, true, false, cond}
use mathlib.Core.List.{List, [], ◌∷◌, map}
use Rattle.std.specs.Prelude.{Option, Some, None}
use Rattle.reader.proofs.OutcomeLaws.{some-injective}
use native.Mathlib.Omega.{arith}
use lib.ListN.{length}
use lib.Seq.{take_all}
use lib.Dec.{leb}
use borrow.Author.Tests.{ltb-true, le-leb}
use Rattle.reader.specs.Outcome.{Outcome, answered, refused, ◌>>=◌}
use Rattle.reader.specs.Errors.{longest}
use Rattle.reader.specs.Steps.{Linked, has_end, up_to_end, ListsInOrder, answers, Taken}
use Rattle.reader.specs.Listing.{Listing, ended, broken, item, listed, answers_of}
use Rattle.reader.specs.declared.endianity.RunTimeEndian.{RunTimeEndian}
use Rattle.reader.proofs.OutcomeLaws.{refused-answered, same_answer}
use Rattle.reader.proofs.ListLaws.{nil_cons, head-same, tail_same}
use Rattle.reader.proofs.StepLaws.{Next, at-end, gives_item, gives_refusal, steps_list}
use Rattle.headers.specs.declared.header.NameIndexHeader.{NameIndexHeader}
use Rattle.headers.specs.declared.headers.NameIndexHeaderIter.{NameIndexHeaderIter}
use Rattle.headers.specs.Header.{header}
use Rattle.headers.specs.Headers.{first_header, after_header, header_step, header_at, headers_from}
use Rattle.headers.proofs.HeaderLaws.{header-fits, headers_step, header_step_at}
use Rattle.demand3.specs.Expected.{OpenIndex}
use Rattle.demand3.specs.Demand3.{header_answers}

-- a list that ends, with these items
unfoldable pub all_of : {A : Type 0} → List A → Listing A
all_of [] = ended
all_of (a ∷ rest) = item a (all_of rest)

-- a list whose steps answer these items has them
pub answers-all : {A B : Type 0} (f : B → A) (l : Listing A) (bs : List B) → answers_of (λ a. a) l ≡ map (λ b. answered (Some (f b))) bs → l ≡ all_of (map f bs)
unfolding answers_of all_of
answers-all f ended [] e = refl
answers-all f ended (b ∷ bs) e = absurd (nil_cons e)
answers-all f (broken n v) [] e = absurd (nil_cons (sym e))
answers-all f (broken n v) (b ∷ bs) e = absurd (refused-answered (head-same e))
answers-all f (item a rest) [] e = absurd (nil_cons (sym e))
answers-all f (item a rest) (b ∷ bs) e =
    ap₂ (λ x l. item x l) (some-injective _ _ (same_answer (head-same e))) (answers-all f rest bs (tail_same e))

module _ (order : RunTimeEndian) (s : List ℕ) (short : length s ≤ longest) where
  abbrev Inside : NameIndexHeaderIter → Type 0
  Inside c = c.at ≤ length s

  abbrev left : NameIndexHeaderIter → List (Outcome (Option NameIndexHeader))
  left c = answers_of (λ h. h) (headers_from order s c.at)

  -- at the section's end there are no headers
  none_past : headers_from order s (length s) ≡ ended
  unfolding header_at
  none_past = headers_step order s (length s) ∙ rw (le-leb (length s) (length s) (omega arith))

  each : (c : NameIndexHeaderIter) → Inside c → Next (header_step order s) Inside left c
  unfolding header_at after_header answers_of
  each c inside = by_place (leb (length s) c.at) (header order s c.at) refl (header_step_at order s c short inside) (ap (answers_of λ h. h) (headers_step order s c.at))
    where
      by_place : (t : Bool) (o : Outcome NameIndexHeader) → header order s c.at ≡ o
          → header_step order s c ≡ cond t (record { answer = answered None; cursor = c }) (after_header s o)
          → left c ≡ answers_of (λ h. h) (listed (cond t (answered None) (o >>= λ h. answered (Some h))) λ h. headers_from order s h.content.end)
          → Next (header_step order s) Inside left c
      by_place true o read step has = at-end has (ap (λ t. t.answer) step)
      by_place false (answered h) read step has =
          let (ahead, begins, ends) = header-fits order s c.at h read in
          gives_item h (rw step has) (ap (λ t. t.answer) step) (rw step ends)
      by_place false (refused n v) read step has = gives_refusal n v (rw (step, none_past) has) (ap (λ t. t.answer) step) (rw step (omega arith))

  pub headers_listed : (steps : List (Taken NameIndexHeader NameIndexHeaderIter)) → Linked (header_step order s) first_header steps → ListsInOrder (header_answers steps) (answers_of (λ h. h) (headers_from order s 0))
  unfolding first_header
  headers_listed steps linked = steps_list (header_step order s) Inside left each steps (record { at = 0 }) (omega arith) linked

  pub headers_all : (steps : List (Taken NameIndexHeader NameIndexHeaderIter)) (opened : List OpenIndex) → Linked (header_step order s) first_header steps → has_end (header_answers steps) ≡ true
      → up_to_end (header_answers steps) ≡ map (λ o. answered (Some o.header)) opened → headers_from order s 0 ≡ all_of (map (λ o. o.header) opened)
  headers_all steps opened linked reached answers =
      let (same, end) = headers_listed steps linked in
      let more = ltb-true (length (answers_of (λ h. h) (headers_from order s 0))) (length (header_answers steps)) (sym end ∙ reached) in
      answers-all (λ o. o.header) (headers_from order s 0) opened
      (sym (take_all (length (header_answers steps)) (answers_of (λ h. h) (headers_from order s 0)) (omega arith)) ∙ sym same ∙ answers)
