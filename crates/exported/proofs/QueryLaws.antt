-- The exported query: a refused one changes no record, and one that is not refused finds what is expected, of the code's own steps over the headers and
-- of the structs that the exported calls give.
use Prim.Native.Nat.{ℕ, ◌≤◌}
use mathlib.Core.Path.{◌≡◌, refl, sym, ap, ap₂, ◌∙◌}
use mathlib.Core.Bool.{true}
use mathlib.Core.Logic.{◌⊎◌, inl, inr}
use mathlib.Core.List.{List, [], ◌∷◌, ◌++◌, map, flat_map}
use native.Mathlib.Omega.{arith}
use borrow.Author.Tests.{eqb-false}
use Rattle.std.specs.Prelude.{Ok, Option, Some, None}
use Rattle.reader.specs.Outcome.{Outcome, answered, refused, ◌>>=◌}
use Rattle.reader.specs.Answers.{outcome}
use Rattle.reader.specs.Steps.{Step, Linked, no_steps, step_then, has_end, up_to_end, Taken}
use Rattle.reader.specs.declared.endianity.RunTimeEndian.{RunTimeEndian}
use Rattle.headers.specs.declared.header.NameIndexHeader.{NameIndexHeader}
use Rattle.headers.specs.declared.headers.NameIndexHeaderIter.{NameIndexHeaderIter}
use Rattle.headers.specs.Headers.{first_header, header_step}
use Rattle.index.specs.declared.layout.NameIndex.{NameIndex}
use Rattle.index.specs.declared.layout.Parts.{Parts}
use Rattle.index.specs.Open.{opened, name_index}
use Rattle.index.proofs.OpenLaws.{opened_fits}
use Rattle.tables.specs.declared.TableCheck.{TableCheck}
use Rattle.tables.specs.Check.{table_check}
use Rattle.records.specs.declared.record.Record.{Record}
use Rattle.query_plan.specs.Plans.{Queried}
use Rattle.query.specs.Query.{section_query}
use Rattle.query.proofs.RefusalLaws.{refused_records}
use Rattle.handles.specs.Handles.{order_of, index_from, handle_of}
use Rattle.handles.proofs.HandleLaws.{handles_describe, opens_the_same}
use Rattle.answers.specs.declared.DebugNamesAnswer.{DebugNamesAnswer}
use Rattle.answers.specs.Answers.{given, handed, open_answer, count_answer}
use Rattle.step_answers.specs.declared.DebugNamesHeaderStep.{DebugNamesHeaderStep}
use Rattle.step_answers.specs.Steps.{header_answer, table_answer}
use Rattle.demand3.specs.Expected.{OpenIndex, records_of_name, records_of_index, expected}
use Rattle.demand3.specs.Demand3.{header_answers, Each, of_none, and_then, CompleteOrNoTable}
use Rattle.demand3.proofs.QueryLaws.{query_finds}
use Rattle.exported.specs.Query.{query_answer}
use Rattle.exported.specs.Sanity.{RefusedUnchanged}
use Rattle.exported.specs.Demand3.{LinkedCalls, no_calls, call_then, next_header_call, open_call, OpensComplete, index_told, ExportedQueryFinds, ExportedFinds}
use Rattle.exported.proofs.NumberedLaws.{Numbered, step_numbered, check_numbered}

pub refused_unchanged : RefusedUnchanged
unfolding query_answer
refused_unchanged order hash s strs text lent after t is other =
    ap (λ q. q.records) is ∙ by_answer (section_query (order_of order) s strs hash text lent).answer refl (ap (λ q. q.answer) is)
  where
    by_answer : (o : Outcome ℕ) → (section_query (order_of order) s strs hash text lent).answer ≡ o → t ≡ handed count_answer o
        → (section_query (order_of order) s strs hash text lent).records ≡ lent
    by_answer (answered total) e same = absurd (eqb-false t.status 0 other (ap (λ t. t.status) same))
    by_answer (refused n v) e same = refused_records (order_of order) s strs hash text lent n v e

-- a query that gave a total was answered it
total_given : (total : ℕ) (o : Outcome ℕ) → ◌≡◌ {A = DebugNamesAnswer} (record { status = 0; kind = 1; value = total }) (handed count_answer o) → answered total ≡ o
total_given total (answered n) e = ap answered (ap (λ a. a.value) e)
total_given total (refused n v) e = let kind : ◌≡◌ {A = ℕ} 1 0 = ap (λ a. a.kind) e in absurd (omega arith)

pub exported_query_finds : ExportedQueryFinds
unfolding query_answer
exported_query_finds order s strs hash text lent after total opened opens checks given =
    query_finds (order_of order) s strs hash text lent after total opened opens checks
    (ap {B = Queried} (λ (a : Outcome ℕ). record { answer = a; records = after }) (total_given total (section_query (order_of order) s strs hash text lent).answer (ap (λ q. q.answer) given))
    ∙ ap {B = Queried} (λ (l : List Record). record { answer = (section_query (order_of order) s strs hash text lent).answer; records = l }) (ap (λ q. q.records) given))

-- a struct of a header step that gave a header, and one at the end
header_given : (o : Outcome (Option NameIndexHeader)) (next : ℕ) (t : DebugNamesHeaderStep) → t ≡ header_answer (record { answer = o; cursor = record { at = next } }) → t.kind ≡ 1
    → (h : NameIndexHeader) × (o ≡ answered (Some h)) × (t.value ≡ h.offset.0) × (t.index ≡ handle_of h) × (t.next ≡ next)
header_given (answered (Some h)) next t is one = (h, refl, ap (λ t. t.value) is, ap (λ t. t.index) is, ap (λ t. t.next) is)
header_given (answered None) next t is one = let kind : t.kind ≡ 0 = ap (λ t. t.kind) is in absurd (omega arith)
header_given (refused n v) next t is one = let kind : t.kind ≡ 0 = ap (λ t. t.kind) is in absurd (omega arith)

end_given : (o : Outcome (Option NameIndexHeader)) (next : ℕ) (t : DebugNamesHeaderStep) → Numbered o → t ≡ header_answer (record { answer = o; cursor = record { at = next } }) → t.status ≡ 0 → t.kind ≡ 0
    → o ≡ answered None
end_given (answered (Some h)) next t here is status none = let kind : t.kind ≡ 1 = ap (λ t. t.kind) is in absurd (omega arith)
end_given (answered None) next t here is status none = refl
end_given (refused n v) next t here is status none = absurd (eqb-false n 0 here (sym (ap (λ t. t.status) is) ∙ status))

-- a table check that said complete or no hash table
table_given : (o : Outcome TableCheck) → Numbered o → (table_answer o).status ≡ 0 → (table_answer o).kind ≤ 1 → (answered TableCheck.Complete ≡ o) ⊎ (answered TableCheck.NoTable ≡ o)
table_given (answered TableCheck.NoTable) here status kind = inr refl
table_given (answered TableCheck.Complete) here status kind = inl refl
table_given (answered (TableCheck.Incomplete lost)) here status kind = absurd (omega arith)
table_given (refused n v) here status kind = absurd (eqb-false n 0 here status)

-- an index that opened is the header's, and that of the handle
open_given : (o : Outcome Parts) → ◌≡◌ {A = DebugNamesAnswer} (given 1 0) (handed open_answer o) → (p : Parts) × (o ≡ answered p)
open_given (answered p) e = (p, refl)
open_given (refused n v) e = let kind : ◌≡◌ {A = ℕ} 1 0 = ap (λ a. a.kind) e in absurd (omega arith)

opens_header : (s : List ℕ) (h : NameIndexHeader) → given 1 0 ≡ open_call s (handle_of h) → answered (index_from (handle_of h)) ≡ name_index s h
opens_header s h e =
    let (p, opens) = open_given (opened s (index_from (handle_of h))) e in
    let same : name_index s h ≡ answered p.index = opens_the_same s h ∙ ap (λ o. o >>= λ p. answered p.index) opens in
    let (short, fits, described) = opened_fits s h p.index same in
    ap answered (handles_describe h ∙ sym described) ∙ sym same

module _ (number : ℕ) (s strs : List ℕ) (hash : ℕ) (text : List ℕ) where
  abbrev order : RunTimeEndian
  order = order_of number

  abbrev found_in : List OpenIndex → List (Outcome Record)
  found_in opened = expected order s strs hash text opened

  -- of two indexes that differ in their headers the same is expected where the headers' places are the same
  same_records : (i : NameIndex) (h k : NameIndexHeader) → h.offset.0 ≡ k.offset.0 → records_of_index order s strs hash text (record { header = h; index = i }) ≡ records_of_index order s strs hash text (record { header = k; index = i })
  unfolding records_of_index records_of_name
  same_records i h k e = rw e refl

  -- steps of the code from a place on that reach the end, and the opened indexes, of which the same is expected as of what the structs tell
  record Opened (at : ℕ) (headers : List DebugNamesHeaderStep) : Type 0 where
    opened : List OpenIndex
    steps : List (Taken NameIndexHeader NameIndexHeaderIter)
    linked : Linked (header_step order s) (record { at = at }) steps
    reached : has_end (header_answers steps) ≡ true
    answers : up_to_end (header_answers steps) ≡ map (λ o. answered (Some o.header)) opened
    opens : Each (λ o. outcome (Ok o.index) ≡ name_index s o.header) opened
    checks : Each (CompleteOrNoTable order s) opened
    same : found_in (map index_told headers) ≡ found_in opened

  opened_from : (headers : List DebugNamesHeaderStep) (end : DebugNamesHeaderStep) (at : ℕ) → LinkedCalls (next_header_call number s) (λ t. t.next) at (headers ++ end ∷ []) → Each (OpensComplete number s) headers
      → end.status ≡ 0 → end.kind ≡ 0 → Opened at headers
  unfolding has_end up_to_end expected flat_map
  opened_from [] end at (call_then is no_calls) of_none status kind =
      let step : Step NameIndexHeader NameIndexHeaderIter = header_step order s (record { at = at }) in
      let none = end_given step.answer step.cursor.at end (step_numbered order s (record { at = at })) is status kind in
      record {
        opened = [];
        steps = record { answer = Ok None; cursor = step.cursor } ∷ [];
        linked = step_then (ap (λ o. record { answer = o; cursor = step.cursor }) (sym none)) no_steps;
        reached = refl;
        answers = refl;
        opens = of_none;
        checks = of_none;
        same = refl;
      }
  opened_from (t ∷ headers) end at (call_then is linked) (and_then here more) status kind =
      let step : Step NameIndexHeader NameIndexHeaderIter = header_step order s (record { at = at }) in
      let (h, gave, value, handle, next) = header_given step.answer step.cursor.at t is here.header.1 in
      let rest : Opened t.next headers = opened_from headers end t.next linked more status kind in
      let opens : answered (index_from t.index) ≡ name_index s h = ap (λ i. answered (index_from i)) handle ∙ opens_header s h (rw handle at here.opens) in
      record {
        opened = record { header = h; index = index_from t.index } ∷ rest.opened;
        steps = record { answer = Ok (Some h); cursor = record { at = t.next } } ∷ rest.steps;
        linked = step_then (ap₂ {C = Step NameIndexHeader NameIndexHeaderIter} (λ (o : Outcome (Option NameIndexHeader)) (n : ℕ). record { answer = o; cursor = record { at = n } }) (sym gave) next) rest.linked;
        reached = rest.reached;
        answers = ap (λ l. answered (Some h) ∷ l) rest.answers;
        opens = and_then opens rest.opens;
        checks = and_then (table_given (table_check order s (index_from t.index)) (check_numbered order s (index_from t.index)) here.table.0 here.table.1) rest.checks;
        same = ap₂ (λ l m. l ++ m) (same_records (index_from t.index) (index_told t).header h value) rest.same;
      }

pub exported_finds : ExportedFinds
unfolding first_header
exported_finds order s strs hash text lent after total headers end linked complete (status, kind) given =
    let o = opened_from order s strs hash text headers end 0 linked complete status kind in
    let found = exported_query_finds order s strs hash text lent after total o.opened ((o.steps, o.linked, o.reached, o.answers), o.opens) o.checks given in
    rw o.same found
