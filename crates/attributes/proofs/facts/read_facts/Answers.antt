-- What is answered are the facts of the attributes that were read, and of those that are left behind them
-- (`facts_step`). At first none was read, and each pair takes a byte.
use mathlib.Core.Path.{sym, ◌∙◌}
use mathlib.Core.List.{[], ◌∷◌, ◌++◌}
use Rattle.std.proofs.Common.{rules}
use native.Mathlib.Omega.{arith}
use borrow.Author.Tests.{ne_eqb}
use Rattle.abbreviations.proofs.AbbreviationLaws.{pair_forward}
use Rattle.attributes.proofs.AttributeLaws.{facts_none, facts_start, facts_step}
use Rattle.attributes.proofs.facts.read_facts.Goals as goal

pub loop-a-init : goal.loop-a-init
loop-a-init c = ([], facts_none c.default-facts.result c.default-facts.ensures, facts_start _ _ _ _ _ _)

pub returns-in_err-v : goal.returns-in_err-v
returns-in_err-v c =
    let (list, kept, is) = c.loop-a.invariant in
    rw (
      is,
      facts_step,
      ← c.in_ok-a.ensures,
      ne_eqb _ _ c.if-a-eq0.false,
      ← c.in_err-v.ensures,
    )
    (search rules)

pub loop-a-smaller : goal.loop-a-smaller
loop-a-smaller c =
    let a = c.args in
    omega (arith, pair_forward a.s.now c.loop-a.pair a.pairs_end _ (sym c.in_ok-a.ensures))

pub loop-a-preserved : goal.loop-a-preserved
loop-a-preserved c =
    let (list, kept, is) = c.loop-a.invariant in (
      list ++ (record { name = c.in_ok-a.a.name; form = c.in_ok-a.a.form; value = c.in_ok-v.v.value } ∷ []),
      c.keep.ensures list kept,
      is ∙ rw (
        facts_step,
        ← c.in_ok-a.ensures,
        ne_eqb _ _ c.if-a-eq0.false,
        ← c.in_ok-v.ensures,
      ),
    )
