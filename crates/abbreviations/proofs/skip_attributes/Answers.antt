-- The attributes from a place on are the pair there and the pairs after it (`attributes_end_step`, and `short_on` for a short pair), and each pair takes a byte.
use borrow.Author.Tests.{ne_eqb}
use native.Mathlib.Omega.{arith}
use mathlib.Core.Path.{sym}
use Rattle.abbreviations.proofs.AbbreviationLaws.{attributes_end_step, pair_forward}
use Rattle.abbreviations.proofs.skip_attributes.Goals as goal

pub loop-place-smaller : goal.loop-place-smaller
loop-place-smaller c =
    let a = c.args in
    omega (arith, pair_forward a.s.now c.loop-place.place a.end _ (sym c.in_ok-a.ensures))

pub loop-place-preserved : goal.loop-place-preserved
loop-place-preserved c =
    rw (
      c.loop-place.invariant,
      attributes_end_step,
      ← c.in_ok-a.ensures,
      ne_eqb _ _ c.if-a-eq0.false,
    )
