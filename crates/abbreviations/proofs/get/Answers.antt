-- The search from a place on is decided by the declaration there or by the table after it (`found_step`).
use borrow.Author.Tests.{ne_eqb}
use Rattle.abbreviations.proofs.AbbreviationLaws.{found_step}
use Rattle.abbreviations.proofs.get.Goals as goal

pub loop-declaration-preserved : goal.loop-declaration-preserved
loop-declaration-preserved c =
    rw (
      c.loop-declaration.invariant,
      found_step,
      ← c.in_ok-declaration.ensures,
      c.in-Some.is,
      ne_eqb _ _ c.if-declaration-code.false,
    )
