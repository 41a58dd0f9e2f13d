-- `listing::lines::ListingIter::next_index` meets its contract: no more indexes were listed than there are bytes before the header.
use mathlib.Core.Path.{sym, ap}
use native.Mathlib.Omega.{arith}
use Rattle.reader.proofs.ErrorLaws.{longest_most}
use Rattle.headers.proofs.HeaderLaws.{steps_forward}
use Rattle.listing.proofs.LineLaws.{step_short}
use Rattle.listing.proofs.lines.ListingIter.next_index.Goals as goal

pub overflow_add-self : goal.overflow_add-self
overflow_add-self c =
    let answer = rw (c.in_ok-header.was, c.in-Some.is) at (ap (λ t. t.answer) (sym c.next.ensures)) in
    let (ahead, inside) = steps_forward _ _ _ _ answer in
    let short = step_short _ _ _ _ answer in
    let few = c.if-self.false in
    omega (arith, longest_most)
