-- `attributes::facts::read_facts` meets its contract: the facts so far are those of a list of attributes, and
-- what is answered are those of this list and of the attributes that are left to read behind it
-- (`facts_step`). Each pair takes a byte.
use Rattle.attributes.proofs.AttributeLaws.{facts_behind}
use Rattle.reader.specs.Parts.{left_at}
use mathlib.Core.Path.{◌≡◌}
use mathlib.Core.List.{List}
use Rattle.attributes.specs.Attributes.{NameAttribute, facts}
use Rattle.attributes.specs.Inner.{facts_read}
use Rattle.attributes.proofs.facts.read_facts.Given as goal

abbrev pub invariant-loop-a : goal.invariant-loop-a
invariant-loop-a l =
    (list : List NameAttribute)
    × (l.facts ≡ facts list)
    × (facts_read l.order l.s l.pairs l.pairs_end l.at l.end ≡ facts_behind list l.order l.s l.pair l.pairs_end l.place l.end)

abbrev pub decreases-loop-a : goal.decreases-loop-a
decreases-loop-a l = left_at l.s l.pair l.pairs_end
