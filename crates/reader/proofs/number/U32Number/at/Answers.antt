-- The library's load in the order given is the number that the bytes at the place spell.
use mathlib.Core.Path.{◌∙◌}
use Rattle.reader.proofs.NumberLaws.{little_number, big_number}
use Rattle.reader.proofs.number.U32Number.at.Goals as goal

pub returns-in-Little : goal.returns-in-Little
returns-in-Little c =
    let a = c.args in
    c.from_le_bytes.ensures ∙ little_number a.order 3 a.s.now a.at _ c.in-Little.is c.bytes_at.ensures c.requires

pub returns-in-Big : goal.returns-in-Big
returns-in-Big c =
    let a = c.args in
    c.from_be_bytes.ensures ∙ big_number a.order 3 a.s.now a.at _ c.in-Big.is c.bytes_at-in-Big.ensures c.requires
