-- What the table check answers. Check: the check, by the names that are missed. Segments: how the code goes
-- through the names. Demand3: when a table is complete. Sanity: which names are missed, what an incomplete
-- answer names, and that this changes nothing else that the check tells.
pub mod Check
pub mod Segments
pub mod Demand3
pub mod Sanity
