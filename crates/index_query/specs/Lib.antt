-- The section query in one index. Candidates: the names to look at. Matching: those of them whose string is
-- the name. Series: the records of the series of a name. Records: those of an index. Sanity: what a reader of
-- the definitions may want to be sure of. Inner: what only the code needs.
pub mod Candidates
pub mod Matching
pub mod Series
pub mod Records
pub mod Sanity
pub mod Inner
