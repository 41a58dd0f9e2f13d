-- What each call of the crate answers. Entries, Series and Facts follow the files of src/. Sanity: what is
-- proved of these. Demand3: demand 3 for entry lookups. Inner: what only the code needs.
pub mod Entries
pub mod Series
pub mod Facts
pub mod Sanity
pub mod Demand3
pub mod Inner
