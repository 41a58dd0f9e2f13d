-- What each call of the crate answers. Table: what the hash table of an index stores, the run of a bucket,
-- and the names of a hash. Lookups: the calls and their steps. Demand3: the theorems about lists of steps.
-- Sanity: what a reader of the definitions may want to be sure of.
pub mod Table
pub mod Lookups
pub mod Demand3
pub mod Sanity
