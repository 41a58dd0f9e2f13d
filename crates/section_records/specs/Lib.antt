-- Records: the records of a section. Sanity: what a reader of the definitions may want to be sure of. Inner:
-- what only the code needs.
pub mod Records
pub mod Sanity
pub mod Inner
