-- Query: what the query answers, and the records that it was lent, as they are at exit. Sanity: what is
-- proved of it.
pub mod Query
pub mod Sanity
