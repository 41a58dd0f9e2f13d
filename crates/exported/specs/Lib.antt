-- Query: what a query hands over, with the records that it was lent. Sanity: a refused query changes no
-- record. Demand3: what lists of exported steps list, and what the exported query finds.
pub mod Query
pub mod Sanity
pub mod Demand3
