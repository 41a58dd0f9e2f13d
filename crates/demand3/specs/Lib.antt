-- Demand 3. Expected: the entries that a query has to find, without any search. Demand3: the statement, in
-- its three parts.
pub mod Expected
pub mod Demand3
