-- The proof of demand 3. HeaderLaws: what header steps list. ListLaws: lists that can be counted. QueryLaws: the query, and demand 3.
pub mod HeaderLaws
pub mod ListLaws
pub mod QueryLaws
