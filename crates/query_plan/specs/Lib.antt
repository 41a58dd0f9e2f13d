-- Plans: what a query answers, and what there is to write. Inner: what only the code needs.
pub mod Plans
pub mod Inner
