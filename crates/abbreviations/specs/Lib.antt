-- What each call of the crate answers. Abbreviations: the table as a list of declarations, and the search in
-- it. Sanity: what is proved of these. Inner: what only the code needs.
pub mod Abbreviations
pub mod Sanity
pub mod Inner
