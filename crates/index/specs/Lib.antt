-- What each call of the crate answers. Words: a word of a list. Layout: where the parts of an index lie, and
-- when an index fits. Open: an index opened, and an index from a header. Inner: what only the code needs.
-- Sanity: what is proved of these.
pub mod Words
pub mod Layout
pub mod Open
pub mod Inner
pub mod Sanity
