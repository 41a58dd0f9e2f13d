-- What each call of the crate answers. Leb128: the number at a place, and 7.6's encoder. Sanity: what is
-- proved of these. Inner: what only the code needs.
pub mod Leb128
pub mod Sanity
pub mod Inner
