-- What each call of the crate answers. Strings: the string at an offset, and its bytes. Sanity: what is
-- proved of these.
pub mod Strings
pub mod Sanity
