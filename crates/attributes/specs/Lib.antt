-- What each call of the crate answers. Attributes: the values of an entry's attributes, and the first of each
-- name. Meaning: what such an attribute says. Sanity: what is proved of these. Inner: what only the code
-- needs.
pub mod Attributes
pub mod Meaning
pub mod Sanity
pub mod Inner
