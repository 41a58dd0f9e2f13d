-- What each call of the crate answers. Forms: the twelve readings. Sanity: what is proved of these.
pub mod Forms
pub mod Sanity
