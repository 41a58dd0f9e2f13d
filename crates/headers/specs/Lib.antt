-- What each call of the crate answers. Header: the fields of a header, one line a field. Headers: the step
-- over the headers of a section. Sanity: what is proved of these.
pub mod Header
pub mod Headers
pub mod Sanity
