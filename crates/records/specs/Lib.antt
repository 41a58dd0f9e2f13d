-- What is shown of an entry. Units: the choice of its unit. Records: its record, where it stands and what is
-- shown. Sanity: what is proved of the choice.
pub mod Units
pub mod Records
pub mod Sanity
