-- What each call of the crate answers. Counts, Units, Names and Declarations follow the files of src/.
-- Sanity: the theorem on the steps over the names.
pub mod Counts
pub mod Units
pub mod Names
pub mod Declarations
pub mod Sanity
