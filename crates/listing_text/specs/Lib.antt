-- The listing of a section as text. Listing: its text. Written: what a step prints. Listed: what all steps
-- print.
pub mod Listing
pub mod Written
pub mod Listed
