-- Handles: what a caller's numbers stand for, and the numbers in which an index and a cursor are handed over.
-- Sanity: what is proved of these.
pub mod Handles
pub mod Sanity
