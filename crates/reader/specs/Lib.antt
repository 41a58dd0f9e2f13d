-- What each call of the crate answers. Outcome: an answer or a refusal. Errors: the refusals' numbers and
-- values. Parts: bytes of a part. Numbers: fixed width, words, initial length. Answers: the outcome of an
-- answer of the code. For the crates above: Steps of a cursor; Listing, what stands one after another in a
-- part; Lists of numbers, and tests on lists.
pub mod Outcome
pub mod Errors
pub mod Parts
pub mod Numbers
pub mod Answers
pub mod Steps
pub mod Listing
pub mod Lists
pub mod Sanity
