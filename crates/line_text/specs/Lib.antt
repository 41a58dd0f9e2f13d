-- What the lines of a listing look like. Text: the bytes of each line. Room: the code's struct, and room in
-- it. Sanity: that decimal digits are right, and examples.
pub mod Text
pub mod Room
pub mod Sanity
