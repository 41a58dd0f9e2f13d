-- Answers: outcomes as answers of one number.
pub mod Answers
