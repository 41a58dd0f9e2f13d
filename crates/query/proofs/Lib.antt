-- What the proof of `query` uses, and that a refused query changes no record.
pub mod Runs
pub mod RefusalLaws
