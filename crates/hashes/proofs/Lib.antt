-- Laws of the definitions, a file for each file of specs/. Callers cite these, and do not unfold.
pub mod TableLaws
pub mod LookupLaws
