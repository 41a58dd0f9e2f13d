-- Laws of the definitions, a file for each file of specs/. Callers cite these, and do not unfold.
pub mod OutcomeLaws
pub mod ErrorLaws
pub mod PartLaws
pub mod NumberLaws
pub mod ListingLaws
pub mod ListLaws
pub mod StepLaws
