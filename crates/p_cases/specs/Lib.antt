pub mod Cases
pub mod CaseA
pub mod Exported
pub mod Lost
pub mod Queries
pub mod Split
pub mod Texts
