-- Laws of the definitions. Callers cite these, and do not unfold.
pub mod CandidateLaws
pub mod MatchLaws
pub mod RecordLaws
