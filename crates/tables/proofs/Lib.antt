-- Laws of the definitions. Callers cite these, and do not unfold.
pub mod SegmentLaws
pub mod CheckLaws
pub mod CompleteLaws
pub mod LostLaws
