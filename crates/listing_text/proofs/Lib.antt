-- Laws of the definitions. Callers cite these, and do not unfold.
pub mod TextLaws
