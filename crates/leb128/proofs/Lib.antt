-- Laws of the definitions. Callers cite these, and do not unfold.
pub mod Leb128Laws
pub mod Leb128Limits
pub mod Leb128Bytes
