-- What a listing shows. Names: the line of a name. Indexes: the line of an index. Lines: the lines of a
-- section, and the steps over them. Listed: the theorem about lists of steps.
pub mod Names
pub mod Indexes
pub mod Lines
pub mod Listed
