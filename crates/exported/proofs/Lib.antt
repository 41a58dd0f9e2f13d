-- CallLaws: what the step of a caller's cursor has to tell makes what a list of them tells. LookupLaws: the steps over buckets and hashes.
-- NumberedLaws: no refusal of a series, a header step or a table check has the number 0. EntryLaws: the steps over entries. QueryLaws: the query.
pub mod CallLaws
pub mod LookupLaws
pub mod NumberedLaws
pub mod EntryLaws
pub mod QueryLaws
