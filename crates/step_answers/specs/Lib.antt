-- Steps: headers, strings, the lookups over buckets and hashes with their steps, and the table check, as they
-- are handed over.
pub mod Steps
