-- Entry: entries and their facts, as they are handed over. Inner: what only the code needs.
pub mod Entry
pub mod Inner
