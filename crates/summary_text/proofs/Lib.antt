-- Lemmas of the summary.
pub mod SmallRows
