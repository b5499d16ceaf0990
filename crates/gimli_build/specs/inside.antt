-- What no public clause reaches: private functions and proofs alone speak of it.
pub mod Conditions
pub mod EmptySource
pub mod ItemSizes
pub mod LentDetails
pub mod ReadAs
pub mod Tables
pub mod TableFields
pub mod Writes
