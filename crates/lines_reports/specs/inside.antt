-- What no public clause reaches: private functions and proofs alone speak of it.
pub mod Changes
pub mod Progress
pub mod Sizes
