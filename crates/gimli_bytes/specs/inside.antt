-- What no public clause reaches: private functions and proofs alone speak of it.
pub mod Ascending
pub mod Pieces
pub mod TextFields
