-- What no public clause reaches: private functions and proofs alone speak of it.
pub mod FirstPair
pub mod Section
pub mod SequenceCut
pub mod UnitSearch
pub mod Statements
pub mod Steps
pub mod Paths
