-- What no public clause reaches: private functions and proofs alone speak of it.
pub mod Value
pub mod AbbreviationReading
pub mod Unit
pub mod AbbreviationTable
pub mod Seen
pub mod TextEnds
