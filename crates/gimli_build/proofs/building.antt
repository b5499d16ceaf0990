-- What builder calls keep, and equality.
pub mod TableLemmas
pub mod Equality
pub mod SourceLemmas
pub mod FormatLemmas
pub mod TrapLemmas
