pub mod Rows
pub mod SequenceSplit
