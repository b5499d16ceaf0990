pub mod EntryReading
pub mod HeaderGrammar
pub mod Outcome
