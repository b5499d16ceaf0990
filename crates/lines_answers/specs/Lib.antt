pub mod Indexes
pub mod MadeIndexes
