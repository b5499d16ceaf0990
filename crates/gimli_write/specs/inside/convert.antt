pub mod Conversion
pub mod SourceRun
pub mod Tombstones
