pub mod DebugPaths
pub mod Outlines
