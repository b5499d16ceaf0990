-- Calls that append, one after the other.
pub mod Joined
pub mod Writes
pub mod InstructionsWritten
pub mod Frames
pub mod ItemsWritten
pub mod WrittenParts
