-- Units that a linker completes.
pub mod Lengths
pub mod PlacedUnits
pub mod FoundTexts
