-- What no public clause reaches: private functions and proofs alone speak of it.
pub mod Components
pub mod Numbered
pub mod Numbers
pub mod Order
pub mod Paths
pub mod Ranks
pub mod Table
pub mod Turns
pub mod Begun
pub mod Kept
