-- What no public clause reaches: private functions and proofs alone speak of it.
pub mod Causes
pub mod Handed
pub mod Run
pub mod Unit
pub mod Told
pub mod Place
