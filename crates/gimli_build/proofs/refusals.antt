-- What a program is refused for.
pub mod Causes
pub mod FirstCauses
pub mod FoundCauses
pub mod FirstRefusals
