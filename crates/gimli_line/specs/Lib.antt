pub mod Prelude
pub mod LineNumbers
pub mod header
pub mod run
pub mod Units
pub mod inside
