pub mod Digits
pub mod OrderAndSize
