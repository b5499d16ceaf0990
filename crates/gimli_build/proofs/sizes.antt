-- How many bytes what is written has.
pub mod Steps
pub mod RowSizes
pub mod UnitSizes
pub mod Saturated
pub mod ItemSizes
pub mod TableSizes
pub mod UnitLengths
