-- The bytes that are written spell what was built.
pub mod Spellings
pub mod ItemSpellings
pub mod TableSpellings
pub mod EncodingSpellings
pub mod TextForms
pub mod Version5TableSpellings
pub mod UnitSpellings
