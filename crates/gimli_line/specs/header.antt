-- Headers of line programs: what they say, and how they are spelled and read.
pub mod Parameters
pub mod File
pub mod Header
pub mod Orders
pub mod HeaderParts
pub mod Productions
pub mod HeaderGrammar
