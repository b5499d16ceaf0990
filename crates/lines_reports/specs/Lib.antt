pub mod Coverage
pub mod Pieces
pub mod Spent
pub mod Tally
pub mod inside
