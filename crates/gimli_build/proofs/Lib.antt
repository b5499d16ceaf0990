pub mod Common
pub mod writing
pub mod sizes
pub mod refusals
pub mod spellings
pub mod reading
pub mod building
pub mod linking
mod WorkedUnits
