mod Folders
pub mod Worked
