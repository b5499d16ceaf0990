mod Names
pub mod Worked
pub mod WorkedCompression
pub mod WorkedRelocations
mod Headers
mod StepLaws
mod Written
mod CodeBounds
mod TableNames
mod Checksums
mod NoteLists
pub mod WorkedDebug
mod FileRanges
mod Seeks
mod SoughtFiles
mod SoughtData
