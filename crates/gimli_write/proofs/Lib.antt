pub mod Common
pub mod ReadTexts
pub mod ReadRuns
pub mod ReadUnits
pub mod RoundTrips
pub mod BuiltAnswers
pub mod ConvertSteps
pub mod ConvertHeader
pub mod SourceReadings
pub mod SourceSteps
pub mod SourceFromBytes
pub mod MappedRows
pub mod MovedRows
pub mod MappedFiles
pub mod Conversions
mod TablesAtEnd
mod KeptFiles
mod Writable
pub mod Outcomes
pub mod MappedLaws
pub mod MovedLaws
mod WorkedConversions
mod Tombstones
mod SourceReadBack
pub mod Gathers
mod ReadLemmas
