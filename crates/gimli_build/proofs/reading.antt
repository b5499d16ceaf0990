-- What is read of what was written.
pub mod RowRuns
pub mod EventsBack
pub mod NoFiles
pub mod ReadyTexts
pub mod TablesBack
pub mod ReadBack
