pub mod Findings
pub mod LineQuestions
pub mod Words
