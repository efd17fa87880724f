pub mod Status
pub mod Answers
