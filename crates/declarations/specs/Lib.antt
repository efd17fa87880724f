pub mod Candidates
pub mod KnownNodes
pub mod NameRule
pub mod Tables
pub mod TypeWords
