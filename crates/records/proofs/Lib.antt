pub mod SettlingLemmas
pub mod CheckingLemmas
