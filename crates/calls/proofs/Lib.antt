pub mod RepliesLemmas
pub mod AskingLemmas
pub mod WaitedLemmas
