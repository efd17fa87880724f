pub mod DecodingLemmas
pub mod WholeLemmas
pub mod FirstLemmas
pub mod SessionsLemmas
