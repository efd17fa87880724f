pub mod SummedLemmas
pub mod WritingLemmas
pub mod FoundLemmas
pub mod ChecksumLemmas
pub mod KeysLemmas
