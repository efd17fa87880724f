pub mod MemoryValuesLemmas
pub mod MemorySharingLemmas
pub mod MemoryCutLemmas
pub mod SpanLemmas
