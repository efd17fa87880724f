pub mod Memory
pub mod Span
pub mod Lending
