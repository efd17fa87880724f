pub mod Flags
pub mod Status
pub mod Streams
pub mod Texts
