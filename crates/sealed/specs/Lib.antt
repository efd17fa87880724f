pub mod Checksum
pub mod Seals
pub mod Sizes
