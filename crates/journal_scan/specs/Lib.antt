pub mod Stretches
pub mod Scanning
pub mod Tallies
pub mod Closing
pub mod Checks
pub mod Repairs
pub mod Opening
