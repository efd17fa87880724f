pub mod Settling
pub mod Checking
pub mod Statuses
pub mod Lines
