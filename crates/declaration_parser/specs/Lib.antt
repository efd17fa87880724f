pub mod Marked
pub mod Silent
pub mod Standing
