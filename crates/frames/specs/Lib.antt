pub mod Standing
pub mod Events
pub mod Sending
pub mod Seals
pub mod PlainLaws
pub mod CountedLaws
