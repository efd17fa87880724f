pub mod Heard
pub mod Headline
pub mod Exchange
pub mod Echo
