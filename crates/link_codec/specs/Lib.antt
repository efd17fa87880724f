pub mod Gives
pub mod Laws
pub mod Decoders
pub mod Encoding
pub mod Beside
pub mod Whole
pub mod Told
