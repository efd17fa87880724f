pub mod Floats
pub mod InRange
pub mod Meant
pub mod Parsed
pub mod Refused
pub mod RoundTrip
