pub mod Appended
pub mod TableJson
pub mod TokenLaws
