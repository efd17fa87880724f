pub mod Same
pub mod Trees
pub mod Kinds
