pub mod WalkingLemmas
pub mod StandingLemmas
pub mod GapsLemmas
pub mod MapLemmas
pub mod StretchesLemmas
pub mod AnewLemmas
