pub mod FloatLemmas
pub mod InsideLemmas
pub mod PrintedLemmas
pub mod TableJsonLemmas
