pub mod ProvedLemmas
pub mod StrictLemmas
pub mod ValuedLemmas
pub mod PushingLemmas
pub mod RunHeardLemmas
pub mod CrashesLemmas
pub mod TellingLemmas
pub mod StepwiseLemmas
