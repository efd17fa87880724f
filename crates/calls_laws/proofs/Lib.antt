pub mod FrontsLemmas
pub mod OutcomesLemmas
pub mod StepsLemmas
pub mod EchoLemmas
pub mod SaysLemmas
