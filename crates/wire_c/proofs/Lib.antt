mod CallsLemmas
mod FailureLemmas
