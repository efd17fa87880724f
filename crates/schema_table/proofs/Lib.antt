mod DifferLemmas
mod LooksLemmas
mod PushedLemmas
