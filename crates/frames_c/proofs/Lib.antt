mod PushedLemmas
mod ReadLemmas
