mod DecidingLemmas
mod EndingLemmas
mod EventsLemmas
mod CountsLemmas
mod RunsLemmas
mod SumsLemmas
