mod TopsLemmas
mod TakingLemmas
mod FrontsLemmas
mod MapsLemmas
mod KindsLemmas
mod TablesLemmas
mod AgreeingLemmas
