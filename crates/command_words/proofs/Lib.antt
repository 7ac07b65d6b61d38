mod NumberLemmas
mod WordLemmas
mod OptionLemmas
mod ServerLemmas
mod GivenLemmas
