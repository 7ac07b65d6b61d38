mod SiteLemmas
mod AloneLemmas
mod EndingLemmas
mod WordLemmas
mod DemoLemmas
mod KnifeLemmas
mod ContractLemmas
mod NoteLemmas
