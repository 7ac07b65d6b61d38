mod DepositLemmas
mod PlaceLemmas
