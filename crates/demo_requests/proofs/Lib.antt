mod DrawLemmas
mod RequestLemmas
