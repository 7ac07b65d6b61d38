-- What makers tell of the peer that they hold.
use Rattle.std.specs.Prelude.{ℕ, List, Option}
use Rattle.talks.specs.Talk.{Line}

-- a connection: what it has left to give and what it has gained, where it tells these, and its count of faults
pub record Peer : Type 0 where
  pub line : Line
  pub faults : ℕ

-- a peer with this left to give and this gained, which has failed so often
abbrev pub peer_with : Option (List ℕ) → Option (List ℕ) → ℕ → Peer
peer_with left gained faults = record { line = record { left = left; gained = gained }; faults = faults }
