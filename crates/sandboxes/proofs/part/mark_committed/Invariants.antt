use Rattle.std.proofs.Common.{◌≡◌, ℕ, List, option_map, bytes_eq, take}
use Rattle.indexmap.specs.IndexMap.{get, spare}
use Rattle.sandboxes.proofs.StockLemmas.{mark}
use Rattle.sandboxes.proofs.part.mark_committed.Given as goal

-- the files so far are committed
abbrev pub invariant-loop-sum : goal.invariant-loop-sum
invariant-loop-sum l = record {
  marks : (q : List ℕ) → get bytes_eq l.files q ≡ option_map (mark (take l.sum-index l.sum-items) q) (get bytes_eq l.initial.files q);
  room : spare l.files ≡ spare l.initial.files;
}
