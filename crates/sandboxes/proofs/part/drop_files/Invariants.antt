use Rattle.std.proofs.Common.{◌≡◌, ◌≤◌, ℕ, List, None, cond, bytes_eq, take}
use Rattle.indexmap.specs.IndexMap.{get, spare}
use Rattle.sandboxes.specs.Sums.{lists}
use Rattle.sandboxes.proofs.part.drop_files.Given as goal

-- the files so far are gone
abbrev pub invariant-loop-sum : goal.invariant-loop-sum
invariant-loop-sum l = record {
  gone : (q : List ℕ) → get bytes_eq l.files q ≡ cond (lists (take l.sum-index l.sum-items) q) None (get bytes_eq l.initial.files q);
  room : spare l.initial.files ≤ spare l.files;
}
