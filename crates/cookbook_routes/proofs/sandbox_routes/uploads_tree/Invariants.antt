use Rattle.std.proofs.Common.{◌≡◌, ◌++◌, List, ℕ, drop, map}
use Rattle.sandboxes.specs.Files.{holding_of}
use Rattle.cookbook_routes.specs.Sandboxes.{upload_doc}
use Rattle.cookbook_routes.proofs.sandbox_routes.uploads_tree.Given as goal

abbrev pub invariant-loop-sum : goal.invariant-loop-sum
invariant-loop-sum l =
    l.fields ++ map (λ (sum : List ℕ). (sum, upload_doc l.org (holding_of l.files l.org) sum)) (drop l.sum-index l.sums)
    ≡ map (λ (sum : List ℕ). (sum, upload_doc l.org (holding_of l.files l.org) sum)) l.sums
