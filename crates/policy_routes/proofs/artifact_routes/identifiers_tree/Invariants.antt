-- The artifacts so far.
use Rattle.std.proofs.Common.{◌≡◌, map, take, List, ℕ}
use Rattle.doc_tree.specs.Doc.{Doc}
use Rattle.policy_routes.specs.Artifacts.{artifact_doc}
use Rattle.policy_routes.proofs.artifact_routes.identifiers_tree.Given as goal

abbrev pub invariant-loop-id : goal.invariant-loop-id
invariant-loop-id l = l.trees ≡ map (λ (entry : List ℕ × Doc). artifact_doc l.org l.name entry.0) (take l.id-index l.entries)
