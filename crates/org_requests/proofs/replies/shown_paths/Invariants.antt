use Rattle.std.proofs.Common.{◌≡◌, ◌++◌, List, ℕ, drop, map}
use Rattle.doc_tree.specs.Doc.{words}
use Rattle.org_requests.proofs.replies.shown_paths.Given as goal

abbrev pub invariant-loop-name : goal.invariant-loop-name
invariant-loop-name l =
    l.fields ++ map (λ (name : List ℕ). (name, words (l.front ++ name))) (drop l.name-index l.names)
    ≡ map (λ (name : List ℕ). (name, words (l.front ++ name))) l.names
