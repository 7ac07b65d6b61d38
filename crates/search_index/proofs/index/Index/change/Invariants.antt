-- So many of the new pairs are settled, from the first on.
use Rattle.std.proofs.Common.{◌≡◌, List, length, reverse, ℕ}
use Rattle.search_index.specs.Merge.{Merges}
use Rattle.search_index.proofs.MergeLemmas.{start}
use Rattle.search_index.proofs.index.Index.change.Given as goal

abbrev pub invariant-loop-pair : goal.invariant-loop-pair
invariant-loop-pair l = (name : List ℕ)
    × Merges (start (record { scopes = l.initial.self-inside.scopes; objects = l.initial.self-inside.objects; terms = l.initial.self-inside.terms; net = l.initial.self-inside.postings }) name (reverse l.fn.pairs)) l.self-inside.terms l.self-inside.postings l.scope l.object l.left.items l.before
    × (l.self-inside.scopes ≡ l.initial.self-inside.scopes) × (l.self-inside.objects ≡ l.initial.self-inside.objects)

abbrev pub decreases-loop-pair : goal.decreases-loop-pair
decreases-loop-pair l = length l.left.items
