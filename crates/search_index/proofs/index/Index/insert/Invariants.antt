-- So many pairs have been given, the last first.
use Rattle.std.proofs.Common.{length}
use Rattle.search_index.proofs.GivenLemmas.{Given}
use Rattle.search_index.proofs.index.Index.insert.Given as goal

abbrev pub invariant-loop-pair : goal.invariant-loop-pair
invariant-loop-pair l = Given
    (record { scopes = l.initial.self-inside.scopes; objects = l.initial.self-inside.objects; terms = l.initial.self-inside.terms; net = l.initial.self-inside.postings })
    (record { scopes = l.self-inside.scopes; objects = l.self-inside.objects; terms = l.self-inside.terms; net = l.self-inside.postings })
    l.number l.object l.fn.name l.fn.pairs l.left.items

abbrev pub decreases-loop-pair : goal.decreases-loop-pair
decreases-loop-pair l = length l.left.items
