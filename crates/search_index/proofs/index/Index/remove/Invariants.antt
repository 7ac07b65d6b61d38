-- Some postings of the object are out.
use Rattle.search_index.specs.Net.{used}
use Rattle.search_index.proofs.GoneLemmas.{Remains}
use Rattle.search_index.proofs.index.Index.remove.Given as goal

abbrev pub invariant-loop : goal.invariant-loop
invariant-loop l = Remains
    (record { scopes = l.initial.self-inside.scopes; objects = l.initial.self-inside.objects; terms = l.initial.self-inside.terms; net = l.initial.self-inside.postings })
    (record { scopes = l.self-inside.scopes; objects = l.self-inside.objects; terms = l.self-inside.terms; net = l.self-inside.postings })
    l.at.object

abbrev pub decreases-loop : goal.decreases-loop
decreases-loop l = used l.self-inside.postings
