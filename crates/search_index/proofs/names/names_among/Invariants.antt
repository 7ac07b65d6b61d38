use Rattle.std.proofs.Common.{take}
use Rattle.search_index.proofs.NameLemmas.{NamesSoFar}
use Rattle.search_index.proofs.names.names_among.Given as goal

-- the names of those so far that were found
abbrev pub invariant-loop-number : goal.invariant-loop-number
invariant-loop-number l = NamesSoFar l.objects l.scope l.found (take l.number-index l.numbers) l.names.items
