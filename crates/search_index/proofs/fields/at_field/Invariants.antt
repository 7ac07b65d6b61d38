use Rattle.std.proofs.Common.{take}
use Rattle.search_index.proofs.SeekLemmas.{AtSoFar}
use Rattle.search_index.proofs.fields.at_field.Given as goal

-- the objects of the terms so far that give what is wanted
abbrev pub invariant-loop-term : goal.invariant-loop-term
invariant-loop-term l = AtSoFar l.terms l.postings l.scope l.field l.wanted (take l.term-index l.term-items) l.found.items
