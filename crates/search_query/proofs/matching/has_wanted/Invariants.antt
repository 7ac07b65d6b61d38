use Rattle.std.proofs.Common.{◌↔◌, drop}
use Rattle.search_query.specs.Matching.{HasWanted}
use Rattle.search_query.proofs.matching.has_wanted.Given as goal

-- the pairs that are left decide
abbrev pub invariant-loop-pair : goal.invariant-loop-pair
invariant-loop-pair l = HasWanted l.field l.wanted (drop l.pair-index l.pairs) ↔ HasWanted l.field l.wanted l.pairs
