use Rattle.std.proofs.Common.{◌*◌, ◌+◌, ◌↔◌, drop}
use Rattle.query_text.specs.Items.{what_of}
use Rattle.query_text.specs.Query.{ands_of, ands_size, item_size, ors_of, ors_size}
use Rattle.search_query.specs.Matching.{Meets, MeetsAll}
use Rattle.search_query.proofs.matching.+meets.Given as goal

abbrev pub decreases-meets : goal.decreases-meets
decreases-meets l = 2 * ors_size l.query.now

abbrev pub decreases-meets_all : goal.decreases-meets_all
decreases-meets_all l = 2 * ands_size l.all_of.now

abbrev pub decreases-meets_item : goal.decreases-meets_item
decreases-meets_item l = 2 * item_size l.item.now + 1

abbrev pub decreases-meets_what : goal.decreases-meets_what
decreases-meets_what l = 2 * item_size (what_of l.what.now)

-- what is left decides
abbrev pub invariant-meets-loop-all_of : goal.invariant-meets-loop-all_of
invariant-meets-loop-all_of l = Meets (ors_of (drop l.all_of-index l.all_of-items)) l.pairs ↔ Meets l.query l.pairs

abbrev pub invariant-meets_all-loop-item : goal.invariant-meets_all-loop-item
invariant-meets_all-loop-item l = MeetsAll (ands_of (drop l.item-index l.item-items)) l.pairs ↔ MeetsAll l.all_of l.pairs
