use Rattle.std.proofs.Common.{◌*◌, ◌+◌, drop}
use Rattle.query_text.specs.Items.{what_of}
use Rattle.query_text.specs.Query.{ands_of, ands_size, item_size, ors_of, ors_size}
use Rattle.search_index.proofs.SeekLemmas.{AllSoFar, AnySoFar}
use Rattle.search_index.proofs.seek.+seek.Given as goal

abbrev pub decreases-any : goal.decreases-any
decreases-any l = 2 * ors_size l.query.now

abbrev pub decreases-all : goal.decreases-all
decreases-all l = 2 * ands_size l.all_of.now

abbrev pub decreases-one : goal.decreases-one
decreases-one l = 2 * item_size l.item.now + 1

abbrev pub decreases-plain : goal.decreases-plain
decreases-plain l = 2 * item_size (what_of l.what.now)

-- what is left decides, where no part so far is met
abbrev pub invariant-any-loop-all_of : goal.invariant-any-loop-all_of
invariant-any-loop-all_of l = AnySoFar l.terms l.postings l.scope l.among l.query (ors_of (drop l.all_of-index l.all_of-items)) l.missing

-- what is left decides, where each item so far is met
abbrev pub invariant-all-loop-item : goal.invariant-all-loop-item
invariant-all-loop-item l = AllSoFar l.terms l.postings l.scope l.among l.all_of (ands_of (drop l.item-index l.items)) l.found
